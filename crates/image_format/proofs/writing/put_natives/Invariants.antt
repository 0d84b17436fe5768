use Rattle.std.proofs.Common.{take}
use Rattle.image_format.specs.Fitting.{IsSizedNative}
use Rattle.image_format.specs.Spelling.{native, PutsAll}
use Rattle.image_format.proofs.writing.put_natives.Given as goal

abbrev pub invariant-loop-n : goal.invariant-loop-n
invariant-loop-n l = PutsAll native IsSizedNative (take l.n-index l.natives) l.fn.out.items l.out.items
