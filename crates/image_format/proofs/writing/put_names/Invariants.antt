use Rattle.std.proofs.Common.{take}
use Rattle.image_format.specs.Fitting.{IsName}
use Rattle.image_format.specs.Spelling.{text, PutsAll}
use Rattle.image_format.proofs.writing.put_names.Given as goal

abbrev pub invariant-loop-name : goal.invariant-loop-name
invariant-loop-name l = PutsAll text IsName (take l.name-index l.names) l.fn.out.items l.out.items
