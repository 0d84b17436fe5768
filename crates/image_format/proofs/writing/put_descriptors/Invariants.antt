use Rattle.std.proofs.Common.{take}
use Rattle.image_format.specs.Fitting.{IsSizedDescriptor}
use Rattle.image_format.specs.Spelling.{descriptor, PutsAll}
use Rattle.image_format.proofs.writing.put_descriptors.Given as goal

abbrev pub invariant-loop-d : goal.invariant-loop-d
invariant-loop-d l = PutsAll descriptor IsSizedDescriptor (take l.d-index l.descriptors) l.fn.out.items l.out.items
