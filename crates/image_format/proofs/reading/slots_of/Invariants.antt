use Rattle.std.proofs.Common.{◌≡◌}
use Rattle.std.specs.Prelude.{filter}
use Rattle.image_format.specs.Mask.{is_live, numbers}
use Rattle.image_format.proofs.reading.slots_of.Given as goal

abbrev pub invariant-loop-slot : goal.invariant-loop-slot
invariant-loop-slot l = l.slots ≡ filter (is_live l.words) (numbers l.slot 0)
