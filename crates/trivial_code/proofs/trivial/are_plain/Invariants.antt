-- What is left is plain exactly where all is.
use Rattle.std.proofs.Common.{◌≡◌, drop}
use Rattle.trivial_code.specs.Trivial.{are_plain}
use Rattle.trivial_code.proofs.trivial.are_plain.Given as goal

abbrev pub invariant-loop-item : goal.invariant-loop-item
invariant-loop-item l = are_plain (drop l.item-index l.items) ≡ are_plain l.items
