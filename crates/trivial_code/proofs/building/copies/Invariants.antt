-- The copies so far, and the names that are left.
use Rattle.std.proofs.Common.{◌≡◌, ◌++◌, drop}
use Rattle.trivial_code.proofs.building.copies.Given as goal

abbrev pub invariant-loop-name : goal.invariant-loop-name
invariant-loop-name l = l.copies ++ drop l.name-index l.names ≡ l.names
