-- What is left is trivial exactly where all is.
use Rattle.std.proofs.Common.{◌≡◌, drop}
use Rattle.trivial_code.specs.Trivial.{are_trivial}
use Rattle.trivial_code.proofs.trivial.are_trivial.Given as goal

abbrev pub invariant-loop-m : goal.invariant-loop-m
invariant-loop-m l = are_trivial (drop l.m-index l.checked) ≡ are_trivial l.checked
