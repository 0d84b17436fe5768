-- What is left gives, behind what x0 has, what all gives.
use Rattle.std.proofs.Common.{◌≡◌, drop}
use Rattle.trivial_code.specs.declared.trivial.Origin.TheVariants.{Argument}
use Rattle.trivial_code.specs.Trivial.{origin_from}
use Rattle.trivial_code.proofs.trivial.origin_from.Given as goal

abbrev pub invariant-loop-i : goal.invariant-loop-i
invariant-loop-i l = origin_from l.i l.so (drop l.i l.items) ≡ origin_from l.from (Argument 0) (drop l.from l.items)
