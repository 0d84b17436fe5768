-- The texts so far, and those of the modules that are left.
use Rattle.std.proofs.Common.{◌≡◌, ◌++◌, drop, map}
use Rattle.trivial_code.proofs.building.texts.Given as goal

abbrev pub invariant-loop-m : goal.invariant-loop-m
invariant-loop-m l = l.texts ++ map (λ m. m.text) (drop l.m-index l.modules) ≡ map (λ m. m.text) l.modules
