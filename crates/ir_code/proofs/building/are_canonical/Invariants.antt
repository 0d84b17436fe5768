-- If the terms of those that are left are canonical, all are.
use Rattle.std.proofs.Common.{◌≡◌, drop}
use Rattle.std.specs.List.{list_all}
use Rattle.beam_code.specs.CanonicalModule.{are_canonical_functions}
use Rattle.ir_code.proofs.building.are_canonical.Given as goal

abbrev pub invariant-loop-m : goal.invariant-loop-m
invariant-loop-m l = list_all (λ m. are_canonical_functions m.functions) (drop l.m-index l.modules) ≡ list_all (λ m. are_canonical_functions m.functions) l.modules
