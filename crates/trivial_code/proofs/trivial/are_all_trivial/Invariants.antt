-- What is left is trivial exactly where all is.
use Rattle.std.proofs.Common.{◌≡◌, drop}
use Rattle.std.specs.List.{list_all}
use Rattle.trivial_code.specs.Trivial.{is_trivial}
use Rattle.trivial_code.proofs.trivial.are_all_trivial.Given as goal

abbrev pub invariant-loop-f : goal.invariant-loop-f
invariant-loop-f l = list_all is_trivial (drop l.f-index l.functions) ≡ list_all is_trivial l.functions
