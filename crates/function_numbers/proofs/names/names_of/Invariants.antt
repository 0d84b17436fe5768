-- What came so far, with what is left.
use Rattle.std.proofs.Common.{◌≡◌, ◌||◌, ℕ, List, drop}
use Rattle.std.specs.List.{list_any}
use Rattle.function_numbers.specs.Keys.{has_name, mentions}
use Rattle.function_numbers.proofs.names.names_of.Given as goal

abbrev pub invariant-loop-module : goal.invariant-loop-module
invariant-loop-module l =
    (n : List ℕ) → (has_name l.names.keys n || list_any (mentions n) (drop l.module-index l.modules)) ≡ list_any (mentions n) l.modules
