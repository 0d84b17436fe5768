-- What came so far, with what is left.
use Rattle.std.proofs.Common.{◌≡◌, ◌||◌, ℕ, List, drop}
use Rattle.std.specs.List.{list_any}
use Rattle.function_numbers.specs.Keys.{has_name, is_of_function}
use Rattle.function_numbers.proofs.names.add_functions.Given as goal

abbrev pub invariant-loop-function : goal.invariant-loop-function
invariant-loop-function l =
    (n : List ℕ) → (has_name l.names.keys n || list_any (is_of_function n) (drop l.function-index l.functions)) ≡ (has_name l.initial.names.keys n || list_any (is_of_function n) l.functions)
