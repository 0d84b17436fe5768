-- The first module whose name came before.
use Rattle.std.specs.Prelude.{ℕ, ◌+◌, Option, Some, None, List, [], ◌∷◌, ◌++◌, if◌then◌else◌}
use Rattle.std.specs.List.{list_any}
use Rattle.beam_code.specs.declared.module.Module.{Module}
use Rattle.beam_code.specs.Function.{same_name}

-- its number, where the modules before these have these names, and the first of these this number
abbrev pub second_from : List (List ℕ) → ℕ → List Module → Option ℕ
second_from names number [] = None
second_from names number (m ∷ ms) = if list_any (same_name m.name) names then Some number else second_from (names ++ m.name ∷ []) (number + 1) ms
