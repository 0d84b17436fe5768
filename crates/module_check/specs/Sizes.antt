-- How many units are left behind functions, of so many (docs/BEAM.md, Rules).
use Rattle.std.specs.Prelude.{ℕ, ◌-◌, Option, Some, None, List, [], ◌∷◌, nat_le, if◌then◌else◌, option_and_then}
use Rattle.beam_code.specs.declared.module.Function.{Function}
use Rattle.beam_code.specs.Function.{Placed}
use Rattle.path_rules.specs.declared.limits.TheConstants.{MOST_FUNCTION_UNITS}
use Rattle.path_rules.specs.Profile.{units_of}

-- what is left of a number where so much is taken, if there is enough
abbrev pub left : ℕ → ℕ → Option ℕ
left most taken = if nat_le taken most then Some (most - taken) else None

-- the same for the units of a function, which has not too many itself
abbrev pub left_behind : ℕ → Function → Option ℕ
left_behind most f = if nat_le (units_of f.items) MOST_FUNCTION_UNITS then left most (units_of f.items) else None

abbrev pub left_behind_all : ℕ → List Placed → Option ℕ
left_behind_all most [] = Some most
left_behind_all most (f ∷ fs) = option_and_then (λ n. left_behind_all n fs) (left_behind most f.function)
