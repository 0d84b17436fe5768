-- The profile: modules that are told apart by their names, are not too large, and keep every rule (docs/BEAM.md, Rules).
use Rattle.std.specs.Prelude.{◌≡◌, ℕ, ◌+◌, ◌≤◌, false, List, [], ◌∷◌, length}
use Rattle.std.specs.List.{Contains}
use Rattle.std.proofs.Math.Bool.{Bool-set}
use mathlib.Core.HLevel.{×_prop, Unit-prop}
use Rattle.beam_code.specs.Lined.{Lined}
use Rattle.beam_code.specs.declared.module.Module.{Module}
use Rattle.beam_code.specs.Function.{Placed, all_functions, is_given}
use Rattle.beam_code.specs.Uses.{units}
use Rattle.path_rules.specs.declared.limits.TheConstants.{MOST_MODULES, MOST_FUNCTION_UNITS, MOST_UNITS}
use Rattle.path_rules.specs.declared.rule.Rule.{Rule}
use Rattle.path_rules.specs.Rules.{RuleHolds}

-- the units of a function's items together
abbrev pub units_of : List Lined → ℕ
units_of [] = 0
units_of (i ∷ is) = units i.instr + units_of is

abbrev pub units_in : List Placed → ℕ
units_in [] = 0
units_in (f ∷ fs) = units_of f.function.items + units_in fs

-- no two modules have one name
abbrev pub AreDistinct : List Module → Type 0
AreDistinct [] = Unit {0}
AreDistinct (m ∷ ms) = (is_given ms m.name ≡ false) × AreDistinct ms

-- which is one fact
pub distinct_prop : (ms : List Module) → IsProp (AreDistinct ms)
distinct_prop [] = Unit-prop
distinct_prop (m ∷ ms) = ×_prop (Bool-set _ _) (distinct_prop ms)

-- at most so many modules, and so many units in a function and in all
pub record AreFew (ms : List Module) : Type 0 where
  pub modules : length ms ≤ MOST_MODULES
  pub each : (f : Placed) → Contains (all_functions ms) f → units_of f.function.items ≤ MOST_FUNCTION_UNITS
  pub all : units_in (all_functions ms) ≤ MOST_UNITS

pub record InProfile (ms : List Module) : Type 0 where
  pub distinct : AreDistinct ms
  pub few : AreFew ms
  pub rules : (f : Placed) → Contains (all_functions ms) f → (rule : Rule) → RuleHolds ms f rule
