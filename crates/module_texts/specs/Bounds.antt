-- How large modules of texts in the profile are (README.md).
use Rattle.std.specs.Prelude.{◌≡◌, ℕ, ◌<◌, ◌≤◌, List, Some, length}
use Rattle.beam_code.specs.declared.module.Module.{Module}
use Rattle.beam_code.specs.Function.{Placed, all_functions, exported_number, function_at, items_of}
use Rattle.path_rules.specs.declared.limits.TheConstants.{MOST_UNITS}

-- the most arguments of a function
abbrev pub most_arguments : ℕ
most_arguments = 255

-- functions and items are no more than units may be, calls begin at an item, and no function that is exported has more
-- arguments than a form can say
pub record AreBounded (ms : List Module) : Type 0 where
  pub functions : length (all_functions ms) ≤ MOST_UNITS
  pub items : items_of ms ≤ MOST_UNITS
  pub entries : (fid : ℕ) (p : Placed) → function_at ms fid ≡ Some p → p.function.entry < length p.function.items
  pub arities : (owner name : List ℕ) (arity fid : ℕ) → exported_number ms owner name arity ≡ Some fid → arity ≤ most_arguments
