-- How many items functions have, and where calls of modules may begin (docs/BEAM.md, Functions).
use Rattle.std.specs.Prelude.{ℕ, ◌≡◌, ◌+◌, ◌≤◌, List, [], ◌∷◌, Some, length}
use Rattle.beam_code.specs.Function.{Placed, function_at, items_of}
use Rattle.beam_code.specs.declared.module.Function.{Function}
use Rattle.beam_code.specs.declared.module.Module.{Module}
use Rattle.mode_switch.specs.declared.addresses.TheConstants.{MOST_ITEMS}

-- how many items these functions have together
abbrev pub length_sum : List Function → ℕ
length_sum [] = 0
length_sum (f ∷ fs) = length f.items + length_sum fs

-- items have numbers, and the entry of a function is one of its items, or lies behind them
pub record IsLoadable (modules : List Module) : Type 0 where
  pub items : items_of modules ≤ MOST_ITEMS
  pub entries : (fid : ℕ) (p : Placed) → function_at modules fid ≡ Some p → p.function.entry ≤ length p.function.items
