-- How many items a module has.
use Rattle.std.specs.Prelude.{ℕ, ◌+◌, List, [], ◌∷◌, length}
use Rattle.beam_code.specs.declared.module.Function.{Function}

abbrev pub item_count : List Function → ℕ
item_count [] = 0
item_count (f ∷ fs) = length f.items + item_count fs
