-- What `check` says of modules in the profile (docs/COMMANDS.md, check).
use Rattle.std.specs.Prelude.{ℕ, ◌+◌, List, [], ◌∷◌, ◌++◌, codes, decimal, length}
use Rattle.beam_code.specs.declared.module.Function.{Function}
use Rattle.beam_code.specs.declared.module.Module.{Module}
use Rattle.path_rules.specs.Profile.{units_of}
use Rattle.term_tree.specs.Text.{atom_text}

-- the units of these functions together
abbrev pub units_among : List Function → ℕ
units_among [] = 0
units_among (f ∷ fs) = units_of f.items + units_among fs

abbrev pub counts_text : ℕ → ℕ → List ℕ
counts_text functions units = decimal functions ++ codes " functions, " ++ decimal units ++ codes " units\n"

abbrev pub ok_text : List ℕ → List ℕ → List ℕ
ok_text name counts = codes "ok " ++ name ++ codes ": " ++ counts

abbrev pub ok_line : Module → List ℕ
ok_line m = ok_text (atom_text m.name) (counts_text (length m.functions) (units_among m.functions))

-- a line for each module, in order
abbrev pub ok_lines : List Module → List ℕ
ok_lines [] = []
ok_lines (m ∷ ms) = ok_line m ++ ok_lines ms
