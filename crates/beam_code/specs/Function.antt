-- Functions of modules by their numbers, their labels, and what a frame of theirs costs (docs/BEAM.md, Functions).
use Rattle.std.specs.Prelude.{ℕ, ◌+◌, ◌&&◌, Bool, true, false, Option, Some, None, List, [], ◌∷◌, ◌++◌, map, max, slice_get, length, nat_eq, if◌then◌else◌}
use Rattle.beam_code.specs.declared.instr.Instr.{Instr}
use Rattle.beam_code.specs.declared.instr.Instr.TheVariants.{Label}
use Rattle.beam_code.specs.declared.module.Function.{Function}
use Rattle.beam_code.specs.declared.item.Item.{Item}
use Rattle.beam_code.specs.declared.module.Module.{Module}
use Rattle.beam_code.specs.Registers.{instr_xs, instr_ys}
pub use Rattle.term_tree.specs.Name.{same_name}

-- a function, with the module that it stands in
pub record Placed : Type 0 where
  pub owner : Module
  pub function : Function

-- all functions in order: a function's number is its place here
abbrev pub all_functions : List Module → List Placed
all_functions [] = []
all_functions (m ∷ ms) = map (λ f. record { owner = m; function = f }) m.functions ++ all_functions ms

abbrev pub function_at : List Module → ℕ → Option Placed
function_at ms fid = slice_get (all_functions ms) fid

-- how many items these functions have together
abbrev pub items_in : List Placed → ℕ
items_in [] = 0
items_in (p ∷ ps) = length p.function.items + items_in ps

abbrev pub items_of : List Module → ℕ
items_of ms = items_in (all_functions ms)

-- the number of the function of this name and arity in this module
abbrev pub is_named : List ℕ → List ℕ → ℕ → Placed → Bool
is_named m f arity p = same_name m p.owner.name && same_name f p.function.name && nat_eq arity p.function.arity

-- the place of the first one that passes, counted from a number on
abbrev pub first_that : {A : Type 0} → (A → Bool) → ℕ → List A → Option ℕ
first_that test at [] = None
first_that test at (p ∷ ps) = if test p then Some at else first_that test (at + 1) ps

abbrev pub number_of : List Module → List ℕ → List ℕ → ℕ → Option ℕ
number_of ms m f arity = first_that (is_named m f arity) 0 (all_functions ms)

-- whether a module exports this name and arity
abbrev pub is_exported : List ℕ → ℕ → List (List ℕ × ℕ) → Bool
is_exported f arity [] = false
is_exported f arity (e ∷ es) = if same_name f e.0 && nat_eq arity e.1 then true else is_exported f arity es

abbrev pub exports_of : List Module → List ℕ → List (List ℕ × ℕ)
exports_of [] m = []
exports_of (n ∷ ns) m = if same_name m n.name then n.exports else exports_of ns m

-- the number of an exported function
abbrev pub exported_number : List Module → List ℕ → List ℕ → ℕ → Option ℕ
exported_number ms m f arity = if is_exported f arity (exports_of ms m) then number_of ms m f arity else None

-- whether a module of this name is given
abbrev pub is_given : List Module → List ℕ → Bool
is_given [] m = false
is_given (n ∷ ns) m = if same_name m n.name then true else is_given ns m

-- whether an item is this label
abbrev pub is_label : ℕ → Instr → Bool
is_label n (Label m) = nat_eq n m
is_label n _ = false

abbrev pub is_label_item : ℕ → Item → Bool
is_label_item n i = is_label n i.instr

-- the item of a label
abbrev pub label_in : Function → ℕ → Option ℕ
label_in f n = first_that (is_label_item n) 0 f.items

-- whether calls of a function begin at this label
abbrev pub is_label_at : ℕ → Option Item → Bool
is_label_at n None = false
is_label_at n (Some i) = is_label_item n i

abbrev pub is_entry_label : ℕ → Function → Bool
is_entry_label n f = is_label_at n (slice_get f.items f.entry)

-- the number of the function of this entry label and arity in this module
abbrev pub is_target : List ℕ → ℕ → ℕ → Placed → Bool
is_target m n arity p = same_name m p.owner.name && is_entry_label n p.function && nat_eq arity p.function.arity

abbrev pub target_of : List Module → Placed → ℕ → ℕ → Option ℕ
target_of ms p n arity = first_that (is_target p.owner.name n arity) 0 (all_functions ms)

-- the greatest of a number for each item
abbrev pub most_of : (Instr → ℕ) → List Item → ℕ
most_of number [] = 0
most_of number (i ∷ is) = max (number i.instr) (most_of number is)

-- Y and X of a function: its y registers, and its x registers, of which it has one at least
abbrev pub ys_of : Function → ℕ
ys_of f = most_of instr_ys f.items

abbrev pub xs_of : Function → ℕ
xs_of f = max (max f.arity 1) (most_of instr_xs f.items)

-- the words of a function's frame: a return address, its y registers, a home for each x register
abbrev pub cost_of : Function → ℕ
cost_of f = 1 + ys_of f + xs_of f
