-- Trivial functions (docs/BEAM.md, Trivial functions): which items they have, and what they return.
use Rattle.std.specs.Prelude.{ℕ, ◌+◌, Bool, true, ◌&&◌, Option, Some, None, is_some, List, [], ◌∷◌, drop, nat_eq, nat_lt, slice_get, if◌then◌else◌}
use Rattle.std.specs.List.{list_all}
use Rattle.term_tree.specs.Small.{is_small}
use Rattle.term_tree.specs.Term.{tree_of}
use Rattle.term_tree.specs.Tree as t
use Rattle.beam_code.specs.declared.instr.Instr.{Instr}
use Rattle.beam_code.specs.declared.instr.Instr.TheVariants.{Label, Line, Comment, FuncInfo, Move, Return}
use Rattle.beam_code.specs.declared.instr.Operand.{Operand}
use Rattle.beam_code.specs.declared.instr.Operand.TheVariants.{X, Y, Int, Atom, Nil, Literal}
use Rattle.beam_code.specs.declared.instr.Place.{Place}
use Rattle.beam_code.specs.declared.instr.Place.TheVariants as place
use Rattle.beam_code.specs.declared.module.Function.{Function}
use Rattle.beam_code.specs.declared.module.Module.{Module}
use Rattle.beam_code.specs.Lined.{Lined}
use Rattle.trivial_code.specs.declared.trivial.Action.{Action}
use Rattle.trivial_code.specs.declared.trivial.Action.TheVariants.{Passes, Moves, Returns, Raises}
use Rattle.trivial_code.specs.declared.trivial.Origin.{Origin}
use Rattle.trivial_code.specs.declared.trivial.Origin.TheVariants.{Argument, Moved}
use Rattle.trivial_code.specs.declared.trivial.Source.{Source}
use Rattle.trivial_code.specs.declared.trivial.Source.TheVariants.{Register, Constant}

-- what an instruction does, where it is one that a trivial function may have: of moves those to x0, of anything but a y register

abbrev pub source_of : Operand → Option Source
source_of (X n) = Some (Register n)
source_of (Y n) = None
source_of (Int value) = if is_small value then Some Constant else None
source_of (Atom a) = Some Constant
source_of Nil = Some Constant
source_of (Literal term) = Some Constant

abbrev pub moves : Option Source → Option Action
moves (Some source) = Some (Moves source)
moves None = None

abbrev pub move_from : Operand → Place → Option Action
move_from from (place.X n) = if nat_eq n 0 then moves (source_of from) else None
move_from from (place.Y n) = None

abbrev pub action_of : Instr → Option Action
action_of (Label n) = Some Passes
action_of (Line about) = Some Passes
action_of (Comment about) = Some Passes
action_of (FuncInfo m f arity) = Some Raises
action_of (Move from to) = move_from from to
action_of Return = Some Returns
action_of _ = None

-- what x0 has behind the move of an item: what comes from x0 itself is there already, and no other register was written
abbrev pub moved : ℕ → Origin → Source → Origin
moved at so (Register n) = if nat_eq n 0 then so else Argument n
moved at so Constant = Moved at

-- what is returned behind an item, where x0 has this before it
abbrev pub acted : Option Action → ℕ → Origin → (Origin → Option Origin) → Option Origin
acted (Some Passes) at so more = more so
acted (Some (Moves source)) at so more = more (moved at so source)
acted (Some Returns) at so more = Some so
acted (Some Raises) at so more = None
acted None at so more = None

-- what items from a number on return one after the other, where they come to a `return`: what was moved to x0 last
abbrev pub origin_from : ℕ → Origin → List Lined → Option Origin
origin_from at so [] = None
origin_from at so (i ∷ is) = acted (action_of i.instr) at so (λ next. origin_from (at + 1) next is)

-- whether all items are such, also those that no call comes to
abbrev pub are_plain : List Lined → Bool
are_plain items = list_all (λ i. is_some (action_of i.instr)) items

-- what a function returns, where it is trivial: the items behind its entry say it
abbrev pub origin_of : Function → Option Origin
origin_of f = if are_plain f.items then origin_from (f.entry + 1) (Argument 0) (drop (f.entry + 1) f.items) else None

-- a function is trivial, and each function of each module is
abbrev pub is_trivial : Function → Bool
is_trivial f = is_some (origin_of f)

abbrev pub are_trivial : List Module → Bool
are_trivial ms = list_all (λ m. list_all is_trivial m.functions) ms

-- ---- the term that is returned, of these arguments

abbrev pub constant_tree : Operand → Option t.Tree
constant_tree (X n) = None
constant_tree (Y n) = None
constant_tree (Int value) = Some (t.Int value)
constant_tree (Atom a) = Some (t.Atom a)
constant_tree Nil = Some t.Nil
constant_tree (Literal term) = Some (tree_of term)

abbrev pub moved_operand : Instr → Option Operand
moved_operand (Move from to) = Some from
moved_operand _ = None

abbrev pub tree_moved : Option Operand → Option t.Tree
tree_moved None = None
tree_moved (Some from) = constant_tree from

abbrev pub tree_at : Option Lined → Option t.Tree
tree_at None = None
tree_at (Some i) = tree_moved (moved_operand i.instr)

abbrev pub held : List Lined → List t.Tree → Origin → Option t.Tree
held items args (Argument n) = slice_get args n
held items args (Moved at) = tree_at (slice_get items at)

-- ---- whether each register that is read on the way is an argument, or x0 behind a move

abbrev pub is_defined : ℕ → Bool → Source → Bool
is_defined arity first (Register n) = if nat_eq n 0 then first else nat_lt n arity
is_defined arity first Constant = true

abbrev pub read_by : Option Action → ℕ → Bool → (Bool → Bool) → Bool
read_by (Some Passes) arity first more = more first
read_by (Some (Moves source)) arity first more = is_defined arity first source && more true
read_by (Some Returns) arity first more = first
read_by (Some Raises) arity first more = true
read_by None arity first more = true

abbrev pub reads_well : ℕ → Bool → List Lined → Bool
reads_well arity first [] = true
reads_well arity first (i ∷ is) = read_by (action_of i.instr) arity first (λ next. reads_well arity next is)
