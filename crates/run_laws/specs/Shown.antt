-- What the point of a path says of a running function and of a frame that waits (docs/BEAM.md, Paths and State).
use Rattle.std.specs.Prelude.{◌≡◌, ℕ, ◌+◌, ◌≤◌, true, false, Bool, List, [], ◌∷◌, length, Option, Some, None, slice_get, slice_index_or}
use Rattle.std.specs.Option.{option_map}
use Rattle.paths.specs.Paths.{Free}
use Rattle.beam_code.specs.declared.module.Module.{Module}
use Rattle.beam_code.specs.Function.{Placed, function_at}
use Rattle.beam_code.specs.Lined.{Lined}
use Rattle.beam_code.specs.Shape.{Target, Calls, Stays, shape_of}
use Rattle.beam_code.specs.State as state
use Rattle.beam_code.specs.State.{BeamState, Frame, Local, Slot, Undefined, Holds, x_registers}
use Rattle.path_rules.specs.declared.tag.Tag.{Tag}
use Rattle.path_rules.specs.declared.tag.TagKind.{TagKind}
use Rattle.path_rules.specs.declared.tag.TagKind.TheVariants.{Try, Catch}
use Rattle.path_rules.specs.Points.{Point, graph}
use Rattle.term_tree.specs.Tree.{Tree}

abbrev pub kind_of : state.TagKind → TagKind
kind_of state.OfTry = Try
kind_of state.OfCatch = Catch

-- the marks among y registers, counted from an index on
abbrev pub tags_from : ℕ → List Slot → List Tag
tags_from at [] = []
tags_from at (Undefined ∷ slots) = tags_from (at + 1) slots
tags_from at (Holds v ∷ slots) = tags_from (at + 1) slots
tags_from at (state.Tag kind label ∷ slots) = record { y = at; kind = kind_of kind; label = label } ∷ tags_from (at + 1) slots

abbrev pub slots_of : Option (List Slot) → List Slot
slots_of None = []
slots_of (Some slots) = slots

abbrev pub size_of : List Slot → ℕ
size_of slots = length slots

-- as many y registers as the path says, exactly its marks, and a term in each that it defined
pub record ShowsStack (stack : Option ℕ) (tags : List Tag) (ys : List Bool) (slots : Option (List Slot)) : Type 0 where
  pub size : stack ≡ option_map size_of slots
  pub tags_are : tags ≡ tags_from 0 (slots_of slots)
  pub terms : (n : ℕ) → slice_index_or ys n false ≡ true → (v : Tree) × (slice_get (slots_of slots) n ≡ Some (Holds v))

-- a term in each x register that the path defined
abbrev pub ShowsRegisters : List Bool → List (Option Tree) → Type 0
ShowsRegisters xs registers = (n : ℕ) → slice_index_or xs n false ≡ true → (v : Tree) × (slice_get registers n ≡ Some (Some v))

-- the words that are used, and those that the last heap test covers, are no more than the heap has
pub record Shows (heap : ℕ) (p : Point) (l : Local) : Type 0 where
  pub item : p.item ≡ l.item
  pub room : l.used + p.covered ≤ heap
  pub xs : ShowsRegisters p.xs l.xs
  pub wide : length l.xs ≡ x_registers
  pub stack : ShowsStack p.stack p.tags p.ys l.ys

-- the running function is at the end of a path of so many moves
pub record IsShown (ms : List Module) (heap function : ℕ) (l : Local) : Type 0 where
  pub placed : Placed
  pub is : function_at ms function ≡ Some placed
  pub moves : ℕ
  pub point : Point
  pub free : Free (graph ms placed.function) moves point
  pub shows : Shows heap point l

-- a frame waits at the call item where a path ends
pub record Waits (ms : List Module) (frame : Frame) : Type 0 where
  pub placed : Placed
  pub is : function_at ms frame.function ≡ Some placed
  pub moves : ℕ
  pub point : Point
  pub free : Free (graph ms placed.function) moves point
  pub item : point.item ≡ frame.item
  pub stack : ShowsStack point.stack point.tags point.ys frame.ys
  pub call : Lined
  pub there : slice_get placed.function.items frame.item ≡ Some call
  pub target : Target
  pub arity : ℕ
  pub calls : shape_of call.instr ≡ Calls target arity Stays

abbrev pub AllWait : List Module → List Frame → Type 0
AllWait ms [] = Unit {0}
AllWait ms (frame ∷ frames) = Waits ms frame × AllWait ms frames

pub record StateIsShown (ms : List Module) (heap : ℕ) (s : BeamState) : Type 0 where
  pub here : IsShown ms heap s.function s.here
  pub frames : AllWait ms s.frames
