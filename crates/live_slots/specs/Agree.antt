-- States of a function that agree in what is live, and rows that are the same but for what is not (README.md).
use Rattle.std.specs.Prelude.{◌≡◌, ℕ, suc, List, [], ◌∷◌, length, Option, Some, None, slice_get}
use Rattle.std.specs.Option.{option_map}
use Rattle.small_step.specs.Stage.{Stage, Still, Done}
use Rattle.paths.specs.Paths.{Free}
use Rattle.beam_code.specs.declared.call.Limits.{Limits}
use Rattle.beam_code.specs.declared.module.Function.{Function}
use Rattle.beam_code.specs.declared.module.Module.{Module}
use Rattle.beam_code.specs.Function.{Placed}
use Rattle.beam_code.specs.Lined.{Lined}
use Rattle.beam_code.specs.Raise.{Handler}
use Rattle.beam_code.specs.Row.{row}
use Rattle.beam_code.specs.Shape.{shape_of}
use Rattle.beam_code.specs.State.{Event, Calls, TailCalls, Returns, Raises, Ends, Local, Slot as State, Tag}
use Rattle.path_rules.specs.Points.{Point, graph}
use Rattle.live_slots.specs.Live.{IsLive, Name, Register, Slot}
use Rattle.run_laws.specs.Shown.{size_of}

-- the mark of a y register
abbrev pub mark_of : State → Option Handler
mark_of (Tag kind label) = Some (record { kind = kind; label = label })
mark_of _ = None

-- the same mark, and the same where this slot is live
pub record SameSlot (live : Type 0) (s t : State) : Type 0 where
  pub marks : mark_of s ≡ mark_of t
  pub same : live → s ≡ t

-- as many slots; the first one is as many from the far end as there are
abbrev pub SameSlots : (Name → Type 0) → List State → List State → Type 0
SameSlots live [] [] = Unit {0}
SameSlots live (s ∷ ss) (t ∷ ts) = SameSlot (live (Slot (suc (length ss)))) s t × SameSlots live ss ts
SameSlots live ss ts = ⊥

abbrev pub SameStack : (Name → Type 0) → Option (List State) → Option (List State) → Type 0
SameStack live None None = Unit {0}
SameStack live (Some ss) (Some ts) = SameSlots live ss ts
SameStack live a b = ⊥

pub record Agree (live : Name → Type 0) (l m : Local) : Type 0 where
  pub item : l.item ≡ m.item
  pub used : l.used ≡ m.used
  pub left : l.left ≡ m.left
  pub wide : length l.xs ≡ length m.xs
  pub xs : (n : ℕ) → live (Register n) → slice_get l.xs n ≡ slice_get m.xs n
  pub ys : SameStack live l.ys m.ys

-- in what is live at their item, by what is live at each
abbrev pub AgreeThere : (ℕ → Name → Type 0) → Local → Local → Type 0
AgreeThere live l m = Agree (live l.item) l m

abbrev pub SameEvent : (ℕ → Name → Type 0) → Event → Event → Type 0
SameEvent live (Calls c vs l) (Calls d ws m) = (c ≡ d) × (vs ≡ ws) × AgreeThere live l m
SameEvent live (TailCalls c vs l) (TailCalls d ws m) = (c ≡ d) × (vs ≡ ws) × AgreeThere live l m
SameEvent live (Returns v l) (Returns w m) = (v ≡ w) × AgreeThere live l m
SameEvent live (Raises c v l) (Raises d w m) = (c ≡ d) × (v ≡ w) × AgreeThere live l m
SameEvent live (Ends e l) (Ends d m) = e ≡ d
SameEvent live a b = ⊥

abbrev pub SameRow : (ℕ → Name → Type 0) → Stage Local Event → Stage Local Event → Type 0
SameRow live (Still l) (Still m) = AgreeThere live l m
SameRow live (Done a) (Done b) = SameEvent live a b
SameRow live a b = ⊥

abbrev pub live_in : List Module → Function → ℕ → Name → Type 0
live_in ms f item name = IsLive ms f name item

-- at an item to which some path comes, with as large a stack
abbrev pub RowsReadWhatIsLive : Type 0
RowsReadWhatIsLive =
    (ms : List Module) (limits : Limits) (f : Placed) (n : ℕ) (p : Point) (i : Lined) (l m : Local) → Free (graph ms f.function) n p → slice_get f.function.items p.item ≡ Some i
    → p.item ≡ l.item → p.stack ≡ option_map size_of l.ys → AgreeThere (live_in ms f.function) l m
    → SameRow (live_in ms f.function) (row ms limits f l (shape_of i.instr)) (row ms limits f m (shape_of i.instr))
