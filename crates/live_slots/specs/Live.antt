-- What is live at an item: what some path from there loads before it is stored; and the sites of emulated code (docs/BEAM.md, Live).
use Rattle.std.specs.Prelude.{◌≡◌, ℕ, ◌-◌, Bool, true, false, not, ◌&&◌, Option, Some, None, List, [], ◌∷◌, ◌++◌, nat_le, nat_lt, slice_get, if◌then◌else◌}
use Rattle.std.specs.List.{Contains}
use Rattle.paths.specs.Paths.{Free}
use Rattle.beam_code.specs.declared.instr.Place.{Place}
use Rattle.beam_code.specs.declared.instr.Place.TheVariants.{X, Y}
use Rattle.beam_code.specs.declared.module.Function.{Function}
use Rattle.beam_code.specs.declared.module.Module.{Module}
use Rattle.beam_code.specs.Gates.{may_raise}
use Rattle.beam_code.specs.Lined.{Lined}
use Rattle.beam_code.specs.Shape.{Shape, Stacks, Allocates, shape_of}
use Rattle.beam_code.specs.Uses.{shape_reads, shape_writes}
use Rattle.path_rules.specs.Points.{Point, at_labels, graph, handlers, labels_of, onward}
use Rattle.path_rules.specs.Tags.{lowest_tag}

-- an x register, or a slot of the frame; in a stack of S a y register is the slot S less its index, so that a stack that is trimmed keeps the slots of what stays
pub data Name : Type 0 where
  Register : ℕ → Name
  Slot : ℕ → Name

-- whether a test holds of the place that has this name
abbrev pub is_at : Option ℕ → (Place → Bool) → Name → Bool
is_at stack test (Register n) = test (X n)
is_at None test (Slot s) = false
is_at (Some size) test (Slot s) = nat_lt 0 s && nat_le s size && test (Y (size - s))

-- an allocation stores the slots of its new stack
abbrev pub stored_stack : Shape → Option ℕ → Option ℕ
stored_stack (Stacks (Allocates n need live)) stack = Some n
stored_stack shape stack = stack

abbrev pub loads : Shape → Option ℕ → Name → Bool
loads shape stack name = is_at stack (shape_reads shape) name

abbrev pub stores : Shape → Option ℕ → Name → Bool
stores shape stack name = is_at (stored_stack shape stack) (shape_writes shape) name

-- Where paths go on to with what a name has. An item stores where it goes on, and nothing on the way to a label or a handler.
abbrev pub keeping_of : List Module → Function → Name → Point → Shape → List Point
keeping_of ms f name p shape =
    (if not (stores shape p.stack name) then onward f shape p else [])
    ++ (at_labels f p (labels_of shape) ++ (if may_raise ms shape then handlers f p (lowest_tag p.tags) else []))

abbrev pub keeping_at : List Module → Function → Name → Point → Option Lined → List Point
keeping_at ms f name p None = []
keeping_at ms f name p (Some i) = keeping_of ms f name p (shape_of i.instr)

abbrev pub loads_at : Name → Point → Option Lined → Bool
loads_at name p None = false
loads_at name p (Some i) = loads (shape_of i.instr) p.stack name

-- some path comes to an item, which loads the name
pub record IsLoaded (ms : List Module) (f : Function) (name : Name) (item : ℕ) : Type 0 where
  pub moves : ℕ
  pub point : Point
  pub free : Free (graph ms f) moves point
  pub at : point.item ≡ item
  pub loads : loads_at name point (slice_get f.items point.item) ≡ true

-- some path goes from an item to another one, and the name keeps what it has
pub record IsKept (ms : List Module) (f : Function) (name : Name) (item next : ℕ) : Type 0 where
  pub moves : ℕ
  pub point : Point
  pub free : Free (graph ms f) moves point
  pub at : point.item ≡ item
  pub to : Point
  pub move : Contains (keeping_at ms f name point (slice_get f.items point.item)) to
  pub arrives : to.item ≡ next

-- from this item over these ones: the last one loads the name, which was kept all the way
abbrev pub Leads : List Module → Function → Name → ℕ → List ℕ → Type 0
Leads ms f name item [] = IsLoaded ms f name item
Leads ms f name item (next ∷ path) = IsKept ms f name item next × Leads ms f name next path

abbrev pub IsLive : List Module → Function → Name → ℕ → Type 0
IsLive ms f name item = (path : List ℕ) × Leads ms f name item path

-- Sites: a call that waits, or what may raise; paths of a site begin at the next item, where the item goes on, and at the handler.
abbrev pub begins_of : List Module → Function → Point → Shape → List Point
begins_of ms f p shape = onward f shape p ++ (if may_raise ms shape then handlers f p (lowest_tag p.tags) else [])

-- some path comes to the site
pub record IsSite (ms : List Module) (f : Function) (item : ℕ) : Type 0 where
  pub moves : ℕ
  pub point : Point
  pub free : Free (graph ms f) moves point
  pub at : point.item ≡ item
  pub instr : Lined
  pub there : slice_get f.items item ≡ Some instr
  pub may : may_raise ms (shape_of instr.instr) ≡ true

-- what a path of the site loads before it is stored
pub record IsLiveAtSite (ms : List Module) (f : Function) (name : Name) (item : ℕ) : Type 0 where
  pub site : IsSite ms f item
  pub to : Point
  pub begins : Contains (begins_of ms f site.point (shape_of site.instr.instr)) to
  pub live : IsLive ms f name to.item
