-- An activation follows one path, which comes to no item twice (docs/BEAM.md, Paths).
use Rattle.std.specs.Prelude.{◌≡◌, ℕ, suc, ◌+◌, ◌<◌, ◌≤◌, ◌⊎◌, List, [], ◌∷◌, Some, length}
use Rattle.std.specs.List.{Contains}
use Rattle.small_step.specs.Stage.{Stage, Still, Done}
use Rattle.paths.specs.Paths.{Free}
use Rattle.beam_code.specs.declared.call.Limits.{Limits}
use Rattle.beam_code.specs.declared.module.Module.{Module}
use Rattle.beam_code.specs.Function.{Placed, label_in}
use Rattle.beam_code.specs.Raise.{Handler, lowest_tag as lowest_mark}
use Rattle.beam_code.specs.Row.{local_step}
use Rattle.beam_code.specs.State.{Event, Calls, Raises, Local, only}
use Rattle.path_rules.specs.Laws.{Onward}
use Rattle.path_rules.specs.Points.{Point, caught_xs, graph}
use Rattle.term_tree.specs.Tree.{Tree}
use Rattle.run_laws.specs.Formed.{AreChecked}
use Rattle.run_laws.specs.Shown.{IsShown, Shows, kind_of}

-- the path makes fewer moves than the function has items, and none of the points before, from which moves lead on to
-- this one, is at this item
pub record IsShort (ms : List Module) (heap function : ℕ) (l : Local) (shown : IsShown ms heap function l) : Type 0 where
  pub rows : shown.moves < length shown.placed.function.items
  pub once : (n k : ℕ) (q : Point) → Free (graph ms shown.placed.function) n q → Onward (graph ms shown.placed.function) (suc k) q shown.point → q.item ≡ l.item → ⊥

abbrev pub ActivationsAreShort : Type 0
ActivationsAreShort = (ms : List Module) (heap function : ℕ) (l : Local) (shown : IsShown ms heap function l) → AreChecked ms → IsShort ms heap function l shown

-- the state m follows where the call at l comes back with some value, whatever words were used
pub record IsAnswered (heap : ℕ) (l m : Local) : Type 0 where
  pub item : m.item ≡ l.item + 1
  pub value : Tree
  pub xs : m.xs ≡ only (value ∷ [])
  pub ys : m.ys ≡ l.ys
  pub used : m.used ≤ heap

-- it follows where the handler of l takes an exception, with as many terms as it finds
pub record IsHandled (heap : ℕ) (f : Placed) (l m : Local) : Type 0 where
  pub handler : Handler
  pub lowest : lowest_mark l.ys ≡ Some handler
  pub there : label_in f.function handler.label ≡ Some m.item
  pub caught : List Tree
  pub many : length caught ≡ caught_xs (kind_of handler.kind)
  pub xs : m.xs ≡ only caught
  pub ys : m.ys ≡ l.ys
  pub used : m.used ≤ heap

-- which states of an activation follow, by what its row does
abbrev pub Succeeds : ℕ → Placed → Stage Local Event → Local → Type 0
Succeeds heap f (Still l) m = m ≡ l
Succeeds heap f (Done (Calls callee args l)) m = IsAnswered heap l m ⊎ IsHandled heap f l m
Succeeds heap f (Done (Raises class reason l)) m = IsHandled heap f l m
Succeeds heap f (Done e) m = ⊥

-- the path that shows a state goes on by one move to a point that shows the next one
abbrev pub ActivationsFollowPaths : Type 0
ActivationsFollowPaths =
    (ms : List Module) (limits : Limits) (heap room function : ℕ) (l m : Local) (shown : IsShown ms heap function l) → AreChecked ms → limits.heap ≤ heap
    → Succeeds heap shown.placed (local_step ms limits room shown.placed l) m → (q : Point) × Contains ((graph ms shown.placed.function).moves shown.point) q × Shows heap q m
