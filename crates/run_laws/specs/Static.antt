-- What a state has of its stack and its handlers is what every path to its item says (docs/BEAM.md, Paths).
use Rattle.std.specs.Prelude.{◌≡◌, ℕ, List, [], ◌∷◌, Option, Some, None}
use Rattle.std.specs.Option.{option_map}
use Rattle.small_step.specs.Stage.{Still, run}
use Rattle.paths.specs.Paths.{Free}
use Rattle.beam_code.specs.declared.call.Limits.{Limits}
use Rattle.beam_code.specs.declared.module.Module.{Module}
use Rattle.beam_code.specs.Frame.{beam_step}
use Rattle.beam_code.specs.Function.{Placed, function_at}
use Rattle.beam_code.specs.Meaning.{first_state}
use Rattle.beam_code.specs.Raise.{Handler, lowest_tag as lowest_mark}
use Rattle.beam_code.specs.State.{BeamState, Frame, Slot}
use Rattle.path_rules.specs.declared.tag.Tag.{Tag}
use Rattle.path_rules.specs.Points.{Point, graph}
use Rattle.path_rules.specs.Tags.{lowest_tag, mark_kind}
use Rattle.term_tree.specs.Tree.{Tree}
use Rattle.run_laws.specs.Formed.{AreChecked}
use Rattle.run_laws.specs.Runs.{IsCall}
use Rattle.run_laws.specs.Shown.{size_of}

-- the handler of a mark
abbrev pub handler_of : Option Tag → Option Handler
handler_of None = None
handler_of (Some t) = Some (record { kind = mark_kind t.kind; label = t.label })

-- as large a stack, and the handler, as each path to this item carries
pub record IsStatic (ms : List Module) (function item : ℕ) (ys : Option (List Slot)) : Type 0 where
  pub stack : (f : Placed) → function_at ms function ≡ Some f → (n : ℕ) (p : Point) → Free (graph ms f.function) n p → p.item ≡ item → p.stack ≡ option_map size_of ys
  pub handler : (f : Placed) → function_at ms function ≡ Some f → (n : ℕ) (p : Point) → Free (graph ms f.function) n p → p.item ≡ item → handler_of (lowest_tag p.tags) ≡ lowest_mark ys

abbrev pub AllStatic : List Module → List Frame → Type 0
AllStatic ms [] = Unit {0}
AllStatic ms (frame ∷ frames) = IsStatic ms frame.function frame.item frame.ys × AllStatic ms frames

-- in each state of a run: the running function, and each frame that waits
abbrev pub HandlersAreStatic : Type 0
HandlersAreStatic =
    (ms : List Module) (limits : Limits) (function : ℕ) (args : List Tree) → AreChecked ms → IsCall ms function args
    → (k : ℕ) (s : BeamState) → run (beam_step ms limits) k (first_state ms limits function args) ≡ Still s → IsStatic ms s.function s.here.item s.here.ys × AllStatic ms s.frames
