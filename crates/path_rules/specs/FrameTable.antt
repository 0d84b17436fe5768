-- What all paths that come to an item carry there but registers, as a table (README.md).
use Rattle.std.specs.Prelude.{◌≡◌, ℕ, ◌<◌, true, Option, Some, None, List, [], ◌∷◌, length, replicate, slice_get, slice_set}
use Rattle.paths.specs.Paths.{Free}
use Rattle.paths.specs.Rules.{Holds}
use Rattle.paths.specs.Search.{IsReach}
use Rattle.beam_code.specs.declared.module.Function.{Function}
use Rattle.beam_code.specs.declared.module.Module.{Module}
use Rattle.beam_code.specs.Function.{Placed}
use Rattle.path_rules.specs.declared.frame.FramePoint.{FramePoint}
use Rattle.path_rules.specs.declared.frame_table.Frame.{Frame}
use Rattle.path_rules.specs.declared.rule.Rule.{Rule}
use Rattle.path_rules.specs.declared.rule.Rule.TheVariants.{StackSize, TagState}
use Rattle.path_rules.specs.Frames.{frame_ways}
use Rattle.path_rules.specs.Points.{Point, graph}
use Rattle.path_rules.specs.Rules.{RuleHolds, looks_at_frames, ways}
use Rattle.path_rules.specs.Tags.{lowest_tag}

abbrev pub table_frame : Point → Frame
table_frame p = record { stack = p.stack; lowest = lowest_tag p.tags }

-- for each item what every path to it carries there, and nothing where none comes
pub record AreFrames (ms : List Module) (f : Placed) (frames : List (Option Frame)) : Type 0 where
  pub long : length frames ≡ length f.function.items
  pub known : (n : ℕ) (p : Point) → Free (graph ms f.function) n p → p.item < length f.function.items → slice_get frames p.item ≡ Some (Some (table_frame p))
  pub reached : (i : ℕ) (g : Frame) → slice_get frames i ≡ Some (Some g) → (n : ℕ) × (p : Point) × Free (graph ms f.function) n p × (p.item ≡ i)

-- the points to which the paths of a rule come that holds, where StackSize and TagState hold
pub record AreSearched (ms : List Module) (f : Placed) (rule : Rule) (points : List FramePoint) : Type 0 where
  pub frames : looks_at_frames rule ≡ true
  pub reach : IsReach (frame_ways ms f rule) points
  pub holds : Holds (ways ms f rule)
  pub stack : RuleHolds ms f StackSize
  pub tags : RuleHolds ms f TagState

-- what a point says of its item
abbrev pub said_frame : FramePoint → Frame
said_frame q = record { stack = q.stack; lowest = lowest_tag q.tags }

-- a table with what points say written into it, one after the other
abbrev pub filled : List FramePoint → List (Option Frame) → List (Option Frame)
filled [] frames = frames
filled (q ∷ qs) frames = filled qs (slice_set frames q.item (Some (said_frame q)))

abbrev pub frames_from : Function → List FramePoint → List (Option Frame)
frames_from f points = filled points (replicate (length f.items) None)
