-- Paths by their stack and tags alone, for the rules that look at nothing else (README.md).
use Rattle.std.specs.Prelude.{ℕ, Bool, true, false, not, ◌&&◌, List, [], map, nat_eq, slice_get}
use Rattle.paths.specs.Paths.{Graph}
use Rattle.paths.specs.Rules.{Ways}
use Rattle.beam_code.specs.declared.module.Function.{Function}
use Rattle.beam_code.specs.declared.module.Module.{Module}
use Rattle.beam_code.specs.Function.{Placed}
use Rattle.path_rules.specs.declared.frame.FramePoint.{FramePoint}
use Rattle.path_rules.specs.declared.rule.Rule.{Rule}
use Rattle.path_rules.specs.Points.{Point, moves_at, start_of}
use Rattle.path_rules.specs.Rules.{are_apart, breaks_at, same_stack, splits}
use Rattle.path_rules.specs.Tags.{same_tags}

-- what a path carries but registers and heap words
abbrev pub frame_of : Point → FramePoint
frame_of p = record { item = p.item; stack = p.stack; tags = p.tags; raised = p.raised }

-- the same with no registers and no heap words
abbrev pub point_of : FramePoint → Point
point_of q = record { item = q.item; stack = q.stack; tags = q.tags; xs = []; ys = []; covered = 0; raised = q.raised }

abbrev pub frame_graph : List Module → Function → Graph FramePoint
frame_graph ms f = record {
  start = frame_of (start_of f);
  moves = λ q. map frame_of (moves_at ms f (point_of q) (slice_get f.items q.item));
}

abbrev pub frame_ways : List Module → Placed → Rule → Ways FramePoint
frame_ways ms f rule = record {
  graph = frame_graph ms f.function;
  breaks = λ q. breaks_at ms f rule (point_of q) (slice_get f.function.items q.item);
  splits = λ q r. splits rule (point_of q) (point_of r);
  apart = λ q r. are_apart (point_of q) (point_of r);
}

abbrev pub frame_item : FramePoint → ℕ
frame_item q = q.item

abbrev pub same_flag : Bool → Bool → Bool
same_flag true b = b
same_flag false b = not b

abbrev pub same_frame : FramePoint → FramePoint → Bool
same_frame q r = nat_eq q.item r.item && same_stack q.stack r.stack && same_tags q.tags r.tags && same_flag q.raised r.raised
