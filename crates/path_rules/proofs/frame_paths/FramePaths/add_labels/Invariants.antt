-- What was added so far, with what is left.
use Rattle.std.proofs.Common.{◌≡◌, ◌++◌, drop, map}
use Rattle.path_rules.specs.Frames.{frame_of, point_of}
use Rattle.path_rules.specs.Points.{at_labels}
use Rattle.path_rules.proofs.frame_paths.FramePaths.add_labels.Given as goal

abbrev pub invariant-loop-label : goal.invariant-loop-label
invariant-loop-label l =
    l.to ++ map frame_of (at_labels l.self.function.now (point_of l.from) (drop l.label-index l.labels))
    ≡ l.fn.to ++ map frame_of (at_labels l.self.function.now (point_of l.from) l.labels)
