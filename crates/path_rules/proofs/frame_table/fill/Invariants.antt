-- What is left fills it.
use Rattle.std.proofs.Common.{◌≡◌, drop}
use Rattle.path_rules.specs.FrameTable.{filled}
use Rattle.path_rules.proofs.frame_table.fill.Given as goal

abbrev pub invariant-loop-point : goal.invariant-loop-point
invariant-loop-point l = filled (drop l.point-index l.points) l.frames ≡ filled l.points l.fn.frames
