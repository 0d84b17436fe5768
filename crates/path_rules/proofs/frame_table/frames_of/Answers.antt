-- A table that is filled from the points of paths says what every path carries.
use Rattle.std.proofs.Common.{◌≡◌, sym, subst, List}
use Rattle.std.specs.Prelude.{Option}
use Rattle.std.proofs.lemmas.Result.{IfOk-weaker}
use Rattle.path_rules.specs.declared.frame_table.Frame.{Frame}
use Rattle.path_rules.specs.FrameTable.{AreFrames, frames_from}
use Rattle.path_rules.proofs.Filling.{are_frames_at}
use Rattle.path_rules.proofs.frame_table.frames_of.Goals as goal

pub returns : goal.returns
returns c =
    IfOk-weaker c.filled.result _ _
    (λ frames made ms f rule is searched.
    let same : frames ≡ frames_from c.args.function.now c.args.points.now = cc in
    subst (λ (t : List (Option Frame)). AreFrames ms f t) (sym same) (are_frames_at ms f rule c.args.function.now c.args.points.now is searched))
    c.filled.ensures
