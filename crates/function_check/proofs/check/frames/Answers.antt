use Rattle.std.proofs.Common.{◌≡◌, refl, sym, subst, arith, List}
use Rattle.paths.specs.Search.{IsReach}
use Rattle.path_rules.specs.declared.frame.FramePoint.{FramePoint}
use Rattle.path_rules.specs.Frames.{frame_ways}
use Rattle.path_rules.specs.declared.rule.Rule.TheVariants.{StackSize, TagOrder, TagState}
use Rattle.function_check.specs.Subjects.{placed}
use Rattle.function_check.proofs.check.frames.Goals as goal

pub returns-in-Ok-clause-frames : goal.returns-in-Ok-clause-frames
returns-in-Ok-clause-frames c =
    let holds = c.in_ok-points.ensures.holds in
    c.in-Ok.ensures c.args.of.now.modules.now (placed c.args.of.now) TagOrder refl (record {
      frames = refl;
      reach = subst (λ (ps : List FramePoint). IsReach (frame_ways c.args.of.now.modules.now (placed c.args.of.now) TagOrder) ps) (sym c.as_slice.ensures) c.in_ok-points.ensures.reach;
      holds = holds TagOrder (omega arith);
      stack = holds StackSize (omega arith);
      tags = holds TagState (omega arith);
    })
