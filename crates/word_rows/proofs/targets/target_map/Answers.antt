-- One function more.
use Rattle.std.proofs.Common.{◌-◌, arith, refl}
use Rattle.beam_code.specs.Function.{all_functions, is_target}
use Rattle.indexmap.specs.IndexMap.{get}
use Rattle.word_rows.proofs.Functions.{never_none}
use Rattle.word_rows.proofs.Starting.{first_more}
use Rattle.word_rows.specs.Targets.{placed, same_target}
use Rattle.word_rows.proofs.targets.target_map.Goals as goal

pub loop-fid-preserved-in-Continue-1 : goal.loop-fid-preserved-in-Continue-1
loop-fid-preserved-in-Continue-1 c = (
  omega (arith, c.loop-fid.invariant.0),
  λ k. first_more (is_target k.owner k.label k.arity) (all_functions c.args.checked.now) (c.loop-fid.fid - 1) c.loop-fid.fid (placed c.in-Some.p.owner.now c.in-Some.p.function.now) (get same_target c.loop-fid.map k)
      (get same_target c.add_target.new.map k) (omega (arith, c.loop-fid-test.true)) c.in-Some.ensures.some (c.loop-fid.invariant.1 k) (c.in_ok-add_target.ensures k),
)

pub loop-fid-preserved : goal.loop-fid-preserved
loop-fid-preserved c = absurd (never_none (all_functions c.args.checked.now) (c.loop-fid.fid - 1) (c.in_default.ensures.none refl) (omega (arith, c.loop-fid.invariant.0, c.loop-fid-test.true)))
