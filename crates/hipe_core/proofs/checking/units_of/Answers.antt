use Rattle.std.proofs.Common.{ap, arith}
use Rattle.beam_code.specs.Uses.{units}
use Rattle.hipe_core.proofs.CheckingLaw.{units_at}
use Rattle.hipe_core.proofs.checking.units_of.Goals as goal

pub loop-item-preserved : goal.loop-item-preserved
loop-item-preserved c =
    let here = units_at c.args.items.now c.loop-item.item-index c.item-item.result c.loop-item-test.true c.item-item.is in
    omega (arith, here, ap units c.instr.ensures, c.units.ensures, c.from-sum.ensures, c.loop-item.invariant, c.requires)
