use Rattle.std.proofs.Common.{◌-◌, arith}
use Rattle.data_flow.proofs.Settling.{first_next}
use Rattle.data_flow.proofs.needed.look_at_all.Goals as goal

pub loop-i-preserved : goal.loop-i-preserved
loop-i-preserved c =
    let flow = c.args.flow.now in
    let i = c.loop-i.i in
    let node = c.len-count.result - 1 - i in
    first_next flow c.requires.flow c.loop-i.needs c.loop-i.pending.items i node c.visit.new.needs c.visit.new.pending.items
    (omega (arith, c.len-count.ensures, c.loop-i-test.true)) c.loop-i.invariant c.in_ok-visit.ensures
