use Rattle.std.proofs.Common.{arith}
use Rattle.data_flow.proofs.Settling.{grows, stays}
use Rattle.data_flow.proofs.needed.visit.Goals as goal

pub returns-in_ok-push : goal.returns-in_ok-push
returns-in_ok-push c =
    grows c.args.flow.now c.args.needs.now c.args.pending.now.items c.args.at c.look-new.result c.push.new.self.items (omega (arith, c.in-Some.ensures.within, c.requires)) c.look-new.ensures
    c.is_same.ensures.names c.is_same.ensures.count c.is_same.result c.is_same.ensures.is c.if-not-is_same.true c.in_ok-push.ensures.items

pub returns-else-not-is_same : goal.returns-else-not-is_same
returns-else-not-is_same c =
    stays c.args.flow.now c.args.needs.now c.args.pending.now.items c.args.at c.look-new.result c.look-new.ensures c.is_same.result c.is_same.ensures.is c.if-not-is_same.false
