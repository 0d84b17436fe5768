use Rattle.std.proofs.Common.{◌∙◌, sym, arith}
use Rattle.cycles.proofs.Ranked.{list_is, ranked_all, ranked_more}
use Rattle.cycles.proofs.ranking.is_ranked.Goals as goal

pub loop-node-preserved : goal.loop-node-preserved
loop-node-preserved c =
    ranked_more c.args.next.now c.args.ranks.now c.loop-node.node c.rank_of.result c.as_slice.result.now c.loop-node.invariant
    (c.as_slice.ensures ∙ sym (list_is c.args.next.now c.loop-node.node c.index-next-node.result c.index-next-node.is c.loop-node-test.true)) c.rank_of.ensures
    (sym c.is_any_high.ensures ∙ c.if-is_any_high.false)

pub returns : goal.returns
returns c = λ t. ranked_all c.args.next.now c.args.ranks.now (λ a b low. c.loop-node.invariant a b (omega (arith, c.loop-node-test.false)))
