use Rattle.std.proofs.Common.{ℕ, List, sym, subst, ◌∙◌, arith, take, get_or}
use Rattle.std.proofs.lemmas.List.{take_more}
use Rattle.data_flow.specs.Rows.{Spreads}
use Rattle.data_flow.proofs.Settling.{spreads_more, visit_long}
use Rattle.data_flow.proofs.needed.spread.Goals as goal

pub loop-at-preserved : goal.loop-at-preserved
loop-at-preserved c =
    let flow = c.args.flow.now in
    let nodes = c.args.nodes.now in
    let at = c.loop-at.at-index in
    let node = get_or nodes at 0 in
    let needs = c.loop-at.needs in
    let pending = c.loop-at.pending.items in
    let new = c.visit.new.needs in
    let more = c.visit.new.pending.items in
    record {
      spreads = subst (λ (l : List ℕ). Spreads flow l c.args.needs.now c.args.pending.now.items new more) (sym (take_more nodes at 0 (omega (arith, c.loop-at-test.true, c.loop-at.auto.at-index-end))))
          (spreads_more flow (take at nodes) node c.args.needs.now c.args.pending.now.items needs pending new more c.loop-at.invariant.spreads c.in_ok-visit.ensures);
      long = visit_long flow node needs pending new more c.in_ok-visit.ensures ∙ c.loop-at.invariant.long;
    }
