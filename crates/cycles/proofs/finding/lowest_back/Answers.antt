use Rattle.std.proofs.Common.{◌≡◌, ℕ, List, ◌∙◌, ap, sym, arith, length, get_or, ◌<◌}
use Rattle.liveness.specs.Live.{list_of}
use Rattle.cycles.proofs.Marks.{found, none_left, not_found}
use Rattle.cycles.proofs.Ranked.{list_is}
use Rattle.cycles.proofs.finding.lowest_back.Goals as goal

row_of : (lists slice : List (List ℕ)) (node : ℕ) (list row : List ℕ) → slice ≡ lists → row ≡ list → list ≡ get_or slice node list → node < length lists → row ≡ list_of lists node
row_of lists slice node list row same e is low = e ∙ sym (list_is lists node list (is ∙ ap (λ (l : List (List ℕ)). get_or l node list) same) low)

pub returns-then-leads_back : goal.returns-then-leads_back
returns-then-leads_back c =
    let graph = c.args.graph.now in
    found graph c.requires.graph c.requires.within c.args.rows.now c.requires.rows c.loop-node.node c.as_slice.result.now c.leads_back.result
    (row_of graph.next c.as_slice-next.result.now c.loop-node.node c.index-next-node.result c.as_slice.result.now c.as_slice-next.ensures c.as_slice.ensures c.index-next-node.is (let n = c.requires.graph.names in omega (arith, c.loop-node-test.true)))
    c.leads_back.ensures c.if-leads_back.true c.loop-node.invariant

pub loop-node-preserved : goal.loop-node-preserved
loop-node-preserved c =
    let graph = c.args.graph.now in
    not_found graph c.requires.graph c.requires.within c.args.rows.now c.requires.rows c.loop-node.node c.as_slice.result.now c.leads_back.result
    (row_of graph.next c.as_slice-next.result.now c.loop-node.node c.index-next-node.result c.as_slice.result.now c.as_slice-next.ensures c.as_slice.ensures c.index-next-node.is (let n = c.requires.graph.names in omega (arith, c.loop-node-test.true)))
    c.leads_back.ensures c.if-leads_back.false c.loop-node.invariant

pub returns : goal.returns
returns c =
    let end : c.loop-node.node ≡ c.args.graph.now.names = omega (arith, c.loop-node-test.false, c.loop-node.auto.node-end) in
    none_left c.args.graph.now c.requires.graph c.requires.within (λ k low. c.loop-node.invariant k (omega arith))
