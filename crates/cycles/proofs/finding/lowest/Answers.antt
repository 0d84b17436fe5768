use Rattle.std.proofs.Common.{◌≡◌, ℕ, List, None, sym, subst}
use Rattle.liveness.specs.declared.graph.Graph.{Graph}
use Rattle.liveness.specs.Live.{IsGraph}
use Rattle.cycles.specs.Cycles.{AreWithin, IsLowest, IsRanked}
use Rattle.cycles.specs.Marked.{IsMarked}
use Rattle.cycles.proofs.Marks.{graph_is}
use Rattle.cycles.proofs.Ranked.{none_on}
use Rattle.cycles.proofs.finding.lowest.Goals as goal

none_ranked : (next slice : List (List ℕ)) (ranks : List ℕ) → slice ≡ next → IsRanked slice ranks → IsLowest next None
none_ranked next slice ranks e ranked = none_on next ranks (subst (λ (l : List (List ℕ)). IsRanked l ranks) e ranked)

is_graph : (next : List (List ℕ)) (graph : Graph) → IsMarked next graph → AreWithin next → IsGraph graph
is_graph next graph marked within =
    graph_is graph (subst (λ (l : List (List ℕ)). IsMarked l graph) (sym marked.same) marked) (subst (λ (l : List (List ℕ)). AreWithin l) (sym marked.same) within)

pub returns-then-is_ranked : goal.returns-then-is_ranked
returns-then-is_ranked c = none_ranked c.args.next c.as_slice.result.now c.deref.result.now c.as_slice.ensures (c.is_ranked.ensures c.if-is_ranked.true)

pub live-requires : goal.live-requires
live-requires c = is_graph c.args.next c.in_ok-graph.graph c.in_ok-graph.ensures c.requires

pub lowest_back-requires-clause-within : goal.lowest_back-requires-clause-within
lowest_back-requires-clause-within c = subst (λ (l : List (List ℕ)). AreWithin l) (sym c.in_ok-graph.ensures.same) c.requires
