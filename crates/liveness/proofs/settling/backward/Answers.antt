use Rattle.std.proofs.Common.{◌≡◌, ℕ, ◌<◌, ◌+◌, ◌++◌, length, List, replicate, [], take, drop, sym, ap, subst, ◌∙◌, arith}
use Rattle.std.proofs.lemmas.Grind.{common_steps}
use Rattle.liveness.specs.Live.{list_of}
use Rattle.liveness.specs.Backward.{Adds}
use Rattle.liveness.proofs.Edges.{BackwardTo, no_edges, edges_more, edges_all, list_of-get_or}
use Rattle.liveness.proofs.settling.backward.Goals as goal

pub loop-node-init : goal.loop-node-init
loop-node-init c =
    let all : c.loop.counter ≡ length c.args.next.now = omega arith in
    no_edges c.args.next.now c.loop.prev.items (c.loop.invariant ∙ ap (λ n. replicate n []) all)

pub loop-node-preserved : goal.loop-node-preserved
loop-node-preserved c =
    let next = c.args.next.now in
    let node = c.loop-node.node in
    let prev = c.loop-node.prev.items in
    let new = c.note.new.prev in
    let within : node < length next = omega arith in
    let same : take c.loop-node.prev.len (new ++ drop (length new) prev) ≡ new = grind (arith, common_steps) in
    let from : c.as_slice.result.now ≡ list_of next node = c.as_slice.ensures ∙ (c.index-next-node.is ∙ sym (list_of-get_or next node c.index-next-node.result within)) in
    subst (λ (l : List (List ℕ)). BackwardTo (node + 1) next l) (sym same)
    (edges_more node next prev new c.loop-node.invariant
    (subst (λ (l : List ℕ). Adds node l prev new) from (subst (λ (l : List (List ℕ)). Adds node c.as_slice.result.now l new) c.deref_mut.ensures.value c.in_ok-note.ensures)))

pub returns : goal.returns
returns c =
    let all : c.loop-node.node ≡ length c.args.next.now = omega arith in
    edges_all c.args.next.now c.loop-node.prev.items (subst (λ n. BackwardTo n c.args.next.now c.loop-node.prev.items) all c.loop-node.invariant)
