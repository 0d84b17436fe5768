use Rattle.std.proofs.Common.{◌≡◌, ℕ, ◌<◌, length, List, slice_index, sym, subst, ◌∙◌, arith}
use Rattle.std.specs.List.{All}
use Rattle.std.proofs.lemmas.Grind.{common_steps}
use Rattle.liveness.specs.Live.{list_of}
use Rattle.liveness.specs.Settling.{Spread}
use Rattle.liveness.proofs.Edges.{list_of-get_or}
use Rattle.liveness.proofs.Settled.{Settling, all_pending, one_more_pending, popped_low, settling_next, settled, nothing_left}
use Rattle.liveness.proofs.settling.settle.Goals as goal

pub loop-node-preserved : goal.loop-node-preserved
loop-node-preserved c = rw c.in_ok-push.ensures.items (one_more_pending c.loop-node.node (length c.args.column.now) c.loop-node.pending.items (omega arith) c.loop-node.invariant)

pub loop-node-2-init : goal.loop-node-2-init
loop-node-2-init c = all_pending c.args.prev.now c.args.writes.now c.args.column.now c.loop-node.pending.items c.requires.prev (λ a low. c.loop-node.invariant.each a (omega arith)) c.loop-node.invariant.nodes

pub bounds-prev-node : goal.bounds-prev-node
bounds-prev-node c =
    let low = popped_low c.args.prev.now c.args.writes.now c.args.column.now c.loop-node-2.column c.loop-node-2.pending.items c.pop.new.self.items c.in-Some.node c.loop-node-2.invariant c.in-Some.ensures.items in
    omega arith

pub spread-requires-clause-from : goal.spread-requires-clause-from
spread-requires-clause-from c =
    let low = popped_low c.args.prev.now c.args.writes.now c.args.column.now c.loop-node-2.column c.loop-node-2.pending.items c.pop.new.self.items c.in-Some.node c.loop-node-2.invariant c.in-Some.ensures.items in
    let within : c.in-Some.node < length c.args.prev.now = omega arith in
    let all : All (λ a. a < length c.args.column.now) c.as_slice.result.now = subst (λ (l : List ℕ). All (λ a. a < length c.args.column.now) l) (sym c.index-prev-node.is ∙ sym c.as_slice.ensures) (c.requires.nodes c.in-Some.node c.index-prev-node.result within) in
    λ k d h. omega (arith, all k d h)

pub loop-node-2-preserved : goal.loop-node-2-preserved
loop-node-2-preserved c =
    let prev = c.args.prev.now in
    let writes = c.args.writes.now in
    let old = c.args.column.now in
    let column = c.loop-node-2.column in
    let rest = c.pop.new.self.items in
    let node = c.in-Some.node in
    let new = c.spread.new.column in
    let after = c.spread.new.pending.items in
    let low = popped_low prev writes old column c.loop-node-2.pending.items rest node c.loop-node-2.invariant c.in-Some.ensures.items in
    let within : node < length prev = omega arith in
    let from : c.as_slice.result.now ≡ list_of prev node = c.as_slice.ensures ∙ (c.index-prev-node.is ∙ sym (list_of-get_or prev node c.index-prev-node.result within)) in
    settling_next prev writes old column rest node new after
    (subst (λ (l : List ℕ). Settling prev writes old column l) c.in-Some.ensures.items c.loop-node-2.invariant)
    (subst (λ (l : List ℕ). Spread l (slice_index column node) writes column rest new after) from c.in_ok-spread.ensures)

pub returns : goal.returns
returns c =
    let none : length c.loop-node-2.pending.items ≡ 0 = grind (arith, common_steps) in
    settled c.args.prev.now c.args.writes.now c.args.column.now c.loop-node-2.column
    (subst (λ (l : List ℕ). Settling c.args.prev.now c.args.writes.now c.args.column.now c.loop-node-2.column l) (nothing_left c.loop-node-2.pending.items none) c.loop-node-2.invariant)
