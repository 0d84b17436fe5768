use Rattle.std.proofs.Common.{ℕ, ◌<◌, ◌^◌, length, List, take, slice_index_or, slice_index, bit_or, bit_and, sym, subst, arith, refl}
use Rattle.std.specs.Int.{bit_not, w64}
use Rattle.std.proofs.lemmas.List.{take_more}
use Rattle.liveness.specs.Settling.{Spread}
use Rattle.liveness.proofs.Spreading.{one_spread_same, one_spread_new}
use Rattle.liveness.proofs.settling.spread.Goals as goal
use Rattle.liveness.proofs.settling.spread.Goals.{then-new-old+in_ok-push, else-new-old}

pub loop-node-preserved : goal.loop-node-preserved
loop-node-preserved c =
    let from = c.args.from.now in
    let i = c.loop-node.node-index in
    let node : ℕ = slice_index_or from i 0 in
    let writes = c.args.writes.now in
    let old = c.args.column.now in
    let before = c.args.pending.now.items in
    let now = c.loop-node.column in
    let after = c.loop-node.pending.items in
    let new : ℕ = bit_or (slice_index now node) (bit_and c.args.word (bit_not w64 (slice_index writes node))) in
    let low : node < length now = omega (arith, c.requires.from i 0 (omega arith)) in
    let written : slice_index writes node < 2 ^ 64 = omega (arith, c.type_inv.writes node) in
    let fits : slice_index now node < 2 ^ 64 = omega arith in
    subst (λ (ts : List ℕ). Spread ts c.args.word writes old before c.if-new-old.column c.if-new-old.pending.items) (sym (take_more from i 0 (omega arith)))
    (elim c.if-new-old.branch [
      | then-new-old+in_ok-push w ↦
          rw (w.column-is, w.pending-is, w.in_ok-push.ensures.items)
          (one_spread_new (take i from) c.args.word writes old before now after node new refl written c.loop-node.invariant low fits w.if-new-old.true)
      | else-new-old w ↦
          rw (w.column-is, w.pending-is)
          (one_spread_same (take i from) c.args.word writes old before now after node new refl written c.loop-node.invariant w.if-new-old.false)
    ])
