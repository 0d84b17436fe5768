use Rattle.std.proofs.Common.{ℕ, ◌<◌, length, List, [], ◌∷◌, ◌++◌, take, slice_index_or, slice_set, sym, ap, subst, ◌∙◌, arith}
use Rattle.std.proofs.lemmas.List.{take_more}
use Rattle.liveness.specs.Backward.{Adds}
use Rattle.liveness.proofs.Edges.{one_added, list_of-get_or}
use Rattle.liveness.proofs.settling.note.Goals as goal

pub loop-target-preserved : goal.loop-target-preserved
loop-target-preserved c =
    let next = c.args.next.now in
    let prev = c.loop-target.prev in
    let i = c.loop-target.target-index in
    let target : ℕ = slice_index_or next i 0 in
    let low : target < length prev = omega (arith, c.requires i 0 (omega arith)) in
    let row = c.in_ok-push.ensures.ok ∙ ap (λ (l : List ℕ). l ++ c.args.node ∷ []) (sym (list_of-get_or prev target c.index-prev-target.result low)) in
    subst (λ (ts : List ℕ). Adds c.args.node ts c.args.prev.now (slice_set prev target c.push.new.self)) (sym (take_more next i 0 (omega arith)))
    (one_added c.args.node target (take i next) c.args.prev.now prev (slice_set prev target c.push.new.self) low (ap (λ (l : List ℕ). slice_set prev target l) row) c.loop-target.invariant)
