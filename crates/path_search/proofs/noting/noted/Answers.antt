use Rattle.std.proofs.Common.{◌≡◌, ◌∙◌, false, Some, slice_get, length, ap, arith, refl}
use Rattle.std.proofs.lemmas.Option.{slice_get-get_or, slice_get_read}
use Rattle.path_search.proofs.Moving.{noted_more, noted_not}
use Rattle.path_search.proofs.noting.noted.Goals as goal
use Rattle.path_search.proofs.noting.noted.Goals.{then-went-at+in_ok-note_moves, else-went-at}

pub loop-at-preserved : goal.loop-at-preserved
loop-at-preserved g c =
    let w = g.W.Walk.ways c.args.walk.now in
    let item = g.W.Walk.item_of c.args.walk.now in
    let points = c.args.points.now in
    let went = c.args.went.now in
    let at = c.loop-at.at in
    let flag : slice_get went at ≡ _ = slice_get-get_or went at false (omega (arith, c.requires, c.loop-at-test.true)) in
    elim c.if-went-at.branch [
      | then-went-at+in_ok-note_moves b ↦
          rw b.next-is
          (noted_more w item points went at b.index-points-at.result (slice_get_read points (length points) at b.index-points-at.result refl c.loop-at-test.true b.index-points-at.is) c.loop-at.next.items b.note_moves.new.next.items
          (flag ∙ ap (λ q. Some q) b.if-went-at.true) c.loop-at.invariant b.in_ok-note_moves.ensures)
      | else-went-at b ↦
          rw b.next-is (noted_not w item points went at c.loop-at.next.items (flag ∙ ap (λ q. Some q) b.if-went-at.false) c.loop-at.invariant)
    ]
