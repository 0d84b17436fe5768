use Rattle.std.proofs.Common.{subst}
use Rattle.path_search.specs.Steps.{Notes}
use Rattle.path_search.proofs.Moving.{notes_more}
use Rattle.path_search.proofs.noting.note_all.Goals as goal

pub loop-point-preserved : goal.loop-point-preserved
loop-point-preserved g c =
    notes_more (g.W.Walk.item_of c.args.walk.now) c.args.from c.args.to.now c.loop-point.point-index c.point-item.result c.args.next.now.items c.loop-point.next.items c.note.new.next.items c.loop-point-test.true c.point-item.is
    c.loop-point.invariant (subst (λ i. Notes c.args.from i c.loop-point.next.items c.note.new.next.items) c.item.ensures c.in_ok-note.ensures)
