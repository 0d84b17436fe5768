use Rattle.std.proofs.Common.{take}
use Rattle.path_search.specs.Steps.{NotesAll}
use Rattle.path_search.proofs.noting.note_all.Given as goal

abbrev pub invariant-loop-point : goal.invariant-loop-point
invariant-loop-point g l = NotesAll (g.W.Walk.item_of l.walk) l.from (take l.point-index l.to) l.initial.next.items l.next.items
