use Rattle.prim_gates.proofs.ListWalks.{IsWalk}
use Rattle.prim_gates.proofs.lists.walk.Given as goal

abbrev pub invariant-cells : goal.invariant-cells
invariant-cells g l = IsWalk (g.W.Words.store l.words) l.atoms l.w l.limit l.word l.count

abbrev pub decreases-cells : goal.decreases-cells
decreases-cells g l = l.limit
