use Rattle.std.proofs.Common.{◌≡◌, length}
use Rattle.prim_gates.proofs.Kept.{IsKeeping}
use Rattle.prim_gates.proofs.lists.walk_keeping.Given as goal

abbrev pub invariant-cells : goal.invariant-cells
invariant-cells g l = record {
  keeping : IsKeeping (g.W.Words.store l.words) l.atoms l.w l.limit l.word l.count l.scratch;
  same : length l.scratch ≡ length l.initial.scratch;
}

abbrev pub decreases-cells : goal.decreases-cells
decreases-cells g l = l.limit
