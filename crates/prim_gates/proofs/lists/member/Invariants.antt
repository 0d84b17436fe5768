use Rattle.std.proofs.Common.{◌≡◌, length}
use Rattle.prim_gates.proofs.Members.{IsSearch}
use Rattle.prim_gates.proofs.lists.member.Given as goal

abbrev pub invariant-cells : goal.invariant-cells
invariant-cells g l = record {
  looks : IsSearch (g.W.Words.store l.words) l.atoms l.first l.list l.limit l.word;
  room : length l.scratch ≡ length l.initial.scratch;
}

abbrev pub decreases-cells : goal.decreases-cells
decreases-cells g l = l.limit
