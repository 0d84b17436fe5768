use Rattle.std.proofs.Common.{◌≡◌, ℕ, ◌-◌, ◌+◌, ◌≤◌, length}
use Rattle.path_search.specs.Found.{row_of}
use Rattle.path_search.proofs.found.widen.Given as goal

abbrev pub invariant-loop-alloc : goal.invariant-loop-alloc
invariant-loop-alloc g l = record {
  same : (i : ℕ) → row_of l.rows.items i ≡ row_of l.initial.rows.items i;
  longer : length l.initial.rows.items ≤ length l.rows.items;
}

abbrev pub decreases-loop-alloc : goal.decreases-loop-alloc
decreases-loop-alloc g l = l.item + 1 - length l.rows.items
