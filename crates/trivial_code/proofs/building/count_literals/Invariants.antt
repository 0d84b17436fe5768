-- The count so far, and the items that are left.
use Rattle.std.proofs.Common.{◌≡◌, ◌+◌, ◌≤◌, drop}
use Rattle.trivial_code.specs.Returned.{literals_in}
use Rattle.trivial_code.proofs.building.count_literals.Given as goal

abbrev pub invariant-loop-item : goal.invariant-loop-item
invariant-loop-item l =
    record {
      left : l.count + literals_in (drop l.item-index l.items) ≡ literals_in l.items;
      few : l.count ≤ l.item-index;
    }
