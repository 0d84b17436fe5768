-- What follows each item from here on.
use Rattle.std.proofs.Common.{◌≡◌, ℕ, ◌≤◌, ◌<◌, drop, length, get_or}
use Rattle.path_rules.specs.Rules.{past_passed}
use Rattle.path_rules.proofs.prepared.fill.Given as goal

abbrev pub invariant-loop-at : goal.invariant-loop-at
invariant-loop-at l =
    (l.at ≤ length l.items) × (length l.table ≡ length l.items)
    × ((k : ℕ) → l.at ≤ k → k < length l.items → get_or l.table k 0 ≡ past_passed k (drop k l.items))

abbrev pub decreases-loop-at : goal.decreases-loop-at
decreases-loop-at l = l.at
