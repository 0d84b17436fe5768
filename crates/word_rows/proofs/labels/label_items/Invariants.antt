-- The labels of the items from here on.
use Rattle.std.proofs.Common.{◌≡◌, ℕ, ◌≤◌, drop, length, nat_eq}
use Rattle.indexmap.specs.IndexMap.{get}
use Rattle.beam_code.specs.Function.{first_that, is_label_item}
use Rattle.word_rows.proofs.labels.label_items.Given as goal

abbrev pub invariant-loop-at : goal.invariant-loop-at
invariant-loop-at l = (l.at ≤ length l.items) × ((n : ℕ) → get nat_eq l.map n ≡ first_that (is_label_item n) l.at (drop l.at l.items))

abbrev pub decreases-loop-at : goal.decreases-loop-at
decreases-loop-at l = l.at
