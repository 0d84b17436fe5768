-- The modules from here on.
use Rattle.std.proofs.Common.{◌≡◌, ℕ, ◌≤◌, List, drop, length}
use Rattle.indexmap.specs.IndexMap.{get}
use Rattle.beam_code.specs.Function.{first_that, same_name}
use Rattle.path_rules.specs.Index.{is_called}
use Rattle.path_rules.proofs.index.module_numbers.Given as goal

abbrev pub invariant-loop-at : goal.invariant-loop-at
invariant-loop-at l =
    (l.at ≤ length l.modules) × ((name : List ℕ) → get same_name l.map name ≡ first_that (is_called name) l.at (drop l.at l.modules))

abbrev pub decreases-loop-at : goal.decreases-loop-at
decreases-loop-at l = l.at
