-- What came so far, with what is left.
use Rattle.std.proofs.Common.{◌≡◌, ◌||◌, ℕ, drop}
use Rattle.std.specs.List.{list_any}
use Rattle.indexmap.specs.IndexSet.{contains}
use Rattle.path_rules.specs.Index.{begins_at, same_target}
use Rattle.path_rules.proofs.index.target_set.Given as goal

abbrev pub invariant-loop-function : goal.invariant-loop-function
invariant-loop-function l =
    (target : ℕ × ℕ) → (contains same_target l.set target || list_any (begins_at target) (drop l.function-index l.functions)) ≡ list_any (begins_at target) l.functions
