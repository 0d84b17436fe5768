-- What came so far, with what is left.
use Rattle.std.proofs.Common.{◌≡◌, ◌||◌, drop}
use Rattle.std.specs.List.{list_any}
use Rattle.indexmap.specs.IndexSet.{contains}
use Rattle.path_rules.specs.Index.{Key, has_key, same_key}
use Rattle.path_rules.proofs.index.function_set.Given as goal

abbrev pub invariant-loop-function : goal.invariant-loop-function
invariant-loop-function l = (key : Key) → (contains same_key l.set key || list_any (has_key key) (drop l.function-index l.functions)) ≡ list_any (has_key key) l.functions
