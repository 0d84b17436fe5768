-- What came so far, with what is left.
use Rattle.std.proofs.Common.{◌≡◌, ◌||◌, drop}
use Rattle.std.specs.List.{list_any}
use Rattle.indexmap.specs.IndexSet.{contains}
use Rattle.path_rules.specs.Index.{Key, same_key}
use Rattle.path_rules.proofs.index.export_set.Given as goal

abbrev pub invariant-loop-export : goal.invariant-loop-export
invariant-loop-export l = (key : Key) → (contains same_key l.set key || list_any (λ e. same_key e key) (drop l.export-index l.exports)) ≡ list_any (λ e. same_key e key) l.exports
