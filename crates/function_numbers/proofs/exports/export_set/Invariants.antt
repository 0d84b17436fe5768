-- What came so far, with what is left of modules whose names were not seen.
use Rattle.std.proofs.Common.{◌≡◌, ◌||◌, ◌&&◌, drop, nat_eq, not}
use Rattle.indexmap.specs.IndexSet.{contains}
use Rattle.function_numbers.specs.Keys.{Key, exports_at, is_among, same_key}
use Rattle.function_numbers.proofs.exports.export_set.Given as goal

abbrev pub invariant-loop-module : goal.invariant-loop-module
invariant-loop-module l =
    (k : Key) →
    (contains same_key l.set k || (not (contains nat_eq l.seen k.owner) && is_among l.names.keys k (exports_at l.names.keys k.owner (drop l.module-index l.modules))))
    ≡ is_among l.names.keys k (exports_at l.names.keys k.owner l.modules)
