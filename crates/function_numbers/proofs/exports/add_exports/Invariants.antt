-- What came so far, with what is left.
use Rattle.std.proofs.Common.{◌≡◌, ◌||◌, drop}
use Rattle.std.specs.List.{list_any}
use Rattle.indexmap.specs.IndexSet.{contains}
use Rattle.function_numbers.specs.Keys.{Key, is_export_at, same_key}
use Rattle.function_numbers.proofs.exports.add_exports.Given as goal

abbrev pub invariant-loop-export : goal.invariant-loop-export
invariant-loop-export l =
    (k : Key) →
    (contains same_key l.set k || list_any (is_export_at l.names.keys k l.owner) (drop l.export-index l.exports))
    ≡ (contains same_key l.initial.set k || list_any (is_export_at l.names.keys k l.owner) l.exports)
