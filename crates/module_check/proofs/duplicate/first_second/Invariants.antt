-- What is left decides, with the names so far.
use Rattle.std.proofs.Common.{◌≡◌, [], drop}
use Rattle.indexmap.specs.IndexSet.{keys}
use Rattle.module_check.specs.Duplicates.{second_from}
use Rattle.module_check.proofs.duplicate.first_second.Given as goal

abbrev pub invariant-loop-number : goal.invariant-loop-number
invariant-loop-number l = second_from (keys l.names) l.number (drop l.number l.modules) ≡ second_from [] 0 l.modules
