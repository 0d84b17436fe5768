-- The functions so far are entered.
use Rattle.std.proofs.Common.{◌≡◌, Some, slice_get}
use Rattle.module_check.specs.Entries.{HasEntries, before}
use Rattle.module_check.proofs.entries.add_module.Given as goal

abbrev pub invariant-loop-place : goal.invariant-loop-place
invariant-loop-place l = HasEntries l.given.modules.now (before l.given.modules.now l.number l.owner l.place) l.entries
