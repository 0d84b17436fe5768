-- The functions of the modules so far are entered.
use Rattle.std.proofs.Common.{◌≡◌, take}
use Rattle.beam_code.specs.Function.{all_functions}
use Rattle.module_check.specs.Entries.{HasEntries}
use Rattle.module_check.proofs.entries.enter_all.Given as goal

abbrev pub invariant-loop-number : goal.invariant-loop-number
invariant-loop-number l = HasEntries l.given.modules.now (all_functions (take l.number l.given.modules.now)) l.entries
