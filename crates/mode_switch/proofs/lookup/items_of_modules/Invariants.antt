use Rattle.std.proofs.Common.{◌≡◌, ◌+◌, drop}
use Rattle.beam_code.specs.Function.{items_of}
use Rattle.mode_switch.proofs.lookup.items_of_modules.Given as goal

abbrev pub invariant-loop-module : goal.invariant-loop-module
invariant-loop-module l = l.items + items_of (drop l.module-index l.modules) ≡ items_of l.modules
