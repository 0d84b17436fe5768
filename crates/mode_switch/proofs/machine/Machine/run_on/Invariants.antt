-- From where the steps have led, the run leads to where it leads from the start.
use Rattle.std.proofs.Common.{◌≡◌, None, ◌-◌}
use Rattle.mode_switch.specs.Machine.{ran}
use Rattle.mode_switch.specs.Run.{bound}
use Rattle.mode_switch.proofs.machine.Machine.run_on.Given as goal

abbrev pub invariant-loop-self : goal.invariant-loop-self
invariant-loop-self l = record { same : ran l.self ≡ ran l.fn.self; going : l.self.outcome ≡ None; bounded : l.bound ≡ bound l.self.loaded }

abbrev pub decreases-loop-self : goal.decreases-loop-self
decreases-loop-self l = l.bound - l.self.steps
