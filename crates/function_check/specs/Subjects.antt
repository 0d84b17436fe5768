-- What is said of a function that is looked at.
use Rattle.std.specs.Prelude.{ℕ, Option, List}
use Rattle.beam_code.specs.Function.{Placed}
use Rattle.path_rules.specs.declared.rule.Rule.{Rule}
use Rattle.path_rules.specs.FrameTable.{AreFrames}
use Rattle.path_rules.specs.Rules.{RuleHolds}
use Rattle.path_rules.specs.Sites.{placed_in}
use Rattle.function_check.specs.declared.fault.Fault.{Fault}
use Rattle.function_check.specs.declared.subject.Subject.{Subject}
use Rattle.function_check.specs.Order.{HoldBefore, IsRefused}

abbrev pub placed : Subject → Placed
placed s = placed_in s.owner.now s.function.now

abbrev pub Turn : Subject → ℕ → Type 0
Turn s place = HoldBefore s.modules.now (placed s) place

abbrev pub Refused : Subject → Fault → Type 0
Refused s fault = IsRefused s.modules.now (placed s) fault
