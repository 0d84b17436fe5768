-- The rules in the order in which they are looked at, and the first that is broken (docs/BEAM.md, Rules).
use Rattle.std.specs.Prelude.{◌≡◌, ℕ, ◌<◌, Bool, true, false, Some, List}
use Rattle.beam_code.specs.declared.module.Module.{Module}
use Rattle.beam_code.specs.Function.{Placed}
use Rattle.path_rules.specs.declared.rule.Rule.{Rule}
use Rattle.path_rules.specs.declared.rule.Rule.TheVariants.{FallsOff, CallTarget, BadHandler, Loop, StackSize, TagState, TagOrder, Undefined, HeapUncovered}
use Rattle.path_rules.specs.Rules.{RuleHolds, RuleSays}
use Rattle.function_check.specs.declared.fault.Fault.{Fault}
use Rattle.function_check.specs.declared.fault.Fault.TheVariants.{Broken, States, Memory}

abbrev pub place_of : Rule → ℕ
place_of FallsOff = 0
place_of CallTarget = 1
place_of BadHandler = 2
place_of Loop = 3
place_of StackSize = 4
place_of TagState = 5
place_of TagOrder = 6
place_of Undefined = 7
place_of HeapUncovered = 8

abbrev pub AllHold : List Module → Placed → Type 0
AllHold ms f = (rule : Rule) → RuleHolds ms f rule

-- the rules before this place hold
abbrev pub HoldBefore : List Module → Placed → ℕ → Type 0
HoldBefore ms f place = (rule : Rule) → place_of rule < place → RuleHolds ms f rule

-- the rules before this one hold, and this item is the lowest that breaks it
pub record IsFirstBroken (ms : List Module) (f : Placed) (rule : Rule) (item : ℕ) : Type 0 where
  pub before : HoldBefore ms f (place_of rule)
  pub lowest : RuleSays ms f rule (Some item)

-- why a function is refused: a rule is broken there first; a search found too many states, which it does of no function
-- that keeps all rules
abbrev pub IsRefused : List Module → Placed → Fault → Type 0
IsRefused ms f (Broken rule item) = IsFirstBroken ms f rule item
IsRefused ms f States = AllHold ms f → ⊥
IsRefused ms f Memory = Unit {0}

-- the rules that single items break
abbrev pub is_of_items : Rule → Bool
is_of_items Loop = false
is_of_items _ = true
