-- The rules one after the other: what is known when the turn of each comes.
use Rattle.std.proofs.Common.{◌≡◌, ℕ, suc, ◌+◌, ◌<◌, ◌≤◌, inl, inr, Bool, true, false, refl, ap, sym, ◌∙◌, arith, subst, List, Option, Some, None}
use Rattle.std.specs.Prelude.{if◌then◌else◌, nat_eq}
use Rattle.std.proofs.Math.Nat.{eq-or-lt_of_le}
use Rattle.beam_code.specs.declared.module.Module.{Module}
use Rattle.beam_code.specs.Function.{Placed}
use Rattle.paths.specs.Rules.{Holds, Says}
use Rattle.path_rules.specs.declared.rule.Rule.{Rule}
use Rattle.path_rules.specs.declared.rule.Rule.TheVariants.{FallsOff, CallTarget, BadHandler, Loop, StackSize, TagState, TagOrder, Undefined, HeapUncovered}
use Rattle.path_rules.specs.Points.{item_of}
use Rattle.path_rules.specs.Rules.{RuleHolds, RuleSays, looks_at_frames, ways}
use Rattle.function_check.specs.Order.{AllHold, HoldBefore, IsFirstBroken, is_of_items, place_of}

-- the rule with this place
abbrev rule_at : ℕ → Rule
rule_at n =
    if nat_eq n 0 then FallsOff
    else if nat_eq n 1 then CallTarget
    else if nat_eq n 2 then BadHandler
    else if nat_eq n 3 then Loop
    else if nat_eq n 4 then StackSize
    else if nat_eq n 5 then TagState
    else if nat_eq n 6 then TagOrder
    else if nat_eq n 7 then Undefined
    else HeapUncovered

at_place : (r : Rule) → rule_at (place_of r) ≡ r
at_place FallsOff = refl
at_place CallTarget = refl
at_place BadHandler = refl
at_place Loop = refl
at_place StackSize = refl
at_place TagState = refl
at_place TagOrder = refl
at_place Undefined = refl
at_place HeapUncovered = refl

pub one_more : (ms : List Module) (f : Placed) (rule : Rule) → HoldBefore ms f (place_of rule) → RuleHolds ms f rule → HoldBefore ms f (place_of rule + 1)
one_more ms f rule before holds r low =
    elim (eq-or-lt_of_le {n = place_of r} {m = place_of rule} (omega arith)) [
      | inl e ↦ subst (λ (q : Rule). RuleHolds ms f q) (sym (at_place rule) ∙ (ap rule_at (sym e) ∙ at_place r)) holds
      | inr lt ↦ before r lt
    ]

below_all : (r : Rule) → place_of r < 9
below_all FallsOff = omega arith
below_all CallTarget = omega arith
below_all BadHandler = omega arith
below_all Loop = omega arith
below_all StackSize = omega arith
below_all TagState = omega arith
below_all TagOrder = omega arith
below_all Undefined = omega arith
below_all HeapUncovered = omega arith

pub all_hold : (ms : List Module) (f : Placed) → HoldBefore ms f 9 → AllHold ms f
all_hold ms f before rule = before rule (below_all rule)

pub none_before : (ms : List Module) (f : Placed) → HoldBefore ms f 0
none_before ms f rule low = absurd (omega (arith, low))

pub rule_says : (ms : List Module) (f : Placed) (rule : Rule) (said : Option ℕ) → is_of_items rule ≡ true → Says (ways ms f rule) item_of said → RuleSays ms f rule said
rule_says ms f FallsOff said items s = s
rule_says ms f CallTarget said items s = s
rule_says ms f BadHandler said items s = s
rule_says ms f Loop said items s = cc
rule_says ms f StackSize said items s = s
rule_says ms f TagState said items s = s
rule_says ms f TagOrder said items s = s
rule_says ms f Undefined said items s = s
rule_says ms f HeapUncovered said items s = s

pub rule_holds : (ms : List Module) (f : Placed) (rule : Rule) → RuleSays ms f rule None → RuleHolds ms f rule
rule_holds ms f FallsOff s = s.none refl
rule_holds ms f CallTarget s = s.none refl
rule_holds ms f BadHandler s = s.none refl
rule_holds ms f Loop s = s.none refl
rule_holds ms f StackSize s = s.none refl
rule_holds ms f TagState s = s.none refl
rule_holds ms f TagOrder s = s.none refl
rule_holds ms f Undefined s = s.none refl
rule_holds ms f HeapUncovered s = s.none refl

pub holds_of : (ms : List Module) (f : Placed) (rule : Rule) → is_of_items rule ≡ true → RuleHolds ms f rule → Holds (ways ms f rule)
holds_of ms f FallsOff items h = h
holds_of ms f CallTarget items h = h
holds_of ms f BadHandler items h = h
holds_of ms f Loop items h = cc
holds_of ms f StackSize items h = h
holds_of ms f TagState items h = h
holds_of ms f TagOrder items h = h
holds_of ms f Undefined items h = h
holds_of ms f HeapUncovered items h = h

-- the next rule's turn comes where nothing is said against this one
pub next_turn : (ms : List Module) (f : Placed) (rule : Rule) → HoldBefore ms f (place_of rule) → is_of_items rule ≡ true → Says (ways ms f rule) item_of None → HoldBefore ms f (place_of rule + 1)
next_turn ms f rule before items s = one_more ms f rule before (rule_holds ms f rule (rule_says ms f rule None items s))

pub broken_first : (ms : List Module) (f : Placed) (rule : Rule) (item : ℕ) → HoldBefore ms f (place_of rule) → is_of_items rule ≡ true → Says (ways ms f rule) item_of (Some item) → IsFirstBroken ms f rule item
broken_first ms f rule item before items s = record { before = before; lowest = rule_says ms f rule (Some item) items s }

pub of_items : (rule : Rule) → looks_at_frames rule ≡ false → is_of_items rule ≡ true
of_items FallsOff e = refl
of_items CallTarget e = refl
of_items BadHandler e = refl
of_items Loop e = cc
of_items StackSize e = refl
of_items TagState e = refl
of_items TagOrder e = refl
of_items Undefined e = refl
of_items HeapUncovered e = refl

-- the rules on stack and tags come before those on registers and heap words
pub frames_before : (ms : List Module) (f : Placed) (rule : Rule) → looks_at_frames rule ≡ false → HoldBefore ms f (place_of rule) → Holds (ways ms f StackSize) × Holds (ways ms f TagState)
frames_before ms f FallsOff flows before = cc
frames_before ms f CallTarget flows before = cc
frames_before ms f BadHandler flows before = cc
frames_before ms f Loop flows before = cc
frames_before ms f StackSize flows before = cc
frames_before ms f TagState flows before = cc
frames_before ms f TagOrder flows before = cc
frames_before ms f Undefined flows before = (before StackSize (omega arith), before TagState (omega arith))
frames_before ms f HeapUncovered flows before = (before StackSize (omega arith), before TagState (omega arith))
