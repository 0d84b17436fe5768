-- Modules in the profile are refused for want of memory alone.
use Rattle.std.proofs.Common.{◌≡◌, ℕ, ◌+◌, ◌<◌, ◌≤◌, ◌^◌, true, false, refl, sym, subst, arith, List, ◌∷◌, ◌++◌, Some, length}
use Rattle.std.specs.List.{Contains}
use Rattle.std.proofs.lemmas.List.Elements.{Contains-append_right}
use Rattle.paths.proofs.Tests.{here}
use Rattle.beam_code.specs.declared.module.Module.{Module}
use Rattle.beam_code.specs.Function.{Placed, all_functions}
use Rattle.path_rules.specs.declared.rule.Rule.{Rule}
use Rattle.path_rules.specs.declared.rule.Rule.TheVariants.{FallsOff, CallTarget, BadHandler, Loop, StackSize, TagState, TagOrder, Undefined, HeapUncovered}
use Rattle.path_rules.specs.declared.limits.TheConstants.{MOST_UNITS}
use Rattle.path_rules.specs.Profile.{AreDistinct, AreFew, InProfile}
use Rattle.path_rules.specs.Rules.{RuleHolds, RuleSays}
use Rattle.module_check.specs.declared.entry.Entry.{Entry}
use Rattle.module_check.specs.declared.refusal.CheckRefusal.{CheckRefusal}
use Rattle.module_check.specs.declared.refusal.CheckRefusal.TheVariants.{Duplicate, TooMany, Broken, Memory}
use Rattle.module_check.specs.Entries.{AreEntries, AreReady, AreSound}
use Rattle.module_check.specs.Refusals.{IsMemory, IsRefusedBy, StopsIn}
use Rattle.module_check.proofs.Duplicated.{distinct_split}
use Rattle.module_check.proofs.Entering.{entered_hold}
use Rattle.module_check.proofs.Units.{functions_in_items, items_in_units}

says_breaks : (ms : List Module) (f : Placed) (rule : Rule) (i : ℕ) → RuleSays ms f rule (Some i) → RuleHolds ms f rule → ⊥
says_breaks ms f FallsOff i s h = let b = (s.some i refl).0 in h b.0 b.1
says_breaks ms f CallTarget i s h = let b = (s.some i refl).0 in h b.0 b.1
says_breaks ms f BadHandler i s h = let b = (s.some i refl).0 in h b.0 b.1
says_breaks ms f Loop i s h = let b = (s.some i refl).0 in h b.0 i b.1
says_breaks ms f StackSize i s h = let b = (s.some i refl).0 in h b.0 b.1
says_breaks ms f TagState i s h = let b = (s.some i refl).0 in h b.0 b.1
says_breaks ms f TagOrder i s h = let b = (s.some i refl).0 in h b.0 b.1
says_breaks ms f Undefined i s h = let b = (s.some i refl).0 in h b.0 b.1
says_breaks ms f HeapUncovered i s h = let b = (s.some i refl).0 in h b.0 b.1

pub only_memory : (ms : List Module) (r : CheckRefusal) → IsRefusedBy ms r → InProfile ms → IsMemory r
only_memory ms (Duplicate name) d profile =
    let none = distinct_split d.front d.second d.rest (subst AreDistinct d.all profile.distinct) in
    let given = d.given in
    absurd cc
only_memory ms TooMany many profile = absurd (many.many profile.few)
only_memory ms (Broken rule owner name arity item) broken profile =
    let at = broken.functions in
    let there = subst (λ (fs : List Placed). Contains fs at.f) (sym at.all) (Contains-append_right at.front (at.f ∷ at.rest) at.f (here at.f at.rest at.f refl)) in
    says_breaks ms at.f rule item at.first.lowest (profile.rules at.f there rule)
only_memory ms (Memory e) m profile = tt

-- few modules as texts have them may be looked at
pub ready_of : (ms : List Module) → AreFew ms → AreSound ms → AreReady ms
ready_of ms few sound =
    let items = items_in_units (all_functions ms) in
    let all = few.all in
    let functions = functions_in_items (all_functions ms) sound.has_item in
    record { few = few; items = omega arith; functions = omega arith; sound = sound }

-- and are in the profile where all functions were entered
pub profile_of : (ms : List Module) (es : List Entry) → AreDistinct ms → AreFew ms → AreEntries ms (all_functions ms) es → InProfile ms
profile_of ms es distinct few are = record { distinct = distinct; few = few; rules = λ f c rule. entered_hold ms (all_functions ms) es are f c rule }

pub refused_by : (ms : List Module) (r : CheckRefusal) → AreDistinct ms → AreFew ms → StopsIn ms (all_functions ms) r → IsRefusedBy ms r
refused_by ms (Duplicate name) distinct few stops = absurd stops
refused_by ms TooMany distinct few stops = absurd stops
refused_by ms (Broken rule owner name arity item) distinct few stops = record { distinct = distinct; few = few; functions = stops }
refused_by ms (Memory e) distinct few stops = tt
