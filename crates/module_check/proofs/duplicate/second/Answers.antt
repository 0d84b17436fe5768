use Rattle.std.proofs.Common.{◌≡◌, ℕ, ◌<◌, sym, ◌∙◌, subst, List, Option, Some, None, length, get_or, slice_get}
use Rattle.std.specs.Option.{IfSome, IsSome}
use Rattle.std.proofs.lemmas.Option.{get_or_from_slice_get, slice_get_within}
use denote.Bor.{Bor}
use Rattle.beam_code.specs.declared.module.Module.{Module}
use Rattle.path_rules.specs.Profile.{AreDistinct}
use Rattle.module_check.specs.Refusals.{IsDuplicate}
use Rattle.module_check.proofs.Duplicated.{none_twice, one_twice}
use Rattle.module_check.proofs.duplicate.second.Goals as goal

-- the module at the place of the one found
got : (ms : List Module) (k : ℕ) (m : Module) → slice_get ms k ≡ Some m → IsDuplicate ms m.name → (o : Option (Bor Module)) → IfSome o (λ x. x.now ≡ get_or ms k x.now) → IfSome o (λ n. IsDuplicate ms n.now.name)
got ms k m at is None e = tt
got ms k m at is (Some b) e = subst (λ (n : Module). IsDuplicate ms n.name) (sym (e ∙ get_or_from_slice_get ms k m b.now at)) is

not_got : (ms : List Module) (k : ℕ) (m : Module) → slice_get ms k ≡ Some m → (o : Option (Bor Module)) → (k < length ms → IsSome o) → o ≡ None → AreDistinct ms
not_got ms k m at o there none = absurd (let none_is : IsSome {T = Bor Module} None = subst (λ (p : Option (Bor Module)). IsSome p) none (there (slice_get_within ms k m at)) in cc)

pub returns-in-Ok-None-clause-none : goal.returns-in-Ok-None-clause-none
returns-in-Ok-None-clause-none c = λ e. none_twice c.args.modules.now (sym c.in-Ok-None.ensures ∙ c.in-Ok-None.field-0-is)

pub returns-in-Ok-Some-clause-none : goal.returns-in-Ok-Some-clause-none
returns-in-Ok-Some-clause-none c =
    let o = one_twice c.args.modules.now c.in-Ok-Some.number (sym c.in-Ok-Some.ensures ∙ c.in-Ok-Some.field-0-is) in
    not_got c.args.modules.now c.in-Ok-Some.number o.0 o.1 c.get.result c.get.ensures.lookup.2

pub returns-in-Ok-Some-clause-some : goal.returns-in-Ok-Some-clause-some
returns-in-Ok-Some-clause-some c =
    let o = one_twice c.args.modules.now c.in-Ok-Some.number (sym c.in-Ok-Some.ensures ∙ c.in-Ok-Some.field-0-is) in
    got c.args.modules.now c.in-Ok-Some.number o.0 o.1 o.2 c.get.result c.get.ensures.lookup.1
