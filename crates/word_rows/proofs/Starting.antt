-- What has a target: functions whose calls begin at its label; and the first one from a place on.
use Rattle.std.proofs.Common.{◌≡◌, ℕ, suc, Bool, true, false, ◌&&◌, cond, if◌then◌else◌, refl, sym, ap, ◌∙◌, List, drop, Option, Some, None, nat_eq, slice_get, add-one}
use Rattle.beam_code.specs.declared.instr.Instr.{Instr}
use Rattle.beam_code.specs.declared.instr.Instr.TheVariants.{Label}
use Rattle.beam_code.specs.Function.{Placed, first_that, is_entry_label, is_label, is_label_at, is_target, same_name}
use Rattle.beam_code.specs.Lined.{Lined}
use Rattle.function_numbers.proofs.Places.{name_turned, number_turned}
use Rattle.path_rules.specs.Index.{entry_label, label_at, label_of}
use Rattle.word_rows.proofs.Functions.{drop_here}
use Rattle.word_rows.specs.Targets.{Target, same_target}

abbrev starts : ℕ → Option ℕ → Bool
starts n None = false
starts n (Some label) = nat_eq label n

label_is : (n : ℕ) (i : Instr) → is_label n i ≡ starts n (label_of i)
label_is n (Label m) = number_turned n m
label_is n _ = refl

entry_is : (n : ℕ) (o : Option Lined) → is_label_at n o ≡ starts n (label_at o)
entry_is n None = refl
entry_is n (Some i) = label_is n i.instr

grouped : (a b c : Bool) → (a && b && c) ≡ (a && (b && c))
grouped true b c = refl
grouped false b c = refl

never : (a c : Bool) → (a && (false && c)) ≡ false
never true c = refl
never false c = refl

starts_so : (k : Target) (p : Placed) → is_target k.owner k.label k.arity p ≡ (same_name p.owner.name k.owner && (starts k.label (entry_label p.function) && nat_eq p.function.arity k.arity))
starts_so k p =
    grouped (same_name k.owner p.owner.name) (is_entry_label k.label p.function) (nat_eq k.arity p.function.arity)
    ∙ ap (λ b. b && (is_entry_label k.label p.function && nat_eq k.arity p.function.arity)) (name_turned k.owner p.owner.name)
    ∙ ap (λ b. same_name p.owner.name k.owner && (b && nat_eq k.arity p.function.arity)) (entry_is k.label (slice_get p.function.items p.function.entry))
    ∙ ap (λ b. same_name p.owner.name k.owner && (starts k.label (entry_label p.function) && b)) (number_turned k.arity p.function.arity)

abbrev pub target_with : List ℕ → ℕ → ℕ → Target
target_with owner label arity = record { owner = owner; label = label; arity = arity }

pub target_is : (k : Target) (p : Placed) (label : ℕ) → entry_label p.function ≡ Some label → is_target k.owner k.label k.arity p ≡ same_target (target_with p.owner.name label p.function.arity) k
target_is k p label e = starts_so k p ∙ ap (λ o. same_name p.owner.name k.owner && (starts k.label o && nat_eq p.function.arity k.arity)) e

pub no_target : (k : Target) (p : Placed) → entry_label p.function ≡ None → is_target k.owner k.label k.arity p ≡ false
no_target k p e = starts_so k p ∙ ap (λ o. same_name p.owner.name k.owner && (starts k.label o && nat_eq p.function.arity k.arity)) e ∙ never (same_name p.owner.name k.owner) (nat_eq p.function.arity k.arity)

first_with : {A : Type 0} (test : A → Bool) (all : List A) (n : ℕ) (p : A) (got : Option ℕ) → slice_get all n ≡ Some p → got ≡ first_that test (suc n) (drop (suc n) all) → cond (test p) (Some n) got ≡ first_that test n (drop n all)
first_with {A} test all n p got at is =
    by (test p)
    ∙ ap (λ k. if test p then Some n else first_that test k (drop (suc n) all)) (sym (add-one n))
    ∙ ap (first_that test n) (sym (drop_here all n p at))
  where
    by : (b : Bool) → cond b (Some n) got ≡ (if b then Some n else first_that test (suc n) (drop (suc n) all))
    by true = refl
    by false = is

-- one function before those from a number on
pub first_more : {A : Type 0} (test : A → Bool) (all : List A) (n m : ℕ) (p : A) (got new : Option ℕ) → m ≡ suc n → slice_get all n ≡ Some p → got ≡ first_that test m (drop m all) → new ≡ cond (test p) (Some n) got → new ≡ first_that test n (drop n all)
first_more test all n m p got new next at is more = more ∙ first_with test all n p got at (is ∙ ap (λ k. first_that test k (drop k all)) next)
