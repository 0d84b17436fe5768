-- The exports of one more module, which count where its name was not seen.
use Rattle.std.proofs.Common.{◌≡◌, ℕ, Bool, true, false, not, ◌&&◌, ◌||◌, refl, sym, ap, ◌∙◌, List, ◌∷◌, nat_eq, if◌then◌else◌, Some, None}
use Rattle.std.specs.List.{list_any}
use Rattle.beam_code.specs.declared.module.Module.{Module}
use Rattle.function_numbers.specs.Keys.{Key, exports_at, has_number, is_among, is_export_at, is_number, number_in}
use Rattle.function_numbers.proofs.Any.{and_false, or_false}
use Rattle.function_numbers.proofs.Keys.{exports_any}
use Rattle.function_numbers.proofs.Places.{number_is}

-- a module whose name has no number
pub none_added : (names : List (List ℕ)) (k : Key) (owner : List ℕ) (es : List (List ℕ × ℕ)) (c s : Bool) → number_in names owner ≡ None → c ≡ (c || (not s && list_any (is_export_at names k owner) es))
none_added names k owner es c s none =
    sym (or_false c)
    ∙ ap (λ b. c || b) (sym (ap (λ b. not s && b) (exports_any names k owner es ∙ ap (λ o. is_number k.owner o && is_among names k es) none) ∙ and_false (not s)))

-- a module whose name was seen
pub seen_added : (names : List (List ℕ)) (k : Key) (owner : List ℕ) (es : List (List ℕ × ℕ)) (c : Bool) (seen : ℕ → Bool) (number : ℕ) → number_in names owner ≡ Some number → seen number ≡ true →
    c ≡ (c || (not (seen k.owner) && list_any (is_export_at names k owner) es))
seen_added names k owner es c seen number at was =
    sym (or_false c)
    ∙ ap (λ b. c || b) (sym (ap (λ b. not (seen k.owner) && b) (exports_any names k owner es ∙ ap (λ o. is_number k.owner o && is_among names k es) at) ∙ by (nat_eq number k.owner) refl))
  where
    by : (b : Bool) → nat_eq number k.owner ≡ b → (not (seen k.owner) && (b && is_among names k es)) ≡ false
    by true t = ap (λ b. not b && is_among names k es) (ap seen (sym (number_is number k.owner t)) ∙ was)
    by false f = and_false (not (seen k.owner))

-- a module whose name was not seen
pub new_added : (names : List (List ℕ)) (k : Key) (owner : List ℕ) (es : List (List ℕ × ℕ)) (c d : Bool) (seen : ℕ → Bool) (number : ℕ) → number_in names owner ≡ Some number → seen number ≡ false →
    d ≡ (c || list_any (is_export_at names k owner) es) → d ≡ (c || (not (seen k.owner) && list_any (is_export_at names k owner) es))
new_added names k owner es c d seen number at new is =
    is
    ∙ ap (λ b. c || b) (any_at ∙ (by (nat_eq number k.owner) refl ∙ sym (ap (λ b. not (seen k.owner) && b) any_at)))
  where
    any_at : list_any (is_export_at names k owner) es ≡ (nat_eq number k.owner && is_among names k es)
    any_at = exports_any names k owner es ∙ ap (λ o. is_number k.owner o && is_among names k es) at

    by : (b : Bool) → nat_eq number k.owner ≡ b → (b && is_among names k es) ≡ (not (seen k.owner) && (b && is_among names k es))
    by true t = sym (ap (λ b. not b && is_among names k es) (ap seen (sym (number_is number k.owner t)) ∙ new))
    by false f = sym (and_false (not (seen k.owner)))

either : (names : List (List ℕ)) (k : Key) (c s h : Bool) (es rest : List (List ℕ × ℕ)) →
    (c || (not s && (h && is_among names k es)) || (not (s || h) && is_among names k rest)) ≡ (c || (not s && is_among names k (if h then es else rest)))
either names k true s h es rest = refl
either names k false true h es rest = refl
either names k false false true es rest = or_false (is_among names k es)
either names k false false false es rest = refl

pub one_more : (names : List (List ℕ)) (k : Key) (m : Module) (ms : List Module) (c s d t : Bool) → d ≡ (c || (not s && list_any (is_export_at names k m.name) m.exports)) → t ≡ (s || has_number names k.owner m.name) →
    (d || (not t && is_among names k (exports_at names k.owner ms))) ≡ (c || (not s && is_among names k (exports_at names k.owner (m ∷ ms))))
one_more names k m ms c s d t added seen =
    ap (λ b. b || (not t && is_among names k (exports_at names k.owner ms))) (added ∙ ap (λ b. c || (not s && b)) (exports_any names k m.name m.exports))
    ∙ (ap (λ b. c || (not s && (has_number names k.owner m.name && is_among names k m.exports)) || (not b && is_among names k (exports_at names k.owner ms))) seen
    ∙ either names k c s (has_number names k.owner m.name) m.exports (exports_at names k.owner ms))

pub none_left : (c s : Bool) → (c || (not s && false)) ≡ c
none_left c s = ap (λ b. c || b) (and_false (not s)) ∙ or_false c
