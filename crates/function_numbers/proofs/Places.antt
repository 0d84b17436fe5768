-- The number of a name is its place, so no two names have one number.
use Rattle.std.proofs.Common.{◌≡◌, ℕ, ◌+◌, ◌<◌, Bool, true, false, not, ◌||◌, refl, sym, ap, ◌∙◌, inl, inr, List, [], ◌∷◌, length, cond, get_or, nat_eq, nat_lt, Option, Some, None, true≢false, arith}
use Rattle.std.specs.Prelude.{position}
use Rattle.std.specs.List.{list_any, position_or_len}
use Rattle.std.specs.Cmp.Lexicographic.{same_text}
use Rattle.std.proofs.lemmas.Bool.{cases_Bool}
use Rattle.std.proofs.lemmas.Cmp.{nat_list_eq_equiv}
use Rattle.std.proofs.lemmas.List.Quantifiers.{position-Some}
use Rattle.beam_code.specs.Function.{same_name}
use Rattle.function_numbers.specs.Keys.{has_number, is_number, number_in}

pub name_is : (a b : List ℕ) → same_name a b ≡ true → a ≡ b
name_is a b t = same_text a b (sym t)

pub name_self : (a : List ℕ) → same_name a a ≡ true
name_self a = nat_list_eq_equiv.refl a

pub name_turned : (a b : List ℕ) → same_name a b ≡ same_name b a
name_turned a b = nat_list_eq_equiv.symm a b

pub number_turned : (a b : ℕ) → nat_eq a b ≡ nat_eq b a
number_turned a b = grind arith

pub number_self : (a : ℕ) → nat_eq a a ≡ true
number_self a = grind arith

pub number_is : (a b : ℕ) → nat_eq a b ≡ true → a ≡ b
number_is a b t = grind arith

-- one that passes has a place
placed : {A : Type 0} (p : A → Bool) (xs : List A) → list_any p xs ≡ true → position_or_len p xs < length xs
placed p [] some = absurd (true≢false (sym some))
placed p (x ∷ xs) some = by (p x) some (λ s. placed p xs s)
  where
    by : (b : Bool) → (b || list_any p xs) ≡ true → (list_any p xs ≡ true → position_or_len p xs < length xs) → cond (not b) (1 + position_or_len p xs) 0 < length (x ∷ xs)
    by true s rest = omega arith
    by false s rest = (let r = rest s in omega arith)

-- so without a place there is none
pub unplaced : {A : Type 0} (p : A → Bool) (xs : List A) → position p xs ≡ None → list_any p xs ≡ false
unplaced p xs none = elim (cases_Bool (list_any p xs)) [
  | inl some ↦ (let lt = placed p xs some in let t : nat_lt (position_or_len p xs) (length xs) ≡ true = grind arith in let e = ap (λ b. cond b (Some (position_or_len p xs)) None) t in cc)
  | inr f ↦ f
]

-- names with one number are one name
pub one_name : (names : List (List ℕ)) (m n : List ℕ) (i : ℕ) → number_in names m ≡ Some i → number_in names n ≡ Some i → m ≡ n
one_name names m n i at there =
    name_is m (get_or names i []) (position-Some (same_name m) names i [] at).1 ∙ sym (name_is n (get_or names i []) (position-Some (same_name n) names i [] there).1)

-- which names have a name's number: that name alone
pub has_number_is : (names : List (List ℕ)) (m : List ℕ) (i : ℕ) → number_in names m ≡ Some i → (n : List ℕ) → has_number names i n ≡ same_name m n
has_number_is names m i at n = elim (cases_Bool (same_name m n)) [
  | inl t ↦ ap (λ (x : List ℕ). is_number i (number_in names x)) (sym (name_is m n t)) ∙ (ap (is_number i) at ∙ (number_self i ∙ sym t))
  | inr f ↦ by (number_in names n) refl f ∙ sym f
]
  where
    by : (o : Option ℕ) → number_in names n ≡ o → same_name m n ≡ false → is_number i o ≡ false
    by None there f = refl
    by (Some j) there f = elim (cases_Bool (nat_eq j i)) [
      | inl e ↦ (let same = one_name names m n i at (there ∙ ap (λ k. Some k) (number_is j i e)) in absurd (true≢false (sym (name_self m) ∙ (ap (λ (x : List ℕ). same_name m x) same ∙ f))))
      | inr e ↦ e
    ]
