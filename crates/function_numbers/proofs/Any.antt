-- Whether some element of a list passes a test, and the first one that does.
use Rattle.std.proofs.Common.{◌≡◌, ℕ, ◌+◌, Bool, true, false, not, ◌&&◌, ◌||◌, refl, sym, ap, ◌∙◌, List, [], ◌∷◌, ◌++◌, map, length, drop, get_or, ◌<◌, if◌then◌else◌, Option, Some, None, arith}
use Rattle.std.specs.List.{list_any}
use Rattle.std.specs.Option.{option_or}
use Rattle.std.proofs.lemmas.List.{at_drop_more}
use Rattle.beam_code.specs.Function.{first_that}

pub any_same : {A : Type 0} (p q : A → Bool) (xs : List A) → ((x : A) → p x ≡ q x) → list_any p xs ≡ list_any q xs
any_same p q [] same = refl
any_same p q (x ∷ xs) same = ap (λ b. b || list_any p xs) (same x) ∙ ap (λ b. q x || b) (any_same p q xs same)

any_false : {A : Type 0} (xs : List A) → list_any (λ x. false) xs ≡ false
any_false [] = refl
any_false (x ∷ xs) = any_false xs

-- a condition that looks at no element
pub any_and : {A : Type 0} (b : Bool) (p : A → Bool) (xs : List A) → list_any (λ x. b && p x) xs ≡ (b && list_any p xs)
any_and true p xs = refl
any_and false p xs = any_false xs

pub first_same : {A : Type 0} (p q : A → Bool) (at : ℕ) (xs : List A) → ((x : A) → p x ≡ q x) → first_that p at xs ≡ first_that q at xs
first_same p q at [] same = refl
first_same p q at (x ∷ xs) same =
    ap (λ b. if b then Some at else first_that p (at + 1) xs) (same x) ∙ ap (λ o. if q x then Some at else o) (first_same p q (at + 1) xs same)

pub first_map : {A B : Type 0} (p : B → Bool) (f : A → B) (at : ℕ) (xs : List A) → first_that p at (map f xs) ≡ first_that (λ x. p (f x)) at xs
first_map p f at [] = refl
first_map p f at (x ∷ xs) = ap (λ o. if p (f x) then Some at else o) (first_map p f (at + 1) xs)

-- the first of two lists, of which the second's places go on
pub first_append : {A : Type 0} (p : A → Bool) (at : ℕ) (xs ys : List A) → first_that p at (xs ++ ys) ≡ option_or (first_that p at xs) (first_that p (at + length xs) ys)
first_append p at [] ys = (let e : at ≡ at + 0 = omega arith in ap (λ n. first_that p n ys) e)
first_append p at (x ∷ xs) ys =
    ap (λ o. if p x then Some at else o) (first_append p (at + 1) xs ys) ∙ by (p x)
  where
    by : (b : Bool) → (if b then Some at else option_or (first_that p (at + 1) xs) (first_that p (at + 1 + length xs) ys)) ≡ option_or (if b then Some at else first_that p (at + 1) xs) (first_that p (at + length (x ∷ xs)) ys)
    by true = refl
    by false = (let e : at + 1 + length xs ≡ at + length (x ∷ xs) = omega arith in ap (λ n. option_or (first_that p (at + 1) xs) (first_that p n ys)) e)

-- where none passes there is no first one
pub no_first : {A : Type 0} (p : A → Bool) (at : ℕ) (xs : List A) → list_any p xs ≡ false → first_that p at xs ≡ None
no_first p at [] none = refl
no_first p at (x ∷ xs) none = by (p x) none (λ n. no_first p (at + 1) xs n)
  where
    by : (b : Bool) → (b || list_any p xs) ≡ false → (list_any p xs ≡ false → first_that p (at + 1) xs ≡ None) → (if b then Some at else first_that p (at + 1) xs) ≡ None
    by true n rest = cc
    by false n rest = rest n

pub or_grouped : {A : Type 0} (a b c : Option A) → option_or (option_or a b) c ≡ option_or a (option_or b c)
or_grouped None b c = refl
or_grouped (Some x) b c = refl

pub or_none : {A : Type 0} (a : Option A) → option_or a None ≡ a
or_none None = refl
or_none (Some x) = refl

pub or_false : (b : Bool) → (b || false) ≡ b
or_false true = refl
or_false false = refl

pub and_false : (b : Bool) → (b && false) ≡ false
and_false true = refl
and_false false = refl

pub was_new : (b : Bool) → not b ≡ true → b ≡ false
was_new true t = cc
was_new false t = refl

pub was_there : (b : Bool) → not b ≡ false → b ≡ true
was_there true t = refl
was_there false t = cc

-- what is left of a list at the place of an element
pub left_is : {A : Type 0} (xs : List A) (i : ℕ) (x : A) → i < length xs → x ≡ get_or xs i x → drop i xs ≡ x ∷ drop (i + 1) xs
left_is xs i x lt is = at_drop_more (λ ys. ys) xs i x lt ∙ ap (λ y. y ∷ drop (i + 1) xs) (sym is)
