-- Whether some element of a list passes a test.
use Rattle.std.proofs.Common.{◌≡◌, ℕ, ◌+◌, Bool, true, false, ◌&&◌, ◌||◌, refl, ap, ◌∙◌, List, [], ◌∷◌, map, if◌then◌else◌, Some, is_some}
use Rattle.std.specs.List.{list_any}
use Rattle.beam_code.specs.Function.{first_that}

-- there is a first one that passes where some one does
pub first_some : {A : Type 0} (test : A → Bool) (at : ℕ) (xs : List A) → is_some (first_that test at xs) ≡ list_any test xs
first_some test at [] = refl
first_some test at (x ∷ xs) = by (test x) (first_some test (at + 1) xs)
  where
    by : (b : Bool) → is_some (first_that test (at + 1) xs) ≡ list_any test xs → is_some (if b then Some at else first_that test (at + 1) xs) ≡ (b || list_any test xs)
    by true rest = refl
    by false rest = rest

pub any_same : {A : Type 0} (p q : A → Bool) (xs : List A) → ((x : A) → p x ≡ q x) → list_any p xs ≡ list_any q xs
any_same p q [] same = refl
any_same p q (x ∷ xs) same = ap (λ b. b || list_any p xs) (same x) ∙ ap (λ b. q x || b) (any_same p q xs same)

pub any_map : {A B : Type 0} (p : B → Bool) (f : A → B) (xs : List A) → list_any p (map f xs) ≡ list_any (λ x. p (f x)) xs
any_map p f [] = refl
any_map p f (x ∷ xs) = ap (λ b. p (f x) || b) (any_map p f xs)

any_false : {A : Type 0} (xs : List A) → list_any (λ x. false) xs ≡ false
any_false [] = refl
any_false (x ∷ xs) = any_false xs

-- a condition that looks at no element
pub any_and : {A : Type 0} (b : Bool) (p : A → Bool) (xs : List A) → list_any (λ x. b && p x) xs ≡ (b && list_any p xs)
any_and true p xs = refl
any_and false p xs = any_false xs
