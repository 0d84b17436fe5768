-- Lists and tests: what an element of a list is, and what passes a test.
use Rattle.std.proofs.Common.{◌≡◌, ℕ, zero, suc, ◌<◌, ◌⊎◌, inl, inr, Bool, true, false, ◌||◌, refl, ap, sym, ◌∙◌, arith, List, [], ◌∷◌, length, get_or, map}
use Rattle.std.specs.List.{Contains, list_any}
use Rattle.std.proofs.lemmas.Bool.{cases_Bool}
use Rattle.std.proofs.lemmas.List.Folds.{list_any_at}

pub here : {X : Type 0} (x : X) (xs : List X) (y : X) → x ≡ y → Contains (x ∷ xs) y
here x xs y e = (zero, omega arith, e)

pub later : {X : Type 0} (x : X) (xs : List X) (y : X) → Contains xs y → Contains (x ∷ xs) y
later x xs y c = (suc c.0, (let within = c.1 in omega arith), c.2)

pub first_or_later : {X : Type 0} (x : X) (xs : List X) (y : X) → Contains (x ∷ xs) y → (x ≡ y) ⊎ Contains xs y
first_or_later x xs y c = at c.0 c.1 c.2
  where
    at : (k : ℕ) → k < length (x ∷ xs) → get_or (x ∷ xs) k y ≡ y → (x ≡ y) ⊎ Contains xs y
    at zero within e = inl e
    at (suc k) within e = inr (k, omega arith, e)

pub Contains-map : {P Q : Type 0} (f : P → Q) (xs : List P) (x : P) → Contains xs x → Contains (map f xs) (f x)
Contains-map f [] x c = absurd (omega (arith, c.1))
Contains-map f (y ∷ ys) x c =
    elim (first_or_later y ys x c) [ inl e ↦ here (f y) (map f ys) (f x) (ap f e) | inr rest ↦ later (f y) (map f ys) (f x) (Contains-map f ys x rest) ]

pub Contains-from_map : {P Q : Type 0} (f : P → Q) (xs : List P) (z : Q) → Contains (map f xs) z → (x : P) × Contains xs x × (f x ≡ z)
Contains-from_map f [] z c = absurd (omega (arith, c.1))
Contains-from_map f (y ∷ ys) z c =
    elim (first_or_later (f y) (map f ys) z c) [
      | inl e ↦ (y, here y ys y refl, e)
      | inr rest ↦ (let r = Contains-from_map f ys z rest in (r.0, later y ys r.0 r.1, r.2))
    ]

-- what passes, where something does
pub any_found : {X : Type 0} (p : X → Bool) (xs : List X) → list_any p xs ≡ true → (y : X) × Contains xs y × (p y ≡ true)
any_found p [] t = cc
any_found p (x ∷ xs) t =
    elim (cases_Bool (p x)) [
      | inl a ↦ (x, here x xs x refl, a)
      | inr f ↦ (let r = any_found p xs (sym (ap (λ b. b || list_any p xs) f) ∙ t) in (r.0, later x xs r.0 r.1, r.2))
    ]

-- where nothing passes, no element does
pub none_in : {X : Type 0} (p : X → Bool) (xs : List X) (y : X) → list_any p xs ≡ false → Contains xs y → p y ≡ false
none_in p xs y none c =
    elim (cases_Bool (p y)) [
      | inl t ↦ (let a = list_any_at p xs c.0 y c.1 (ap p c.2 ∙ t) in cc)
      | inr f ↦ f
    ]
