-- The stack that every path carries to an item is the one that the first path carries.
use Rattle.std.proofs.Common.{◌≡◌, ◌⊎◌, ℕ, zero, suc, ◌<◌, Bool, true, false, inl, inr, refl, sym, ap, subst, ◌∙◌, List, [], ◌∷◌, ◌++◌, flat_map, length, nat_eq, if◌then◌else◌, Option, Some, None, option_map, Contains, slice_get, arith, eqb-true, true≢false}
use Rattle.paths.specs.Paths.{Free, Graph}
use Rattle.paths.proofs.Tests.{first_or_later, here, later}
use Rattle.path_search.proofs.Listing.{contains_at}
use Rattle.beam_check.specs.Carried.{IsStackOf}
use Rattle.beam_code.specs.declared.module.Module.{Module}
use Rattle.beam_code.specs.Function.{Placed, all_functions}
use Rattle.path_rules.proofs.Profiled.{profile_ends}
use Rattle.path_rules.proofs.Staying.{free_stays}
use Rattle.path_rules.specs.Points.{Point, graph}
use Rattle.path_rules.specs.Profile.{InProfile}
use Rattle.word_rows.specs.Standing.{first_at, point_at, points_after, points_below, stack_at}

-- ---- numbers

same_eqb : (a b : ℕ) → a ≡ b → nat_eq a b ≡ true
same_eqb a b e = grind arith

below : (n m : ℕ) → n < suc m → nat_eq n m ≡ false → n < m
below n m lt e = grind arith

-- ---- elements

in_left : {A : Type 0} (xs ys : List A) (y : A) → Contains xs y → Contains (xs ++ ys) y
in_left [] ys y (k, lt, is) = absurd (omega (arith, lt))
in_left (x ∷ xs) ys y c = elim (first_or_later x xs y c) [ inl e ↦ here x (xs ++ ys) y e | inr d ↦ later x (xs ++ ys) y (in_left xs ys y d) ]

in_right : {A : Type 0} (xs ys : List A) (y : A) → Contains ys y → Contains (xs ++ ys) y
in_right [] ys y c = c
in_right (x ∷ xs) ys y c = later x (xs ++ ys) y (in_right xs ys y c)

in_either : {A : Type 0} (xs ys : List A) (y : A) → Contains (xs ++ ys) y → Contains xs y ⊎ Contains ys y
in_either [] ys y c = inr c
in_either (x ∷ xs) ys y c = elim (first_or_later x (xs ++ ys) y c) [
  | inl e ↦ inl (here x xs y e)
  | inr d ↦ elim (in_either xs ys y d) [ inl h ↦ inl (later x xs y h) | inr h ↦ inr h ]
]

in_flat : {A B : Type 0} (f : A → List B) (xs : List A) (x : A) (y : B) → Contains xs x → Contains (f x) y → Contains (flat_map f xs) y
in_flat f [] x y (k, lt, is) there = absurd (omega (arith, lt))
in_flat {A} {B} f (z ∷ zs) x y c there = elim (first_or_later z zs x c) [
  | inl e ↦ in_left (f z) (flat_map f zs) y (let P : A → Type 0 = λ w. Contains (f w) y in subst P (sym e) there)
  | inr d ↦ in_right (f z) (flat_map f zs) y (in_flat f zs x y d there)
]

from_flat : {A B : Type 0} (f : A → List B) (xs : List A) (y : B) → Contains (flat_map f xs) y → (x : A) × Contains xs x × Contains (f x) y
from_flat f [] y (k, lt, is) = absurd (omega (arith, lt))
from_flat f (x ∷ xs) y c = elim (in_either (f x) (flat_map f xs) y c) [
  | inl h ↦ (x, here x xs x refl, h)
  | inr h ↦ (let r = from_flat f xs y h in (r.0, later x xs r.0 r.1, r.2))
]

-- ---- paths

in_after : {P : Type 0} (g : Graph P) (n : ℕ) (p : P) → Free g n p → Contains (points_after g n) p
in_after g zero p free = here g.start [] p (sym free)
in_after g (suc n) p (x, free, there) = in_flat g.moves (points_after g n) x p (in_after g n x free) there

from_after : {P : Type 0} (g : Graph P) (n : ℕ) (p : P) → Contains (points_after g n) p → Free g n p
from_after g zero p c = elim (first_or_later g.start [] p c) [ inl e ↦ sym e | inr d ↦ absurd (let lt = d.1 in omega (arith, lt)) ]
from_after g (suc n) p c = (let r = from_flat g.moves (points_after g n) p c in (r.0, from_after g n r.0 r.1, r.2))

in_below : {P : Type 0} (g : Graph P) (m n : ℕ) (p : P) → n < m → Free g n p → Contains (points_below g m) p
in_below g zero n p lt free = absurd (omega (arith, lt))
in_below {P} g (suc m) n p lt free = by (nat_eq n m) refl (λ lower. in_below g m n p lower free)
  where
    by : (b : Bool) → nat_eq n m ≡ b → (n < m → Contains (points_below g m) p) → Contains (points_below g (suc m)) p
    by true e rest = in_right (points_below g m) (points_after g m) p (let Q : ℕ → Type 0 = λ k. Contains (points_after g k) p in subst Q (eqb-true n m e) (in_after g n p free))
    by false e rest = in_left (points_below g m) (points_after g m) p (rest (below n m lt e))

from_below : {P : Type 0} (g : Graph P) (m : ℕ) (p : P) → Contains (points_below g m) p → (n : ℕ) × Free g n p
from_below g zero p (k, lt, is) = absurd (omega (arith, lt))
from_below g (suc m) p c = elim (in_either (points_below g m) (points_after g m) p c) [
  | inl h ↦ from_below g m p h
  | inr h ↦ (m, from_after g m p h)
]

-- ---- the first at an item

first_is : (item : ℕ) (ps : List Point) (p : Point) → first_at item ps ≡ Some p → Contains ps p × (p.item ≡ item)
first_is item [] p e = absurd cc
first_is item (q ∷ qs) p e = by (nat_eq q.item item) refl e (λ further. first_is item qs p further)
  where
    by : (b : Bool) → nat_eq q.item item ≡ b → (if b then Some q else first_at item qs) ≡ Some p → (first_at item qs ≡ Some p → Contains qs p × (p.item ≡ item)) → Contains (q ∷ qs) p × (p.item ≡ item)
    by true t e rest = (let same : q ≡ p = cc in (here q qs p same, sym (ap (λ (x : Point). x.item) same) ∙ eqb-true q.item item t))
    by false f e rest = (let r = rest e in (later q qs p r.0, r.1))

no_first : (item : ℕ) (ps : List Point) (p : Point) → first_at item ps ≡ None → Contains ps p → p.item ≡ item → ⊥
no_first item [] p none (k, lt, is) at = omega (arith, lt)
no_first item (q ∷ qs) p none c at = by (nat_eq q.item item) refl none (λ further there. no_first item qs p further there at)
  where
    by : (b : Bool) → nat_eq q.item item ≡ b → (if b then Some q else first_at item qs) ≡ None → (first_at item qs ≡ None → Contains qs p → ⊥) → ⊥
    by true t none rest = absurd cc
    by false f none rest = elim (first_or_later q qs p c) [
      | inl e ↦ (let same : q.item ≡ item = ap (λ (x : Point). x.item) e ∙ at in absurd (true≢false (sym (same_eqb q.item item same) ∙ f)))
      | inr d ↦ rest none d
    ]

-- ---- the stack

stack_by : (ms : List Module) (f : Placed) (item : ℕ) (said : Option (Option ℕ)) → ((n : ℕ) (p : Point) → Free (graph ms f.function) n p → n < length f.function.items) → IsStackOf ms f item said →
    (o : Option Point) → point_at ms f.function item ≡ o → said ≡ option_map (λ p. p.stack) o
stack_by ms f item said short is (Some p) e =
    let found = first_is item (points_below (graph ms f.function) (length f.function.items)) p e in
    let free = from_below (graph ms f.function) (length f.function.items) p found.0 in
    is.every free.0 p free.1 found.1
stack_by ms f item None short is None e = refl
stack_by ms f item (Some stack) short is None e =
    let s = is.some stack refl in
    absurd (no_first item (points_below (graph ms f.function) (length f.function.items)) s.1 e (in_below (graph ms f.function) (length f.function.items) s.0 s.1 (short s.0 s.1 s.2) s.2) s.3)

pub stack_is : (ms : List Module) (fid : ℕ) (f : Placed) (item : ℕ) (said : Option (Option ℕ)) → InProfile ms → slice_get (all_functions ms) fid ≡ Some f → f.function.entry < length f.function.items → IsStackOf ms f item said →
    said ≡ stack_at ms f.function item
stack_is ms fid f item said profile at entry is =
    stack_by ms f item said (λ n p free. (profile_ends ms f profile (contains_at (all_functions ms) fid f at)).short n p free (free_stays ms f.function entry n p free)) is (point_at ms f.function item) refl
