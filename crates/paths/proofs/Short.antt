-- Where no item lies on a cycle, a path makes fewer moves than there are items.
use Rattle.std.proofs.Common.{◌≡◌, ℕ, zero, suc, ◌≤◌, ◌<◌, ◌⊎◌, inl, inr, false, true, List, [], ◌∷◌, length, refl, arith, ap, sym, subst, nat_eq}
use Rattle.std.specs.List.{All, AllByRecursion, Contains, IsDistinct}
use Rattle.std.proofs.lemmas.Bool.Decides.{nat_tests}
use Rattle.std.proofs.lemmas.List.Elements.{All-nil, All-cons, All-contains}
use Rattle.std.proofs.lemmas.Map.Keys.{IsDistinct-cons}
use Rattle.std.proofs.lemmas.Map.Steps.{length-le_from_distinct_below}
use Rattle.std.proofs.lemmas.Map.Views.{Contains-from_any}
use Rattle.paths.specs.Paths.{Graph, Free}
use Rattle.paths.specs.Rules.{Ways, Step, Leads, NoLoop}
use Rattle.paths.proofs.Tests.{first_or_later, later, here}

-- the items that a path has passed, the last first
abbrev passed : {P : Type 0} (graph : Graph P) (item : P → ℕ) (n : ℕ) (y : P) → Free graph n y → List ℕ
passed graph item zero y free = []
passed graph item (suc n) y free = item free.0 ∷ passed graph item n free.0 free.1

all_other : (x : ℕ) (xs : List ℕ) → (Contains xs x → ⊥) → AllByRecursion (λ y. nat_eq x y ≡ false) xs
all_other x [] out = tt
all_other x (y ∷ ys) out =
    (other (λ e. out (here y ys x (sym e))), all_other x ys (λ c. out (later y ys x c)))
  where
    other : (x ≡ y → ⊥) → nat_eq x y ≡ false
    other ne = grind (arith, nat_tests)

same_item : (x y : ℕ) → nat_eq x y ≡ true → x ≡ y
same_item x y t = grind (arith, nat_tests)

module _ {P : Type 0} (ways : Ways P) (item : P → ℕ) (steps : (n : ℕ) (x y : P) → Free ways.graph n x → Contains (ways.graph.moves x) y → Step ways item (item x) (item y)) where
  leads_on : (n : ℕ) (x y : P) (a : ℕ) → Free ways.graph n x → Contains (ways.graph.moves x) y → (item x ≡ a) ⊎ ((k : ℕ) × Leads ways item k a (item x)) → (k : ℕ) × Leads ways item k a (item y)
  leads_on n x y a free move (inl e) = (0, subst (λ b. Step ways item b (item y)) e (steps n x y free move))
  leads_on n x y a free move (inr leads) = (suc leads.0, (item x, leads.1, steps n x y free move))

  -- what a path passed leads to where it ends
  leads_to : (n : ℕ) (y : P) (free : Free ways.graph n y) (a : ℕ) → Contains (passed ways.graph item n y free) a → (k : ℕ) × Leads ways item k a (item y)
  leads_to zero y free a c = absurd (omega (arith, c.1))
  leads_to (suc n) y free a c =
      leads_on n free.0 y a free.1 free.2
      (elim (first_or_later (item free.0) (passed ways.graph item n free.0 free.1) a c) [ inl e ↦ inl e | inr rest ↦ inr (leads_to n free.0 free.1 a rest) ])

  start_passed : (n : ℕ) (y : P) (free : Free ways.graph (suc n) y) → Contains (passed ways.graph item (suc n) y free) (item ways.graph.start)
  start_passed zero y free = here (item free.0) [] (item ways.graph.start) (ap item free.1)
  start_passed (suc n) y free = later (item free.0) (passed ways.graph item (suc n) free.0 free.1) (item ways.graph.start) (start_passed n free.0 free.1)

  module _ (no_loop : NoLoop ways item) where
    not_passed : (n : ℕ) (y : P) (free : Free ways.graph n y) → Contains (passed ways.graph item n y free) (item y) → ⊥
    not_passed n y free c = let leads = leads_to n y free (item y) c in no_loop leads.0 (item y) leads.1

    passed_distinct : (n : ℕ) (y : P) (free : Free ways.graph n y) → IsDistinct nat_eq (passed ways.graph item n y free)
    unfolding IsDistinct
    passed_distinct zero y free = tt
    passed_distinct (suc n) y free = (all_other (item free.0) (passed ways.graph item n free.0 free.1) (not_passed n free.0 free.1), passed_distinct n free.0 free.1)

    -- a path never comes to the item of its start again
    pub free_away : (n : ℕ) (y : P) → Free ways.graph (suc n) y → item y ≡ item ways.graph.start → ⊥
    free_away n y free e =
        let leads = leads_to (suc n) y free (item ways.graph.start) (start_passed n y free) in
        no_loop leads.0 (item y) (subst (λ a. Leads ways item leads.0 a (item y)) (sym e) leads.1)

    module _ (most : ℕ) (within : (x y : P) → Contains (ways.graph.moves x) y → item x < most) where
      passed_below : (n : ℕ) (y : P) (free : Free ways.graph n y) → All (λ i. i < most) (passed ways.graph item n y free)
      passed_below zero y free = All-nil (λ i. i < most)
      passed_below (suc n) y free = All-cons (λ i. i < most) (item free.0) (passed ways.graph item n free.0 free.1) (within free.0 y free.2) (passed_below n free.0 free.1)

      length-passed : (n : ℕ) (y : P) (free : Free ways.graph n y) → length (passed ways.graph item n y free) ≡ n
      length-passed zero y free = refl
      length-passed (suc n) y free = ap suc (length-passed n free.0 free.1)

      -- a path makes fewer moves than there are items
      pub free_short : (n : ℕ) (y : P) → Free ways.graph n y → item y < most → n < most
      free_short n y free low =
          let all : List ℕ = item y ∷ passed ways.graph item n y free in
          let below : All (λ i. i < most) all = All-cons (λ i. i < most) (item y) (passed ways.graph item n y free) low (passed_below n y free) in
          let distinct : IsDistinct nat_eq all = IsDistinct-cons nat_eq (item y) (passed ways.graph item n y free) (all_other (item y) (passed ways.graph item n y free) (not_passed n y free)) (passed_distinct n y free) in
          let count : length all ≤ most = length-le_from_distinct_below all most distinct (λ q t. All-contains (λ i. i < most) all q below (Contains-from_any same_item q all t)) in
          let long = length-passed n y free in
          omega arith
