-- A list of points is taken over, from its end.
use Rattle.std.proofs.Common.{◌≡◌, ℕ, ◌⊎◌, inl, inr, ap, sym, ◌∙◌, subst, List, [], ◌∷◌, ◌++◌, append_assoc, arith, Option}
use Rattle.std.specs.List.{Contains}
use Rattle.std.proofs.lemmas.List.Elements.{Contains-append_left, Contains-push, Contains-push_cases}
use Rattle.std.proofs.lemmas.List.{append-nil}
use Rattle.path_search.specs.Found.{Adds, AddsAll, Crowds}

-- of the points ps beside xs, those of the list `left` are still to be taken over into zs
pub record Taking {P : Type 0} (xs ps zs left : List P) : Type 0 where
  pub front : (rest : List P) × (zs ≡ xs ++ rest)
  pub sound : (y : P) → Contains zs y → Contains xs y ⊎ Contains ps y
  pub full : (y : P) → Contains ps y → Contains zs y ⊎ Contains left y
  pub before : (rest : List P) × (ps ≡ left ++ rest)

module _ {P : Type 0} where
  pub taking_start : (xs ps : List P) → Taking xs ps xs ps
  taking_start xs ps = record { front = ([], sym (append-nil xs)); sound = λ y c. inl c; full = λ y c. inr c; before = ([], sym (append-nil ps)) }

  -- the last of those that are left is one of them all
  last_is : (xs ps zs left : List P) (p : P) → Taking xs ps zs (left ++ p ∷ []) → Contains ps p
  last_is xs ps zs left p t = subst (λ (l : List P). Contains l p) (sym t.before.1) (Contains-append_left (left ++ p ∷ []) t.before.0 p (Contains-push left p))

  pub taking_next : (xs ps zs new left : List P) (p : P) → Taking xs ps zs (left ++ p ∷ []) → Adds zs p new → Taking xs ps new left
  taking_next xs ps zs new left p t a = elim a [
    | inl known ↦ record {
      front = (t.front.0, known.0 ∙ t.front.1);
      sound = λ y c. t.sound y (subst (λ (l : List P). Contains l y) known.0 c);
      full = λ y c. elim (t.full y c) [
        | inl z ↦ inl (subst (λ (l : List P). Contains l y) (sym known.0) z)
        | inr l ↦ elim (Contains-push_cases left p y l) [ inl o ↦ inr o | inr e ↦ inl (subst (λ (l : List P). Contains l y) (sym known.0) (subst (λ (q : P). Contains zs q) e known.1)) ]
      ];
      before = before;
    }
    | inr grown ↦ record {
      front = (t.front.0 ++ p ∷ [], grown ∙ (ap (λ (l : List P). l ++ p ∷ []) t.front.1 ∙ append_assoc xs t.front.0 (p ∷ [])));
      sound = λ y c. elim (Contains-push_cases zs p y (subst (λ (l : List P). Contains l y) grown c)) [
        | inl o ↦ t.sound y o
        | inr e ↦ inr (subst (λ (q : P). Contains ps q) e (last_is xs ps zs left p t))
      ];
      full = λ y c. elim (t.full y c) [
        | inl z ↦ inl (subst (λ (l : List P). Contains l y) (sym grown) (Contains-append_left zs (p ∷ []) y z))
        | inr l ↦ elim (Contains-push_cases left p y l) [ inl o ↦ inr o | inr e ↦ inl (subst (λ (l : List P). Contains l y) (sym grown) (subst (λ (q : P). Contains (zs ++ p ∷ []) q) e (Contains-push zs p))) ]
      ];
      before = before;
    }
  ]
    where
      before : (rest : List P) × (ps ≡ left ++ rest)
      before = (p ∷ t.before.0, t.before.1 ∙ append_assoc left (p ∷ []) t.before.0)

  pub taking_done : (xs ps zs : List P) → Taking xs ps zs [] → AddsAll xs ps zs
  taking_done xs ps zs t = record { front = t.front; sound = t.sound; full = λ y c. elim (t.full y c) [ inl z ↦ z | inr none ↦ absurd (nothing y none) ] }
    where
      nothing : (y : P) → Contains [] y → ⊥
      nothing y c = let low = c.1 in omega arith

  pub taking_crowds : (item : P → ℕ) (limit : Option ℕ) (xs ps zs left : List P) (p : P) → Taking xs ps zs (left ++ p ∷ []) → Crowds item limit zs (p ∷ []) → Crowds item limit xs ps
  taking_crowds item limit xs ps zs left p t h = (
    h.0,
    h.1,
    λ y c. elim (h.2 y c) [
      | inl old ↦ t.sound y old
      | inr new ↦ elim (Contains-push_cases [] p y new) [ inl none ↦ absurd (let low = none.1 in omega arith) | inr e ↦ inr (subst (λ (q : P). Contains ps q) e (last_is xs ps zs left p t)) ]
    ],
  )
