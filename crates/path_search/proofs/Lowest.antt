-- The lowest item where a rule is broken, where each point is looked at beside the first of its item.
use Rattle.std.proofs.Common.{◌≡◌, ℕ, ◌+◌, ◌<◌, ◌⊎◌, inl, inr, Bool, true, false, ◌||◌, refl, ap, sym, ◌∙◌, arith, List, [], ◌∷◌, Some, None, slice_get, get_or, length}
use Rattle.std.specs.List.{Contains}
use Rattle.std.proofs.lemmas.Bool.{cases_Bool}
use Rattle.std.proofs.lemmas.Option.{slice_get_read, slice_get_cases, get_or_from_slice_get}
use Rattle.paths.specs.Rules.{Ways, Broken, Says}
use Rattle.paths.specs.Search.{IsReach, least_of}
use Rattle.paths.proofs.Lowest.{least_is}
use Rattle.paths.proofs.Reaching.{reached_later}
use Rattle.path_search.specs.Found.{IsByItem, IsListed, row_of, is_bad, option_any}

module _ {P : Type 0} (w : Ways P) (item : P → ℕ) (by_item : IsByItem w item) (xs : List P) (rows : List (List ℕ)) (listed : IsListed item xs rows) (reach : IsReach w xs) where
  beside : P → Bool
  beside p = option_any (λ k. option_any (λ q. w.splits q p) (slice_get xs k)) (slice_get (row_of rows (item p)) 0)

  place_of : (p : P) → Contains xs p → (k : ℕ) × (slice_get xs k ≡ Some p)
  place_of p c = (c.0, slice_get_read xs (length xs) c.0 p refl c.1 (sym c.2))

  -- each row that is not empty begins with a point of its item
  first : (p : P) → Contains xs p → (k : ℕ) × (q : P) × (slice_get (row_of rows (item p)) 0 ≡ Some k) × (slice_get xs k ≡ Some q) × (item q ≡ item p)
  first p c =
      let k = place_of p c in
      let here = listed.full k.0 p k.1 in
      let row = row_of rows (item p) in
      let first = slice_get_read row (length row) 0 (get_or row 0 0) refl (let low = here.1 in omega arith) (same row (let low = here.1 in omega arith)) in
      let stands : Contains row (get_or row 0 0) = (0, (let low = here.1 in omega arith), sym (same row (let low = here.1 in omega arith))) in
      let q = listed.sound (item p) (get_or row 0 0) stands in
      (get_or row 0 0, q.0, first, q.1, q.2)
    where
      same : (row : List ℕ) → 0 < length row → get_or row 0 0 ≡ get_or row 0 (get_or row 0 0)
      same [] low = absurd (omega (arith, low))
      same (k ∷ ks) low = refl

  contains_at : (k : ℕ) (q : P) → slice_get xs k ≡ Some q → Contains xs q
  contains_at k q e = elim (slice_get_cases xs k).1 [ inl r ↦ (k, r.1, get_or_from_slice_get xs k q q e) | inr r ↦ (let f = r.1 in cc) ]

  beside_is : (p : P) (c : Contains xs p) → beside p ≡ w.splits (first p c).1 p
  unfolding beside
  beside_is p c =
      let f = first p c in
      ap (λ o. option_any (λ k. option_any (λ q. w.splits q p) (slice_get xs k)) o) f.2 ∙ ap (λ o. option_any (λ q. w.splits q p) o) f.3

  together : (p q : P) → Contains xs p → Contains xs q → w.splits q p ≡ true → Broken w p
  together p q c d t =
      let n = reach.sound p c in
      let m = reach.sound q d in
      record { n = m.0 + n.0; reached = reached_later w n.0 (m.0 + n.0) p (omega arith) n.1; why = inr (q, reached_later w m.0 (m.0 + n.0) q (omega arith) m.1, t) }

  broken_of : (p : P) → Contains xs p → is_bad w item xs rows p ≡ true → Broken w p
  unfolding beside
  broken_of p c t = elim (cases_Bool (w.breaks p)) [
    | inl b ↦ (let n = reach.sound p c in record { n = n.0; reached = n.1; why = inl b })
    | inr f ↦ (let q = first p c in together p q.1 c (contains_at q.0 q.1 q.3) (sym (beside_is p c) ∙ (sym (ap (λ b. b || beside p) f) ∙ t)))
  ]

  -- where a point is broken, one at its item is bad
  bad_at : (p : P) → Broken w p → (q : P) × Contains xs q × (is_bad w item xs rows q ≡ true) × (item q ≡ item p)
  unfolding beside
  bad_at p b =
      let c = reach.full b.n p b.reached in
      elim b.why [
        | inl t ↦ (p, c, ap (λ q. q || beside p) t, refl)
        | inr s ↦
            (let d = reach.full b.n s.0 s.1 in
            let same = by_item.splits s.0 p s.2 in
            let f = first p c in
            let third = by_item.third s.0 p f.1 s.2 (f.4 ∙ sym same) in
            elim (either (w.splits f.1 s.0) (w.splits f.1 p) third) [
              | inl x ↦ (let g = first s.0 d in (s.0, d, ap (λ o. w.breaks s.0 || o) (at_first s.0 d f.1 f.0 f.2 f.3 same ∙ x) ∙ or_true (w.breaks s.0), same))
              | inr y ↦ (p, c, ap (λ o. w.breaks p || o) (beside_is p c ∙ y) ∙ or_true (w.breaks p), refl)
            ])
      ]
    where
      either : (x y : Bool) → (x || y) ≡ true → (x ≡ true) ⊎ (y ≡ true)
      either true y e = inl refl
      either false y e = inr e

      or_true : (x : Bool) → (x || true) ≡ true
      or_true true = refl
      or_true false = refl

      at_first : (s : P) → Contains xs s → (f : P) (k : ℕ) → slice_get (row_of rows (item p)) 0 ≡ Some k → slice_get xs k ≡ Some f → item s ≡ item p → beside s ≡ w.splits f s
      at_first s d f k e h same =
          ap (λ o. option_any (λ j. option_any (λ q. w.splits q s) (slice_get xs j)) o) (ap (λ i. slice_get (row_of rows i) 0) same ∙ e) ∙ ap (λ o. option_any (λ q. w.splits q s) o) h

  pub says : Says w item (least_of (is_bad w item xs rows) item None xs)
  says =
      let l = least_is (is_bad w item xs rows) item None xs in
      record {
        none = λ e p b. (let q = bad_at p b in (l.none e).1 q.0 q.1 q.2);
        some = λ i e. (let m = l.some i e in (
          elim m.0 [ inl s ↦ absurd (no_none i s) | inr s ↦ (s.0, broken_of s.0 s.1 s.2, s.3) ],
          λ p b. (let q = bad_at p b in let low = m.2 q.0 q.1 q.2 in let same = q.3 in omega arith),
        ));
      }
    where
      no_none : (a : ℕ) → None ≡ Some a → ⊥
      no_none a e = cc
