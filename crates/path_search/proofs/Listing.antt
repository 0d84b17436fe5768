-- The rows of a list of points, as it grows.
use Rattle.std.proofs.Common.{◌≡◌, ◌≢◌, ℕ, zero, suc, ◌<◌, ◌⊎◌, inl, inr, refl, ap, sym, ◌∙◌, arith, subst, List, [], ◌∷◌, ◌++◌, length, Some, slice_get}
use Rattle.std.specs.List.{Contains}
use Rattle.std.proofs.lemmas.List.Elements.{Contains-append_left, Contains-push, Contains-push_cases}
use Rattle.std.proofs.lemmas.Bool.{cases_eq}
use Rattle.std.proofs.lemmas.Option.{slice_get_read, slice_get_cases, get_or_from_slice_get}
use Rattle.std.proofs.lemmas.List.{get_or_append_left, length_push}
use Rattle.path_search.specs.Found.{IsListed, row_of}

module _ {P : Type 0} where
  pub slice_get_length : (xs : List P) (k : ℕ) (p : P) → slice_get xs k ≡ Some p → k < length xs
  slice_get_length xs k p e = elim (slice_get_cases xs k).1 [ inl r ↦ r.1 | inr r ↦ (let f = r.1 in cc) ]

  -- an element of a list that grew at its end
  pub grown : (xs : List P) (q : P) (k : ℕ) (p : P) → slice_get xs k ≡ Some p → slice_get (xs ++ q ∷ []) k ≡ Some p
  grown xs q k p e =
      let low = slice_get_length xs k p e in
      let long = length_push xs q in
      slice_get_read (xs ++ q ∷ []) (length (xs ++ q ∷ [])) k p refl (omega arith) (sym (get_or_append_left xs (q ∷ []) p k low ∙ get_or_from_slice_get xs k p p e))

  pub last_of : (xs : List P) (q : P) → slice_get (xs ++ q ∷ []) (length xs) ≡ Some q
  last_of [] q = refl
  last_of (x ∷ xs) q = last_of xs q

  -- the last one or one from before
  pub at_end : (xs : List P) (q : P) (k : ℕ) (p : P) → slice_get (xs ++ q ∷ []) k ≡ Some p → (slice_get xs k ≡ Some p) ⊎ ((k ≡ length xs) × (q ≡ p))
  at_end [] q zero p e = inr (refl, cc)
  at_end [] q (suc k) p e = cc
  at_end (x ∷ xs) q zero p e = inl e
  at_end (x ∷ xs) q (suc k) p e = elim (at_end xs q k p e) [ inl r ↦ inl r | inr r ↦ inr (ap suc r.0, r.1) ]

  pub none_listed : (item : P → ℕ) → IsListed item [] []
  none_listed item = record { full = λ k p e. cc; sound = λ i k c. absurd (nothing i k c) }
    where
      nothing : (i k : ℕ) → Contains (row_of [] i) k → ⊥
      nothing i k c = let low = c.1 in omega arith

  -- what stands at a place is there, and what is there stands at a place
  pub contains_at : (xs : List P) (k : ℕ) (p : P) → slice_get xs k ≡ Some p → Contains xs p
  contains_at xs k p e = (k, slice_get_length xs k p e, get_or_from_slice_get xs k p p e)

  pub place_of : (xs : List P) (p : P) → Contains xs p → (k : ℕ) × (slice_get xs k ≡ Some p)
  place_of xs p c = (c.0, slice_get_read xs (length xs) c.0 p refl c.1 (sym c.2))

  pub push_listed : (item : P → ℕ) (xs : List P) (rows : List (List ℕ)) (q : P) (zs : List P) (new : List (List ℕ))
      → IsListed item xs rows → zs ≡ xs ++ q ∷ [] → row_of new (item q) ≡ row_of rows (item q) ++ length xs ∷ [] → ((i : ℕ) → i ≢ item q → row_of new i ≡ row_of rows i)
      → IsListed item zs new
  push_listed item xs rows q zs new l longer here elsewhere = record {
    full = λ k p e. full k p (at_end xs q k p (ap (λ (l : List P). slice_get l k) (sym longer) ∙ e));
    sound = λ i k c. sound i k c (cases_eq i (item q));
  }
    where
      old : (i k : ℕ) → Contains (row_of rows i) k → (p : P) × (slice_get zs k ≡ Some p) × (item p ≡ i)
      old i k c = let o = l.sound i k c in (o.0, ap (λ (l : List P). slice_get l k) longer ∙ grown xs q k o.0 o.1, o.2)

      more : (i k : ℕ) → (i ≡ item q) ⊎ (i ≢ item q) → Contains (row_of rows i) k → Contains (row_of new i) k
      more i k (inl e) c = subst (λ (r : List ℕ). Contains r k) (ap (λ j. row_of rows j ++ length xs ∷ []) e ∙ sym here ∙ ap (row_of new) (sym e)) (Contains-append_left (row_of rows i) (length xs ∷ []) k c)
      more i k (inr n) c = subst (λ (r : List ℕ). Contains r k) (sym (elsewhere i n)) c

      full : (k : ℕ) (p : P) → (slice_get xs k ≡ Some p) ⊎ ((k ≡ length xs) × (q ≡ p)) → Contains (row_of new (item p)) k
      full k p (inl e) = more (item p) k (cases_eq (item p) (item q)) (l.full k p e)
      full k p (inr e) = subst (λ (r : List ℕ). Contains r k) (sym here ∙ ap (λ (r : P). row_of new (item r)) e.1) (subst (λ (j : ℕ). Contains (row_of rows (item q) ++ length xs ∷ []) j) (sym e.0) (Contains-push (row_of rows (item q)) (length xs)))

      sound : (i k : ℕ) → Contains (row_of new i) k → (i ≡ item q) ⊎ (i ≢ item q) → (p : P) × (slice_get zs k ≡ Some p) × (item p ≡ i)
      sound i k c (inr n) = old i k (subst (λ (r : List ℕ). Contains r k) (elsewhere i n) c)
      sound i k c (inl e) =
          elim (Contains-push_cases (row_of rows (item q)) (length xs) k (subst (λ (r : List ℕ). Contains r k) (ap (row_of new) e ∙ here) c)) [
            | inl o ↦ (let r = old (item q) k o in (r.0, r.1, r.2 ∙ sym e))
            | inr f ↦ (q, ap (λ (l : List P). slice_get l k) longer ∙ (ap (λ j. slice_get (xs ++ q ∷ []) j) (sym f) ∙ last_of xs q), sym e)
          ]
