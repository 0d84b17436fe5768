-- Whether paths go on from a point, by the row of its item; what a round brings.
use Rattle.std.proofs.Common.{◌≡◌, ℕ, suc, ◌<◌, ◌≤◌, ◌⊎◌, inl, inr, Bool, true, false, ◌&&◌, not, refl, ap, sym, ◌∙◌, arith, subst, List, [], ◌∷◌, ◌++◌, length, get_or, take, Option, Some, None, ◌||◌, ◌+◌, ◌↔◌, if◌then◌else◌, slice_get, nat_lt}
use Rattle.std.specs.List.{Contains}
use Rattle.std.proofs.lemmas.Bool.Decides.{nat_tests}
use Rattle.std.proofs.lemmas.List.{get_or-take, length-take, length-append, get_or_append_left}
use Rattle.std.proofs.lemmas.Option.{slice_get_read, get_or_from_slice_get, slice_get_cases}
use Rattle.std.proofs.Math.Seq.{take-append_seam}
use Rattle.paths.specs.Rules.{Ways, GoesOn, Reached}
use Rattle.paths.specs.Search.{IsFront, Level, Round}
use Rattle.paths.proofs.Rounds.{round_next}
use Rattle.paths.proofs.Tests.{any_found, none_in}
use Rattle.path_search.specs.Found.{AddsAll, Crowds, Expands, HasMore, IsAhead, IsByItem, IsCrowded, IsListed, goes_on_by_row, meets, option_any, row_of}

-- where no path ends another, none of these does
pub none_meets : {P : Type 0} (w : Ways P) → ((x : P) (y : P) → w.apart x y ≡ false) → (xs : List P) (end : ℕ) (row : List ℕ) (x : P) → false ≡ meets (λ p. w.apart p x) xs end row
none_meets {P = P} w none xs end [] x = refl
none_meets {P = P} w none xs end (k ∷ row) x = none_meets w none xs end row x ∙ ap (λ b. b || meets (λ p. w.apart p x) xs end row) (at (nat_lt k end) (slice_get xs k))
  where
    some : (o : Option P) → false ≡ option_any (λ p. w.apart p x) o
    some None = refl
    some (Some p) = sym (none p x)

    at : (b : Bool) (o : Option P) → false ≡ (b && option_any (λ p. w.apart p x) o)
    at true o = some o
    at false o = refl

module _ {P : Type 0} (w : Ways P) (item : P → ℕ) (by_item : IsByItem w item) where
  -- the place of a point among the first ones
  place_of : (xs : List P) (end : ℕ) (y : P) → Contains (take end xs) y → (k : ℕ) × (k < end) × (slice_get xs k ≡ Some y)
  place_of xs end y c =
      let long = length-take end xs in
      let low = c.1 in
      (c.0, omega arith, slice_get_read xs (length xs) c.0 y refl (omega arith) (sym c.2 ∙ get_or-take end xs c.0 y (omega arith)))

  at_place : (xs : List P) (end k : ℕ) (y : P) → k < end → slice_get xs k ≡ Some y → Contains (take end xs) y
  at_place xs end k y low e =
      elim (slice_get_cases xs k).1 [
        | inl r ↦ (let long = length-take end xs in let within = r.1 in (k, omega arith, get_or-take end xs k y low ∙ get_or_from_slice_get xs k y y e))
        | inr r ↦ (let f = r.1 in cc)
      ]

  module _ (xs : List P) (rows : List (List ℕ)) (listed : IsListed item xs rows) (end : ℕ) (x : P) where
    test : ℕ → Bool
    test k = nat_lt k end && option_any (λ p. w.apart p x) (slice_get xs k)

    pub alone_is : meets (λ p. w.apart p x) xs end (row_of rows (item x)) ≡ false → (y : P) → Contains (take end xs) y → w.apart y x ≡ false
    unfolding test
    alone_is none y c = by (w.apart y x) refl
      where
        by : (b : Bool) → w.apart y x ≡ b → w.apart y x ≡ false
        by false e = e
        by true e =
            let k = place_of xs end y c in
            let here : Contains (row_of rows (item x)) k.0 = subst (λ (i : ℕ). Contains (row_of rows i) k.0) (by_item.apart y x e) (listed.full k.0 y k.2) in
            let passes : option_any (λ p. w.apart p x) (slice_get xs k.0) ≡ true = ap (λ o. option_any (λ p. w.apart p x) o) k.2 ∙ e in
            let low : nat_lt k.0 end ≡ true = (let l = k.1 in grind (arith, nat_tests)) in
            let f = none_in test (row_of rows (item x)) k.0 none here in
            let t : test k.0 ≡ true = ap (λ b. b && option_any (λ p. w.apart p x) (slice_get xs k.0)) low ∙ passes in
            cc

    pub not_alone : meets (λ p. w.apart p x) xs end (row_of rows (item x)) ≡ true → (y : P) × Contains (take end xs) y × (w.apart y x ≡ true)
    unfolding test
    not_alone some =
        let k = any_found test (row_of rows (item x)) some in
        let p = listed.sound (item x) k.0 k.1 in
        let both = and_both (nat_lt k.0 end) (option_any (λ p. w.apart p x) (slice_get xs k.0)) k.2 in
        let low : nat_lt k.0 end ≡ true = both.0 in
        (p.0, at_place xs end k.0 p.0 (grind (arith, nat_tests)) p.1, sym (ap (λ o. option_any (λ p. w.apart p x) o) p.1) ∙ both.1)
      where
        and_both : (a b : Bool) → (a && b) ≡ true → (a ≡ true) × (b ≡ true)
        and_both true b e = (refl, e)
        and_both false b e = cc

    no_and : (a b : Bool) → (not a && not b) ≡ false → (a ≡ true) ⊎ (b ≡ true)
    no_and true b e = inl refl
    no_and false true e = inr refl
    no_and false false e = cc

    both_no : (a b : Bool) → (not a && not b) ≡ true → (a ≡ false) × (b ≡ false)
    both_no true b e = cc
    both_no false true e = cc
    both_no false false e = (refl, refl)

    pub goes_on : goes_on_by_row w item xs rows end x ≡ true → GoesOn w (Contains (take end xs)) x
    goes_on t = let h = both_no (w.breaks x) (meets (λ p. w.apart p x) xs end (row_of rows (item x))) t in record { fine = h.0; alone = alone_is h.1 }

    goes_not : goes_on_by_row w item xs rows end x ≡ false → GoesOn w (Contains (take end xs)) x → ⊥
    goes_not f g = elim (no_and (w.breaks x) (meets (λ p. w.apart p x) xs end (row_of rows (item x))) f) [
      | inl broken ↦ (let fine = g.fine in cc)
      | inr some ↦ (let y = not_alone some in let e = g.alone y.0 y.1 in let t = y.2 in cc)
    ]

    pub goes_is : (goes : Bool) → goes ≡ goes_on_by_row w item xs rows end x → (goes ≡ true) ↔ GoesOn w (Contains (take end xs)) x
    goes_is goes e = (λ t. goes_on (sym e ∙ t), λ g. by goes e g)
      where
        by : (b : Bool) → b ≡ goes_on_by_row w item xs rows end x → GoesOn w (Contains (take end xs)) x → b ≡ true
        by true e g = refl
        by false e g = absurd (goes_not (sym e) g)

module _ {P : Type 0} (w : Ways P) (level : List P) (at : ℕ) (xs fresh : List P) (goes : Bool) (a : IsAhead w level at xs goes fresh) where
  is_from : (x : P) → slice_get xs at ≡ Some x → a.from ≡ x
  is_from x e = let f : Some a.from ≡ Some x = sym a.is ∙ e in cc

  -- what is ahead is where paths go on to
  fresh_is : (y : P) → Contains fresh y → GoesOn w (Contains level) a.from × Contains (w.graph.moves a.from) y
  fresh_is y c = by goes refl
    where
      by : (b : Bool) → goes ≡ b → GoesOn w (Contains level) a.from × Contains (w.graph.moves a.from) y
      by true e = (a.goes_on.0 e, subst (λ (l : List P). Contains l y) (a.moves ∙ ap (λ b. if b then w.graph.moves a.from else []) e) c)
      by false e = absurd (nothing (subst (λ (l : List P). Contains l y) (a.moves ∙ ap (λ b. if b then w.graph.moves a.from else []) e) c))
        where
          nothing : Contains [] y → ⊥
          nothing c = let low = c.1 in omega arith

  pub expands_of : (zs : List P) (went new_went : List Bool) → AddsAll xs fresh zs → new_went ≡ went ++ goes ∷ [] → Expands w level at xs zs went new_went
  expands_of zs went new_went all noted = record {
    front = all.front;
    sound = λ x e y c. elim (all.sound y c) [
      | inl old ↦ inl old
      | inr new ↦ inr (subst (λ (q : P). GoesOn w (Contains level) q × Contains (w.graph.moves q) y) (is_from x e) (fresh_is y new))
    ];
    full = λ x e g y m.
        let goes_on : goes ≡ true = a.goes_on.1 (subst (λ (q : P). GoesOn w (Contains level) q) (sym (is_from x e)) g) in
        all.full y
        (subst (λ (l : List P). Contains l y) (sym (a.moves ∙ ap (λ b. if b then w.graph.moves a.from else []) goes_on)) (subst (λ (q : P). Contains (w.graph.moves q) y) (sym (is_from x e)) m));
    flag = goes;
    noted = noted;
    flag_is = λ x e. subst (λ (q : P). (goes ≡ true) ↔ GoesOn w (Contains level) q) (is_from x e) a.goes_on;
  }

  pub crowded_of : (item : P → ℕ) (limit : Option ℕ) → Crowds item limit xs fresh → IsCrowded w item limit level at xs
  crowded_of item limit h = record {
    from = a.from;
    is = a.is;
    points = h.0;
    passes = h.1;
    of = λ y c. elim (h.2 y c) [ inl old ↦ inl old | inr new ↦ inr (fresh_is y new) ];
  }

module _ {P : Type 0} (w : Ways P) (item : P → ℕ) where
  -- the points of a round begin with those from before
  front_of : (xs ys : List P) → IsFront xs ys → (k : ℕ) → k < length xs → (x : P) → slice_get ys k ≡ Some x → x ≡ get_or xs k x
  front_of xs ys f k low x e = sym (get_or_from_slice_get ys k x x e) ∙ (ap (λ (l : List P). get_or l k x) f.1 ∙ get_or_append_left xs f.0 x k low)

  front_take : (xs ys : List P) → IsFront xs ys → take (length xs) ys ≡ xs
  front_take xs ys f = ap (λ (l : List P). take (length xs) l) f.1 ∙ take-append_seam xs f.0

  pub front_long : (xs ys : List P) → IsFront xs ys → length xs ≤ length ys
  front_long xs ys f = let long = ap (λ (l : List P). length l) f.1 in let sum = length-append xs f.0 in omega arith

  there : (ys : List P) (k : ℕ) → k < length ys → (x : P) × (slice_get ys k ≡ Some x)
  there ys k low = elim (slice_get_cases ys k).1 [ inl r ↦ (r.0, r.2) | inr r ↦ absurd (let high = r.0 in omega arith) ]

  pub round_step : (xs ys zs : List P) (k : ℕ) (went new : List Bool) → Round w xs k ys → k < length xs → Expands w (take (length xs) ys) k ys zs went new → Round w xs (k + 1) zs
  round_step xs ys zs k went new r low e =
      let long = front_long xs ys r.front in
      let x = there ys k (omega arith) in
      let level = front_take xs ys r.front in
      round_next w xs ys zs k x.0 r low (front_of xs ys r.front k low x.0 x.1) e.front
      (λ y c. subst (λ (l : List P). Contains ys y ⊎ (GoesOn w (Contains l) x.0 × Contains (w.graph.moves x.0) y)) level (e.sound x.0 x.1 y c))
      (λ g y m. e.full x.0 x.1 (subst (λ (l : List P). GoesOn w (Contains l) x.0) (sym level) g) y m)

  -- what passes the limit in a round is reached
  pub crowd_reached : (xs ys : List P) (done k : ℕ) (limit : Option ℕ) → Level w xs done → Round w xs k ys → k < length xs
      → IsCrowded w item limit (take (length xs) ys) k ys → HasMore w item limit
  crowd_reached xs ys done k limit l r low c = record { points = c.points; reached = λ y q. (suc l.n, elim (c.of y q) [ inl o ↦ old y o | inr m ↦ new y m.0 m.1 ]); passes = c.passes }
    where
      from : Contains xs c.from
      from = (k, low, sym (front_of xs ys r.front k low c.from c.is))

      next : (x : P) → Contains xs x → GoesOn w (Contains xs) x → (y : P) → Contains (w.graph.moves x) y → Reached w (suc l.n) y
      next x q g y m = inr (x, l.here x q, record { fine = g.fine; alone = λ z h. g.alone z (l.there z h) }, m)

      new : (y : P) → GoesOn w (Contains (take (length xs) ys)) c.from → Contains (w.graph.moves c.from) y → Reached w (suc l.n) y
      new y g m = next c.from from (subst (λ (q : List P). GoesOn w (Contains q) c.from) (front_take xs ys r.front) g) y m

      old : (y : P) → Contains ys y → Reached w (suc l.n) y
      old y q = elim (r.sound y q) [ inl before ↦ inl (l.here y before) | inr after ↦ next after.0 after.1 after.2 y after.3 ]
