-- From which points paths go on, as it is noted round by round.
use Rattle.std.proofs.Common.{◌≡◌, ℕ, zero, suc, ◌+◌, ◌<◌, ◌≤◌, inl, inr, Bool, true, ◌↔◌, refl, ap, sym, ◌∙◌, arith, subst, List, [], ◌∷◌, ◌++◌, length, take, Some, slice_get}
use Rattle.std.specs.List.{Contains}
use Rattle.std.proofs.lemmas.Bool.{cases_lt}
use Rattle.std.proofs.lemmas.Option.{slice_get_read}
use Rattle.std.proofs.Math.Seq.{take-append_seam}
use Rattle.paths.specs.Rules.{Ways, GoesOn, Reached}
use Rattle.paths.specs.Search.{IsFront, Level, Round}
use Rattle.paths.proofs.Reaching.{reached_later}
use Rattle.path_search.specs.Found.{AreDistinct, AreFlags, AreLatest, Expands, GoesFrom}
use Rattle.path_search.proofs.Listing.{at_end, contains_at, slice_get_length}

module _ {P : Type 0} where
  -- the points of a list stand at the same places in one that goes on from it
  pub kept_at : (xs ys : List P) → IsFront xs ys → (k : ℕ) → k < length xs → slice_get ys k ≡ slice_get xs k
  kept_at xs ys f k low = ap (λ (l : List P). slice_get l k) f.1 ∙ front xs f.0 k low
    where
      front : (xs rest : List P) (k : ℕ) → k < length xs → slice_get (xs ++ rest) k ≡ slice_get xs k
      front [] rest k low = absurd (omega arith)
      front (x ∷ xs) rest zero low = refl
      front (x ∷ xs) rest (suc k) low = front xs rest k (omega arith)

module _ {P : Type 0} (w : Ways P) where
  pub flags_start : (xs : List P) (went : List Bool) → went ≡ [] → AreFlags w xs 0 went
  flags_start xs went e = record { long = ap (λ (l : List Bool). length l) e; flags = λ k x flag is f. absurd (nothing k flag (ap (λ (l : List Bool). slice_get l k) (sym e) ∙ f)) }
    where
      nothing : (k : ℕ) (flag : Bool) → slice_get [] k ≡ Some flag → ⊥
      nothing k flag e = cc

  module _ (xs : List P) (done : ℕ) (l : Level w xs done) (latest : AreLatest w xs done) where
    -- whether paths go on from a point in the round in which they first come to it says whether they ever do
    goes_from : (k : ℕ) (x : P) → done ≤ k → slice_get xs k ≡ Some x → GoesOn w (Contains xs) x ↔ GoesFrom w x
    goes_from k x le e = (
      λ g. (l.n, l.here x (contains_at xs k x e), record { fine = g.fine; alone = λ y r. g.alone y (l.there y r) }),
      λ g. record { fine = g.2.fine; alone = λ y c. g.2.alone y (latest k x le e g.0 g.1 y c) },
    )

    pub flags_next : (ys zs : List P) (k : ℕ) (went new : List Bool) → Round w xs k ys → done ≤ k → k < length xs → Expands w (take (length xs) ys) k ys zs went new
        → AreFlags w ys k went → AreFlags w zs (k + 1) new
    flags_next ys zs k went new r le low e flags = record {
      long = ap (λ (l : List Bool). length l) e.noted ∙ (length_one went e.flag ∙ ap (λ n. n + 1) flags.long);
      flags = λ j x flag is f. elim (at_end went e.flag j flag (ap (λ (l : List Bool). slice_get l j) (sym e.noted) ∙ f)) [
        | inl old ↦ before j x flag is old
        | inr last ↦ now j x flag is last.0 last.1
      ];
    }
      where
        length_one : (l : List Bool) (b : Bool) → length (l ++ b ∷ []) ≡ length l + 1
        length_one [] b = refl
        length_one (a ∷ l) b = (let h = length_one l b in omega arith)

        long : length xs ≤ length ys
        long = let a = ap (λ (l : List P). length l) r.front.1 in front_length xs r.front.0 (length ys) a
          where
            front_length : (a b : List P) (n : ℕ) → n ≡ length (a ++ b) → length a ≤ n
            front_length [] b n e = omega arith
            front_length (x ∷ a) b zero e = absurd (omega arith)
            front_length (x ∷ a) b (suc n) e = (let h = front_length a b n (omega arith) in omega arith)

        in_ys : (j : ℕ) (x : P) → j < length xs → slice_get zs j ≡ Some x → slice_get ys j ≡ Some x
        in_ys j x h is = sym (kept_at ys zs e.front j (let n = long in omega arith)) ∙ is

        before : (j : ℕ) (x : P) (flag : Bool) → slice_get zs j ≡ Some x → slice_get went j ≡ Some flag → (flag ≡ true) ↔ GoesFrom w x
        before j x flag is old = let h = slice_get_length went j flag old in let n = flags.long in flags.flags j x flag (in_ys j x (omega arith) is) old

        now : (j : ℕ) (x : P) (flag : Bool) → slice_get zs j ≡ Some x → j ≡ length went → e.flag ≡ flag → (flag ≡ true) ↔ GoesFrom w x
        now j x flag is last same =
            let n = flags.long in
            let j_is : j ≡ k = omega arith in
            let here : slice_get ys k ≡ Some x = subst (λ i. slice_get ys i ≡ Some x) j_is (in_ys j x (omega arith) is) in
            let there : slice_get xs k ≡ Some x = sym (kept_at xs ys r.front k low) ∙ here in
            let level : take (length xs) ys ≡ xs = ap (λ (l : List P). take (length xs) l) r.front.1 ∙ take-append_seam xs r.front.0 in
            let goes : (flag ≡ true) ↔ GoesOn w (Contains xs) x = subst (λ (b : Bool). (b ≡ true) ↔ GoesOn w (Contains xs) x) same (subst (λ (l : List P). (e.flag ≡ true) ↔ GoesOn w (Contains l) x) level (e.flag_is x here)) in
            let from = goes_from k x le there in
            (λ t. from.0 (goes.0 t), λ g. goes.1 (from.1 g))

    -- what a round brings was not come to before
    pub latest_next : (ys : List P) → Round w xs (length xs) ys → AreDistinct ys → AreLatest w ys (length xs)
    latest_next ys r once k x le is m reached y c = elim (cases_lt l.n m) [ inl later ↦ reached_later w (suc l.n) m y (omega arith) (new y c) | inr early ↦ absurd (not_before early) ]
      where
        new : (y : P) → Contains ys y → Reached w (suc l.n) y
        new y q = elim (r.sound y q) [ inl before ↦ inl (l.here y before) | inr after ↦ inr (after.0, l.here after.0 after.1, record { fine = after.2.fine; alone = λ z h. after.2.alone z (l.there z h) }, after.3) ]

        not_before : m ≤ l.n → ⊥
        not_before early =
            let q = l.there x (reached_later w m l.n x early reached) in
            let old : slice_get ys q.0 ≡ Some x = kept_at xs ys r.front q.0 q.1 ∙ slice_get_read xs (length xs) q.0 x refl q.1 (sym q.2) in
            let same = once x q.0 k old is in
            let low = q.1 in
            omega arith

  pub latest_start : (xs : List P) (start : P) → xs ≡ start ∷ [] → start ≡ w.graph.start → AreLatest w xs 0
  latest_start xs start e s k x le is n reached y c = reached_later w 0 n y (omega arith) (sym (one (subst (λ (l : List P). Contains l y) e c)) ∙ s)
    where
      one : Contains (start ∷ []) y → start ≡ y
      one (zero, low, h) = h
      one (suc j, low, h) = absurd (omega arith)
