-- What holds of the points that are kept, as one is added.
use Rattle.std.proofs.Common.{◌≡◌, ℕ, ◌+◌, ◌<◌, ◌≤◌, inl, inr, Bool, true, false, if◌then◌else◌, refl, ap, sym, ◌∙◌, arith, subst, List, [], ◌∷◌, ◌++◌, append_assoc, length, Option, Some, get_or, nat_eq, nat_lt}
use Rattle.std.specs.List.{Contains}
use Rattle.std.proofs.lemmas.Bool.Decides.{nat_tests}
use Rattle.std.proofs.lemmas.List.{append-nil}
use Rattle.std.proofs.lemmas.List.Elements.{Contains-push_cases}
use Rattle.paths.proofs.Tests.{any_found, none_in, here}
use Rattle.path_search.specs.declared.found.Found.{Found}
use Rattle.path_search.specs.Found.{AreDistinct, Crowds, IsListed, has_item, row_of, seconds, seconds_behind}
use Rattle.path_search.specs.Kept.{IsChained, IsEmpty, IsKept, Pushes, bucket_in}
use Rattle.path_search.proofs.Listing.{at_end, contains_at, none_listed, place_of, push_listed}
use Rattle.path_search.proofs.Chains.{chained_push, none_chained}

module _ {P : Type 0} where
  pub distinct_push : (xs : List P) (q : P) → AreDistinct xs → (Contains xs q → ⊥) → AreDistinct (xs ++ q ∷ [])
  distinct_push xs q once new p j k e f = elim (at_end xs q j p e) [
    | inl a ↦ elim (at_end xs q k p f) [ inl b ↦ once p j k a b | inr b ↦ absurd (new (subst (λ r. Contains xs r) (sym b.1) (contains_at xs j p a))) ]
    | inr a ↦ elim (at_end xs q k p f) [ inl b ↦ absurd (new (subst (λ r. Contains xs r) (sym a.1) (contains_at xs k p b))) | inr b ↦ a.0 ∙ sym b.0 ]
  ]

  behind_push : (item : P → ℕ) (before xs : List P) (q : P)
      → seconds_behind item before (xs ++ q ∷ []) ≡ seconds_behind item before xs + (if has_item item (item q) (before ++ xs) then 1 else 0)
  behind_push item before [] q = ap (λ (l : List P). (if has_item item (item q) l then 1 else 0) + 0) (sym (append-nil before)) ∙ swap (if has_item item (item q) (before ++ []) then 1 else 0)
    where
      swap : (n : ℕ) → n + 0 ≡ 0 + n
      swap n = omega arith
  behind_push item before (x ∷ xs) q =
      ap (λ n. (if has_item item (item x) before then 1 else 0) + n) (behind_push item (before ++ x ∷ []) xs q)
      ∙ (ap (λ (l : List P). (if has_item item (item x) before then 1 else 0) + (seconds_behind item (before ++ x ∷ []) xs + (if has_item item (item q) l then 1 else 0))) (append_assoc before (x ∷ []) xs)
      ∙ group (if has_item item (item x) before then 1 else 0) (seconds_behind item (before ++ x ∷ []) xs) (if has_item item (item q) (before ++ x ∷ xs) then 1 else 0))
    where
      group : (a b c : ℕ) → a + (b + c) ≡ a + b + c
      group a b c = omega arith

  -- one more point is one more that is not the first of its item, where one of its item was there
  pub seconds_push : (item : P → ℕ) (xs : List P) (q : P) → seconds item (xs ++ q ∷ []) ≡ seconds item xs + (if has_item item (item q) xs then 1 else 0)
  seconds_push item xs q = behind_push item [] xs q

  -- an item has a point exactly where its row has a place
  pub has_row : (item : P → ℕ) (xs : List P) (rows : List (List ℕ)) (i : ℕ) → IsListed item xs rows → nat_lt 0 (length (row_of rows i)) ≡ has_item item i xs
  has_row item xs rows i listed = by (has_item item i xs) (nat_lt 0 (length (row_of rows i))) refl refl
    where
      filled : (row : List ℕ) → nat_lt 0 (length row) ≡ true → Contains row (get_or row 0 0)
      filled [] t = cc
      filled (k ∷ ks) t = (0, omega arith, refl)

      by : (a b : Bool) → has_item item i xs ≡ a → nat_lt 0 (length (row_of rows i)) ≡ b → b ≡ a
      by true true e f = refl
      by false false e f = refl
      by true false e f =
          let q = any_found (λ r. nat_eq (item r) i) xs e in
          let k = place_of xs q.0 q.1 in
          let same : item q.0 ≡ i = (let t = q.2 in grind (arith, nat_tests)) in
          let low = (subst (λ j. Contains (row_of rows j) k.0) same (listed.full k.0 q.0 k.1)).1 in
          let long : nat_lt 0 (length (row_of rows i)) ≡ true = (let h : 0 < length (row_of rows i) = omega (arith, low) in grind (arith, nat_tests)) in
          cc
      by false true e f =
          let q = listed.sound i (get_or (row_of rows i) 0 0) (filled (row_of rows i) f) in
          let c = contains_at xs (get_or (row_of rows i) 0 0) q.0 q.1 in
          let same : nat_eq (item q.0) i ≡ true = (let s = q.2 in grind (arith, nat_tests)) in
          let n = none_in (λ r. nat_eq (item r) i) xs q.0 e c in
          cc

  module _ (item number : P → ℕ) (limit : Option ℕ) where
    pub kept_empty : (found : Found P) → IsEmpty found → IsKept item number limit found
    kept_empty found e = record {
      listed = subst (λ (l : List P). IsListed item l found.rows.items) (sym e.points) (subst (λ (r : List (List ℕ)). IsListed item [] r) (sym e.rows) (none_listed item));
      distinct = subst (λ (l : List P). AreDistinct l) (sym e.points) (λ p j k a b. cc);
      some = e.some;
      chained = none_chained (bucket_in number found.buckets.items) found.points found.older.items found.buckets.items e.points e.older e.none;
      counted = λ most is. e.seconds ∙ ap (λ (l : List P). seconds item l) (sym e.points);
    }

    pub kept_push : (old new : Found P) (q : P) (bucket count : ℕ) → IsKept item number limit old → (Contains old.points q → ⊥) → bucket ≡ bucket_in number old.buckets.items q
        → ((most : ℕ) → limit ≡ Some most → count ≡ (if has_item item (item q) old.points then 1 else 0) + old.seconds)
        → Pushes (item q) bucket count q old new → IsKept item number limit new
    kept_push old new q bucket count kept fresh b counts s = record {
      listed = push_listed item old.points old.rows.items q new.points new.rows.items kept.listed s.grown s.here s.elsewhere;
      distinct = subst (λ (l : List P). AreDistinct l) (sym s.grown) (distinct_push old.points q kept.distinct fresh);
      some = chain.0;
      chained = chain.1;
      counted = λ most is.
          s.seconds ∙ (counts most is ∙ (added (if has_item item (item q) old.points then 1 else 0) old.seconds (seconds item old.points) (kept.counted most is) ∙ (sym (seconds_push item old.points q) ∙ ap (λ (l : List P). seconds item l) (sym s.grown))));
    }
      where
        chain : (0 < length new.buckets.items) × IsChained (bucket_in number new.buckets.items) new.points new.older.items new.buckets.items
        chain = chained_push number old.points q old.older.items old.buckets.items new.points new.older.items new.buckets.items bucket kept.some kept.chained b s.grown s.older s.buckets

        added : (n a b : ℕ) → a ≡ b → n + a ≡ b + n
        added n a b e = omega arith

    -- with one more point of an item that is there, past the limit
    pub crowd_of : (found : Found P) (q : P) (most : ℕ) → IsKept item number limit found → (Contains found.points q → ⊥) → has_item item (item q) found.points ≡ true
        → limit ≡ Some most → most ≤ found.seconds → Crowds item limit found.points (q ∷ [])
    crowd_of found q most kept fresh has is le = (
      found.points ++ q ∷ [],
      record { most = most; limited = is; distinct = distinct_push found.points q kept.distinct fresh; more = past },
      λ y c. elim (Contains-push_cases found.points q y c) [ inl o ↦ inl o | inr e ↦ inr (here q [] y e) ],
    )
      where
        past : most < seconds item (found.points ++ q ∷ [])
        past =
            let more : seconds item (found.points ++ q ∷ []) ≡ seconds item found.points + 1 = seconds_push item found.points q ∙ ap (λ b. seconds item found.points + (if b then 1 else 0)) has in
            let same = kept.counted most is in
            omega arith
