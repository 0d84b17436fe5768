-- Where the limit is passed, two paths come to one item with different things.
use Rattle.std.proofs.Common.{◌≡◌, ℕ, ◌+◌, ◌<◌, inl, inr, if◌then◌else◌, refl, ap, ◌∙◌, arith, subst, List, [], ◌∷◌, ◌++◌, append_assoc, length, Option, Some, slice_get, nat_eq}
use Rattle.std.proofs.lemmas.Bool.{cases_Bool}
use Rattle.std.proofs.lemmas.Bool.Decides.{nat_tests}
use Rattle.paths.specs.Rules.{Ways}
use Rattle.paths.proofs.Reaching.{reached_later}
use Rattle.paths.proofs.Tests.{any_found}
use Rattle.path_search.specs.Found.{HasMore, HasTwins, has_item, seconds_behind}
use Rattle.path_search.proofs.Flags.{kept_at}
use Rattle.path_search.proofs.Listing.{contains_at, place_of, slice_get_length}

module _ {P : Type 0} (item : P → ℕ) where
  -- two places of a list, with points of one item
  pub record Pair (xs : List P) : Type 0 where
    pub j : ℕ
    pub k : ℕ
    pub first : P
    pub second : P
    pub apart : j < k
    pub at_j : slice_get xs j ≡ Some first
    pub at_k : slice_get xs k ≡ Some second
    pub same : item first ≡ item second

  pair_of : (before xs : List P) → 0 < seconds_behind item before xs → Pair (before ++ xs)
  pair_of before [] some = absurd (omega arith)
  pair_of before (x ∷ xs) some = elim (cases_Bool (has_item item (item x) before)) [
    | inl t ↦
        let q = any_found (λ r. nat_eq (item r) (item x)) before t in
        let place = place_of before q.0 q.1 in
        let low = slice_get_length before place.0 q.0 place.1 in
        let same : item q.0 ≡ item x = (let e = q.2 in grind (arith, nat_tests)) in
        record {
          j = place.0;
          k = length before;
          first = q.0;
          second = x;
          apart = low;
          at_j = kept_at before (before ++ x ∷ xs) (x ∷ xs, refl) place.0 low ∙ place.1;
          at_k = last before;
          same = same;
        }
    | inr f ↦
        let less : 0 < seconds_behind item (before ++ x ∷ []) xs = (let e = ap (λ b. (if b then 1 else 0) + seconds_behind item (before ++ x ∷ []) xs) f in omega arith) in
        subst (λ (l : List P). Pair l) (append_assoc before (x ∷ []) xs) (pair_of (before ++ x ∷ []) xs less)
  ]
    where
      last : (l : List P) → slice_get (l ++ x ∷ xs) (length l) ≡ Some x
      last [] = refl
      last (y ∷ l) = last l

  pub twins_of : (ways : Ways P) (limit : Option ℕ) → HasMore ways item limit → HasTwins item ways
  twins_of ways limit h =
      let p : Pair h.points = pair_of [] h.points (let a = h.passes.more in omega arith) in
      let m = h.reached p.first (contains_at h.points p.j p.first p.at_j) in
      let n = h.reached p.second (contains_at h.points p.k p.second p.at_k) in (
        m.0 + n.0,
        p.first,
        p.second,
        reached_later ways m.0 (m.0 + n.0) p.first (omega arith) m.1,
        reached_later ways n.0 (m.0 + n.0) p.second (omega arith) n.1,
        p.same,
        λ e. (
            let one = h.passes.distinct p.second p.j p.k (subst (λ (q : P). slice_get h.points p.j ≡ Some q) e p.at_j) p.at_k in
            let ne = p.apart in
            omega arith),
      )
