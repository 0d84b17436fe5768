-- Points in buckets: how one is found again, and how one is added.
use Rattle.std.proofs.Common.{◌≡◌, ◌≢◌, ℕ, zero, suc, ◌+◌, ◌-◌, ◌%◌, ◌<◌, ◌≤◌, inl, inr, refl, ap, sym, ◌∙◌, arith, subst, List, [], ◌∷◌, ◌++◌, length, Some, slice_get, get_or, set}
use Rattle.std.specs.List.{Contains}
use Rattle.std.proofs.lemmas.Bool.{cases_eq, cases_lt}
use Rattle.std.proofs.lemmas.List.{get_or-set_same, get_or-set_other, get_or_append_left, length_push, length-set}
use Rattle.std.proofs.lemmas.Grind.{get_or_default_zero}
use Rattle.path_search.specs.Kept.{IsChained, IsLast, bucket_in}
use Rattle.path_search.proofs.Listing.{at_end, grown, last_of, place_of, slice_get_length}

last_is : (xs : List ℕ) (x n : ℕ) → n ≡ length xs → get_or (xs ++ x ∷ []) n 0 ≡ x
last_is [] x zero e = refl
last_is [] x (suc n) e = absurd (omega arith)
last_is (y ∷ xs) x zero e = absurd (omega arith)
last_is (y ∷ xs) x (suc n) e = last_is xs x n (omega arith)

-- the places from here on of the bucket of a point were looked at, and it is at none
pub record Walking {P : Type 0} (bucket : P → ℕ) (points : List P) (new : P) (at : ℕ) : Type 0 where
  pub low : at ≤ length points
  pub of : (k : ℕ) → at ≡ suc k → (p : P) × (slice_get points k ≡ Some p) × (bucket p ≡ bucket new)
  pub left : (k : ℕ) (p : P) → slice_get points k ≡ Some p → bucket p ≡ bucket new → at ≤ k → p ≢ new

module _ {P : Type 0} (bucket : P → ℕ) where
  module _ (points : List P) (older buckets : List ℕ) (chained : IsChained bucket points older buckets) (new : P) where
    pub walking_start : Walking bucket points new (get_or buckets (bucket new) 0)
    walking_start =
        let last = chained.last (bucket new) in
        record {
          low = last.low;
          of = last.of;
          left = λ k p e b le is. (let low = last.all k p e b (slice_get_length points k p e) in absurd (omega arith));
        }

    pub walking_next : (j : ℕ) → Walking bucket points new (suc j) → (slice_get points j ≡ Some new → ⊥) → Walking bucket points new (get_or older j 0)
    walking_next j w other =
        let p = w.of j refl in
        let before = chained.before j p.0 p.1 in
        record {
          low = (let a = before.low in let b = w.low in omega arith);
          of = λ k e. (let q = before.of k e in (q.0, q.1, q.2 ∙ p.2));
          left = λ k q e b le. elim (cases_lt j k) [
            | inl h ↦ w.left k q e b (omega arith)
            | inr h ↦ elim (cases_eq k j) [
              | inl same ↦ (λ is. other (ap (λ i. slice_get points i) (sym same) ∙ (e ∙ ap (λ r. Some r) is)))
              | inr not ↦ absurd (let low = before.all k q e (b ∙ sym p.2) (omega arith) in omega arith)
            ]
          ];
        }

    pub walking_within : (j : ℕ) → Walking bucket points new (suc j) → j < length older
    walking_within j w = let a = w.low in let long = chained.long in omega arith

    pub walking_done : Walking bucket points new 0 → Contains points new → ⊥
    walking_done w c = let k = place_of points new c in w.left k.0 new k.1 refl (omega arith) refl

  module _ (xs : List P) (q : P) where
    last_more : (b end at : ℕ) → end ≤ length xs → IsLast bucket xs b end at → IsLast bucket (xs ++ q ∷ []) b end at
    last_more b end at le last = record {
      low = last.low;
      of = λ k e. (let p = last.of k e in (p.0, grown xs q k p.0 p.1, p.2));
      all = λ k p e same low. elim (at_end xs q k p e) [ inl o ↦ last.all k p o same low | inr n ↦ absurd (let a = n.0 in omega arith) ];
    }

    last_other : (b at : ℕ) → bucket q ≢ b → IsLast bucket xs b (length xs) at → IsLast bucket (xs ++ q ∷ []) b (length (xs ++ q ∷ [])) at
    last_other b at ne last =
        let long = length_push xs q in
        record {
          low = (let a = last.low in omega arith);
          of = λ k e. (let p = last.of k e in (p.0, grown xs q k p.0 p.1, p.2));
          all = λ k p e same low. elim (at_end xs q k p e) [ inl o ↦ last.all k p o same (slice_get_length xs k p o) | inr n ↦ absurd (ne (ap bucket n.1 ∙ same)) ];
        }

    last_new : (b at : ℕ) → bucket q ≡ b → at ≡ length xs + 1 → IsLast bucket (xs ++ q ∷ []) b (length (xs ++ q ∷ [])) at
    last_new b at is e =
        let long = length_push xs q in
        record {
          low = omega arith;
          of = λ k f. (let k_is : length xs ≡ k = omega arith in (q, ap (λ i. slice_get (xs ++ q ∷ []) i) (sym k_is) ∙ last_of xs q, is));
          all = λ k p f same low. omega arith;
        }

    module _ (older buckets : List ℕ) (chained : IsChained bucket xs older buckets) (within : bucket q < length buckets) where
      chained_more : IsChained bucket (xs ++ q ∷ []) (older ++ get_or buckets (bucket q) 0 ∷ []) (set buckets (bucket q) (length xs + 1))
      chained_more = record {
        long = (let a = length_push xs q in let b = length_push older (get_or buckets (bucket q) 0) in let c = chained.long in omega arith);
        last = λ b. elim (cases_eq b (bucket q)) [
          | inl e ↦ last_new b (get_or (set buckets (bucket q) (length xs + 1)) b 0) (sym e) (ap (λ i. get_or (set buckets (bucket q) (length xs + 1)) i 0) e ∙ get_or-set_same buckets (bucket q) (length xs + 1) 0 within)
          | inr n ↦ subst (λ at. IsLast bucket (xs ++ q ∷ []) b (length (xs ++ q ∷ [])) at) (sym (get_or-set_other buckets (bucket q) b (length xs + 1) 0 n)) (last_other b (get_or buckets b 0) (λ e. n (sym e)) (chained.last b))
        ];
        before = λ k p e. elim (at_end xs q k p e) [
          | inl o ↦
              let low = slice_get_length xs k p o in
              let long = chained.long in
              subst (λ at. IsLast bucket (xs ++ q ∷ []) (bucket p) k at) (sym (get_or_append_left older (get_or buckets (bucket q) 0 ∷ []) 0 k (omega arith)))
              (last_more (bucket p) k (get_or older k 0) (omega arith) (chained.before k p o))
          | inr n ↦
              let long = chained.long in
              let end = n.0 in
              subst (λ at. IsLast bucket (xs ++ q ∷ []) (bucket p) k at) (sym (last_is older (get_or buckets (bucket q) 0) k (omega arith)))
              (subst (λ (r : P). IsLast bucket (xs ++ q ∷ []) (bucket r) k (get_or buckets (bucket q) 0)) n.1
              (subst (λ i. IsLast bucket (xs ++ q ∷ []) (bucket q) i (get_or buckets (bucket q) 0)) (sym end) (last_more (bucket q) (length xs) (get_or buckets (bucket q) 0) (omega arith) (chained.last (bucket q)))))
        ];
      }

  pub none_chained : (points : List P) (older buckets : List ℕ) → points ≡ [] → older ≡ [] → ((b : ℕ) → get_or buckets b 0 ≡ 0) → IsChained bucket points older buckets
  none_chained points older buckets e f none = record {
    long = ap (λ (l : List ℕ). length l) f ∙ sym (ap (λ (l : List P). length l) e);
    last = λ b. subst (λ at. IsLast bucket points b (length points) at) (sym (none b)) (record {
      low = omega arith;
      of = λ k h. absurd (omega arith);
      all = λ k p h same low. absurd (nothing k p (ap (λ (l : List P). slice_get l k) (sym e) ∙ h));
    });
    before = λ k p h. absurd (nothing k p (ap (λ (l : List P). slice_get l k) (sym e) ∙ h));
  }
    where
      nothing : (k : ℕ) (p : P) → slice_get [] k ≡ Some p → ⊥
      nothing k p h = cc

-- a point goes into its bucket
pub chained_push : {P : Type 0} (number : P → ℕ) (xs : List P) (q : P) (older buckets : List ℕ) (zs : List P) (new_older new_buckets : List ℕ) (bucket : ℕ)
    → 0 < length buckets → IsChained (bucket_in number buckets) xs older buckets → bucket ≡ bucket_in number buckets q
    → zs ≡ xs ++ q ∷ [] → new_older ≡ older ++ get_or buckets bucket 0 ∷ [] → new_buckets ≡ set buckets bucket (length xs + 1)
    → (0 < length new_buckets) × IsChained (bucket_in number new_buckets) zs new_older new_buckets
chained_push {P = P} number xs q older buckets zs new_older new_buckets bucket some chained is longer older_is buckets_is = (
  (let same = long in omega arith),
  subst (λ (n : ℕ). IsChained (λ p. number p % n) zs new_older new_buckets) (sym long)
      (subst (λ (l : List P). IsChained (bucket_in number buckets) l new_older new_buckets) (sym longer)
      (subst (λ (l : List ℕ). IsChained (bucket_in number buckets) (xs ++ q ∷ []) l new_buckets) (sym (older_is ∙ ap (λ b. older ++ get_or buckets b 0 ∷ []) is))
      (subst (λ (l : List ℕ). IsChained (bucket_in number buckets) (xs ++ q ∷ []) (older ++ get_or buckets (bucket_in number buckets q) 0 ∷ []) l) (sym (buckets_is ∙ ap (λ b. set buckets b (length xs + 1)) is))
      (chained_more (bucket_in number buckets) xs q older buckets chained (within (number q) (length buckets) some))))),
)
  where
    long : length new_buckets ≡ length buckets
    long = ap (λ (l : List ℕ). length l) buckets_is ∙ length-set buckets bucket (length xs + 1)

    within : (a n : ℕ) → 0 < n → a % n < n
    within a n some = omega arith

-- the walk through the bucket of a point, as it is done
module _ {P : Type 0} (number : P → ℕ) (points : List P) (older buckets : List ℕ) (chained : IsChained (bucket_in number buckets) points older buckets) (new : P) where
  abbrev IsWalking : ℕ → Type 0
  IsWalking at = Walking (bucket_in number buckets) points new at

  read_zero : (xs : List ℕ) (i x : ℕ) → i < length xs → x ≡ get_or xs i x → x ≡ get_or xs i 0
  read_zero xs i x low e = e ∙ get_or_default_zero xs i x low

  pub known_start : 0 < length buckets → (n long bucket at : ℕ) → n ≡ number new → long ≡ length buckets → bucket ≡ n % long → at ≡ get_or buckets bucket at → IsWalking at
  known_start some n long bucket at n_is long_is bucket_is at_is =
      let is : bucket ≡ number new % length buckets = bucket_is ∙ (ap (λ m. m % long) n_is ∙ ap (λ m. number new % m) long_is) in
      let low : bucket < length buckets = (let same = is in omega arith) in
      subst (λ a. IsWalking a) (sym (read_zero buckets bucket at low at_is ∙ ap (λ b. get_or buckets b 0) is)) (walking_start (bucket_in number buckets) points older buckets chained new)

  module _ (at : ℕ) (walking : IsWalking at) (more : 0 < at) where
    here : IsWalking (suc (at - 1))
    here = let e : at ≡ suc (at - 1) = omega arith in subst (λ a. IsWalking a) e walking

    pub known_within : at - 1 < length older
    known_within = walking_within (bucket_in number buckets) points older buckets chained new (at - 1) here

    module _ (next : ℕ) (next_is : next ≡ get_or older (at - 1) next) where
      is_older : next ≡ get_or older (at - 1) 0
      is_older = read_zero older (at - 1) next known_within next_is

      pub known_smaller : next < at
      known_smaller =
          let p = here.of (at - 1) refl in
          let low = (chained.before (at - 1) p.0 p.1).low in
          let e = is_older in
          omega arith

      pub known_next : (slice_get points (at - 1) ≡ Some new → ⊥) → IsWalking next
      known_next other = subst (λ a. IsWalking a) (sym is_older) (walking_next (bucket_in number buckets) points older buckets chained new (at - 1) here other)

  pub known_done : (at : ℕ) → IsWalking at → at ≤ 0 → Contains points new → ⊥
  known_done at walking end c = let e : at ≡ 0 = omega arith in walking_done (bucket_in number buckets) points older buckets chained new (subst (λ a. IsWalking a) e walking) c
