-- Where paths that carry less pass a limit, those that carry all pass it too.
use Rattle.std.proofs.Common.{◌≡◌, ℕ, zero, suc, ◌+◌, inl, inr, ◌||◌, if◌then◌else◌, refl, ap, sym, ◌∙◌, arith, subst, List, [], ◌∷◌, ◌++◌, map, Option, Some, slice_get, nat_eq}
use Rattle.std.specs.List.{Contains}
use Rattle.std.proofs.lemmas.List.{map-append}
use Rattle.paths.specs.Rules.{Ways, Reached, Forgets}
use Rattle.paths.proofs.Forgetting.{alike}
use Rattle.paths.proofs.Tests.{first_or_later, here, later}
use Rattle.path_search.specs.Found.{HasMore, has_item, seconds, seconds_behind}

module _ {P Q : Type 0} (less : P → Q) where
  place_less : (xs : List P) (k : ℕ) (p : P) → slice_get xs k ≡ Some p → slice_get (map less xs) k ≡ Some (less p)
  place_less [] k p e = cc
  place_less (x ∷ xs) zero p e = (let same : x ≡ p = cc in ap (λ q. Some (less q)) same)
  place_less (x ∷ xs) (suc k) p e = place_less xs k p e

  module _ (item : P → ℕ) (of : Q → ℕ) (same : (x : P) → of (less x) ≡ item x) where
    has_same : (i : ℕ) (xs : List P) → has_item of i (map less xs) ≡ has_item item i xs
    has_same i [] = refl
    has_same i (x ∷ xs) = ap (λ a. nat_eq a i || has_item of i (map less xs)) (same x) ∙ ap (λ b. nat_eq (item x) i || b) (has_same i xs)

    behind_same : (before xs : List P) → seconds_behind of (map less before) (map less xs) ≡ seconds_behind item before xs
    behind_same before [] = refl
    behind_same before (x ∷ xs) =
        ap (λ i. (if has_item of i (map less before) then 1 else 0) + seconds_behind of (map less before ++ less x ∷ []) (map less xs)) (same x)
        ∙ (ap (λ b. (if b then 1 else 0) + seconds_behind of (map less before ++ less x ∷ []) (map less xs)) (has_same (item x) before)
        ∙ (ap (λ (l : List Q). (if has_item item (item x) before then 1 else 0) + seconds_behind of l (map less xs)) (sym (map-append less before (x ∷ [])))
        ∙ ap (λ n. (if has_item item (item x) before then 1 else 0) + n) (behind_same (before ++ x ∷ []) xs)))

    module _ (w : Ways P) (v : Ways Q) (On : P → Type 0) (fg : Forgets w v less On) where
      -- points that carry all, for some that carry less
      pub record Lifted (zs : List Q) : Type 0 where
        pub points : List P
        pub are : map less points ≡ zs
        pub reached : (p : P) → Contains points p → (n : ℕ) × Reached w n p

      lifted : (zs : List Q) → ((z : Q) → Contains zs z → (n : ℕ) × Reached v n z) → Lifted zs
      lifted [] reached = record { points = []; are = refl; reached = λ p c. absurd (omega (arith, c.1)) }
      lifted (z ∷ zs) reached =
          let rest = lifted zs (λ y c. reached y (later z zs y c)) in
          let n = reached z (here z zs z refl) in
          let x = (alike w v less On fg n.0).up z n.1 in
          record {
            points = x.0 ∷ rest.points;
            are = ap (λ q. q ∷ map less rest.points) x.2 ∙ ap (λ (l : List Q). z ∷ l) rest.are;
            reached = λ p c. elim (first_or_later x.0 rest.points p c) [ inl e ↦ (n.0, subst (λ q. Reached w n.0 q) e x.1) | inr d ↦ rest.reached p d ];
          }

      pub more_up : (limit : Option ℕ) → HasMore v of limit → HasMore w item limit
      more_up limit h =
          let l = lifted h.points h.reached in
          record {
            points = l.points;
            reached = l.reached;
            passes = record {
              most = h.passes.most;
              limited = h.passes.limited;
              distinct = λ p j k a b. h.passes.distinct (less p) j k (subst (λ (q : List Q). slice_get q j ≡ Some (less p)) l.are (place_less l.points j p a)) (subst (λ (q : List Q). slice_get q k ≡ Some (less p)) l.are (place_less l.points k p b));
              more = (let many = h.passes.more in let e : seconds of h.points ≡ seconds item l.points = ap (λ (q : List Q). seconds of q) (sym l.are) ∙ behind_same [] l.points in omega arith);
            };
          }
