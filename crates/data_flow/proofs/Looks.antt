-- One look at a node: what is needed there and for its steps.
use Rattle.std.proofs.Common.{◌≡◌, ◌≢◌, ℕ, zero, suc, ◌^◌, ◌<◌, ◌≤◌, ◌⊎◌, inl, inr, Bool, true, false, ◌&&◌, refl, ap, sym, ◌∙◌, arith, subst, List, [], ◌∷◌, length, get_or, replicate, nat_eq}
use Rattle.std.specs.Prelude.{slice_set}
use Rattle.std.specs.List.{Contains}
use Rattle.std.proofs.lemmas.Bool.{cases_lt}
use Rattle.std.proofs.lemmas.Bool.Decides.{nat_tests}
use Rattle.paths.proofs.Tests.{here, later, first_or_later}
use Rattle.data_flow.specs.declared.flow.Flow.{Flow}
use Rattle.data_flow.specs.declared.flow.Need.{Need}
use Rattle.data_flow.specs.declared.flow.Point.{Point}
use Rattle.data_flow.specs.declared.flow.Step.{Step}
use Rattle.data_flow.specs.declared.names.Names.{Names}
use Rattle.data_flow.specs.Names.{same, AreNames}
use Rattle.data_flow.specs.Flow.{nothing, need_at, puts_at, steps_at}
use Rattle.data_flow.specs.Rows.{IsLess, Has, both, before, before_at, own_need, ahead_from, looked, same_need, spare, spare_need}
use Rattle.data_flow.proofs.Sets.{within_self, within_trans, within_first, within_second, join_within, none_within, same_is, same_self, spare_within, spare_same}

less_self : (m : Need) → IsLess m m
less_self m = record { names = within_self m.names; count = omega arith }

pub less_trans : (l m n : Need) → IsLess l m → IsLess m n → IsLess l n
less_trans l m n p q = record { names = within_trans l.names m.names n.names p.names q.names; count = omega (arith, p.count, q.count) }

less_first : (m n : Need) → IsLess m (both m n)
less_first m n = record { names = within_first m.names n.names; count = omega arith }

less_second : (m n : Need) → IsLess n (both m n)
less_second m n = record { names = within_second m.names n.names; count = omega arith }

pub has_both : (p : Point) (m n : Need) → Has p m → Has p n → Has p (both m n)
has_both p m n h k = record { names = join_within m.names n.names p.names h.names k.names; count = omega (arith, h.count, k.count) }

pub has_nothing : (p : Point) → Has p nothing
has_nothing p = record { names = none_within p.names; count = omega arith }

module _ (bound puts : ℕ) (needs : List Need) where
  ahead_keeps : (all : Need) (ss : List Step) → IsLess all (ahead_from bound puts needs all ss)
  ahead_keeps all [] = less_self all
  ahead_keeps all (s ∷ ss) =
      let more = both all (before bound puts needs s) in
      less_trans all more (ahead_from bound puts needs more ss) (less_first all (before bound puts needs s)) (ahead_keeps more ss)

  ahead_has : (all : Need) (ss : List Step) (s : Step) → Contains ss s → IsLess (before bound puts needs s) (ahead_from bound puts needs all ss)
  ahead_has all [] s c = absurd (omega (arith, c.1))
  ahead_has all (x ∷ xs) s c =
      let more = both all (before bound puts needs x) in
      elim (first_or_later x xs s c) [
        | inl e ↦ less_trans (before bound puts needs s) more (ahead_from bound puts needs more xs) (subst (λ (q : Step). IsLess (before bound puts needs q) more) e (less_second all (before bound puts needs x))) (ahead_keeps more xs)
        | inr d ↦ ahead_has more xs s d
      ]

  pub has_ahead : (p : Point) (all : Need) (ss : List Step) → Has p all → ((s : Step) → Contains ss s → Has p (before bound puts needs s)) → Has p (ahead_from bound puts needs all ss)
  has_ahead p all [] h k = h
  has_ahead p all (s ∷ ss) h k =
      has_ahead p (both all (before bound puts needs s)) ss (has_both p all (before bound puts needs s) h (k s (here s ss s refl))) (λ t c. k t (later s ss t c))

-- ---- a list of needs with one that is new

pub need_same : (needs : List Need) (i : ℕ) (new : Need) → i < length needs → need_at (slice_set needs i new) i ≡ new
need_same [] i new low = absurd (omega arith)
need_same (n ∷ ns) zero new low = refl
need_same (n ∷ ns) (suc i) new low = need_same ns i new (omega arith)

pub need_other : (needs : List Need) (i j : ℕ) (new : Need) → j ≢ i → need_at (slice_set needs i new) j ≡ need_at needs j
need_other [] i j new o = refl
need_other (n ∷ ns) zero zero new o = absurd (o refl)
need_other (n ∷ ns) zero (suc j) new o = refl
need_other (n ∷ ns) (suc i) zero new o = refl
need_other (n ∷ ns) (suc i) (suc j) new o = need_other ns i j new (λ e. o (ap suc e))

pub need_none : (n i : ℕ) → need_at (replicate n nothing) i ≡ nothing
need_none zero i = refl
need_none (suc n) zero = refl
need_none (suc n) (suc i) = need_none n i

-- ---- looks

module _ (flow : Flow) (needs : List Need) (node : ℕ) where
  start : Need
  start = both (need_at needs node) (own_need flow node)

  pub looked_keeps : IsLess (need_at needs node) (looked flow needs node)
  unfolding start
  looked_keeps = less_trans (need_at needs node) start (looked flow needs node) (less_first (need_at needs node) (own_need flow node)) (ahead_keeps flow.bound (puts_at flow node) needs start (steps_at flow node))

  pub looked_own : IsLess (own_need flow node) (looked flow needs node)
  unfolding start
  looked_own = less_trans (own_need flow node) start (looked flow needs node) (less_second (need_at needs node) (own_need flow node)) (ahead_keeps flow.bound (puts_at flow node) needs start (steps_at flow node))

  pub looked_ahead : (s : Step) → Contains (steps_at flow node) s → IsLess (before_at flow needs node s) (looked flow needs node)
  unfolding start
  looked_ahead s c = ahead_has flow.bound (puts_at flow node) needs start (steps_at flow node) s c

pub same_need_is : (m n : Need) → same_need m n ≡ true → m ≡ n
same_need_is m n t =
    let b = both_true (same m.names n.names) (nat_eq m.count n.count) t in
    ap (λ q. of q m.count) (same_is m.names n.names b.0) ∙ ap (λ k. of n.names k) (equal m.count n.count b.1)
  where
    of : Names → ℕ → Need
    of names count = record { names = names; count = count }

    both_true : (p q : Bool) → (p && q) ≡ true → (p ≡ true) × (q ≡ true)
    both_true true q h = (refl, h)
    both_true false q h = absurd cc

    equal : (m n : ℕ) → nat_eq m n ≡ true → m ≡ n
    equal m n t = grind (arith, nat_tests)

pub same_need_self : (m : Need) → same_need m m ≡ true
same_need_self m = ap (λ b. b && nat_eq m.count m.count) (same_self m.names) ∙ equal m.count
  where
    equal : (n : ℕ) → nat_eq n n ≡ true
    equal n = grind (arith, nat_tests)

-- a need that grew leaves less to spare
spare_grows : (m n : Need) → AreNames n.names → n.count < 2 ^ 32 → IsLess m n → same_need n m ≡ false → spare_need n < spare_need m
spare_grows m n names low less other = by_cases (lt_or (spare_need n) (spare_need m))
  where
    lt_or : (x y : ℕ) → (x < y) ⊎ (y ≤ x)
    lt_or x y = elim (cases_lt x y) [ inl h ↦ inl h | inr h ↦ inr h ]

    no_both : (b : Bool) → b ≡ true → b ≡ false → ⊥
    no_both b t f = cc

    of : Names → ℕ → Need
    of names count = record { names = names; count = count }

    by_cases : (spare_need n < spare_need m) ⊎ (spare_need m ≤ spare_need n) → spare_need n < spare_need m
    by_cases (inl h) = h
    by_cases (inr h) =
        let w = spare_within m.names n.names less.names in
        let c = less.count in
        let names_same : n.names ≡ m.names = spare_same m.names n.names names less.names (omega arith) in
        let count_same : n.count ≡ m.count = omega arith in
        let e : n ≡ m = ap (λ q. of q n.count) names_same ∙ ap (λ k. of m.names k) count_same in
        absurd (no_both (same_need n m) (ap (λ q. same_need n q) (sym e) ∙ same_need_self n) other)

pub spare_set : (needs : List Need) (i : ℕ) (new : Need) → i < length needs → spare_need new < spare_need (need_at needs i) → spare (slice_set needs i new) < spare needs
spare_set [] i new low h = absurd (omega arith)
spare_set (n ∷ ns) zero new low h = omega arith
spare_set (n ∷ ns) (suc i) new low h = let s = spare_set ns i new (omega arith) h in omega arith

pub spare_falls : (flow : Flow) (needs : List Need) (node : ℕ) → node < length needs → AreNames (looked flow needs node).names → (looked flow needs node).count < 2 ^ 32
    → same_need (looked flow needs node) (need_at needs node) ≡ false → spare (slice_set needs node (looked flow needs node)) < spare needs
spare_falls flow needs node low names count other =
    spare_set needs node (looked flow needs node) low (spare_grows (need_at needs node) (looked flow needs node) names count (looked_keeps flow needs node) other)

-- a need as it is read
pub need_read : (needs : List Need) (i : ℕ) → get_or needs i nothing ≡ need_at needs i
need_read [] i = refl
need_read (n ∷ ns) zero = refl
need_read (n ∷ ns) (suc i) = need_read ns i
