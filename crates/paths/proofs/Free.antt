-- Where the rules hold, no path ever ended: each path of the graph is one that every rule looks at.
use Rattle.std.proofs.Common.{◌≡◌, ℕ, zero, suc, ◌+◌, ◌≤◌, inl, inr, Bool, true, false, refl, arith, subst}
use Rattle.std.proofs.Math.Nat.{eq-or-lt_of_le}
use Rattle.std.specs.List.{Contains}
use Rattle.paths.specs.Paths.{Graph, Free}
use Rattle.paths.specs.Rules.{Ways, GoesOn, Reached, Holds, Step}
use Rattle.paths.proofs.Reaching.{reached_free, not_broken, not_split}

-- what two rules over one graph say: together they see whatever ends a path for being apart
pub record TwoRules {P : Type 0} (graph : Graph P) (apart : P → P → Bool) : Type 0 where
  pub breaks_a : P → Bool
  pub breaks_b : P → Bool
  pub splits_a : P → P → Bool
  pub splits_b : P → P → Bool
  pub seen : (x y : P) → splits_a x y ≡ false → splits_b x y ≡ false → apart x y ≡ false

abbrev pub ways_of : {P : Type 0} → Graph P → (P → P → Bool) → (P → Bool) → (P → P → Bool) → Ways P
ways_of graph apart breaks splits = record { graph = graph; breaks = breaks; splits = splits; apart = apart }

module _ {P : Type 0} (graph : Graph P) (apart : P → P → Bool) (two : TwoRules graph apart) (holds_a : Holds (ways_of graph apart two.breaks_a two.splits_a)) (holds_b : Holds (ways_of graph apart two.breaks_b two.splits_b)) where
  abbrev ways_a : Ways P
  ways_a = ways_of graph apart two.breaks_a two.splits_a

  abbrev ways_b : Ways P
  ways_b = ways_of graph apart two.breaks_b two.splits_b

  -- the rules hold together, so a path has to be followed by both at once
  abbrev InBoth : ℕ → P → Type 0
  InBoth n y = Reached ways_a n y × Reached ways_b n y

  not_apart : (n : ℕ) (x y : P) → InBoth n x → InBoth n y → apart x y ≡ false
  not_apart n x y r s = two.seen x y (not_split ways_a holds_a n x y r.0 s.0) (not_split ways_b holds_b n x y r.1 s.1)

  abbrev AllBefore : ℕ → Type 0
  AllBefore n = (m : ℕ) (z : P) → m ≤ n → Free graph m z → InBoth n z

  one_more : (n : ℕ) (x y : P) → AllBefore n → Free graph n x → Contains (graph.moves x) y → InBoth (suc n) y
  one_more n x y before free move =
      let r = before n x (omega arith) free in (
        inr (
          x,
          r.0,
          record { fine = not_broken ways_a holds_a n x r.0; alone = λ z s. (let k = reached_free ways_a n z s in not_apart n z x (before k.0 z k.1 k.2) r) },
          move,
        ),
        inr (
          x,
          r.1,
          record { fine = not_broken ways_b holds_b n x r.1; alone = λ z s. (let k = reached_free ways_b n z s in not_apart n z x (before k.0 z k.1 k.2) r) },
          move,
        ),
      )

  in_both_next : (n m : ℕ) (y : P) → m ≤ suc n → AllBefore n → Free graph m y → InBoth (suc n) y
  in_both_next n zero y le before free = let r = before zero y (omega arith) free in (inl r.0, inl r.1)
  in_both_next n (suc k) y le before free =
      elim (eq-or-lt_of_le le) [
        | inl e ↦ (let same : k ≡ n = omega arith in one_more n free.0 y before (subst (λ i. Free graph i free.0) same free.1) free.2)
        | inr lt ↦ (let r = before (suc k) y (omega arith) free in (inl r.0, inl r.1))
      ]

  in_both : (n m : ℕ) (y : P) → m ≤ n → Free graph m y → InBoth n y
  in_both zero zero y le free = (free, free)
  in_both zero (suc k) y le free = absurd (omega arith)
  in_both (suc n) m y le free = in_both_next n m y le (λ k z h. in_both n k z h) free

  -- no path ends another
  pub free_alone : (m n : ℕ) (x y : P) → Free graph m x → Free graph n y → apart x y ≡ false
  free_alone m n x y f h = not_apart (m + n) x y (in_both (m + n) m x (omega arith) f) (in_both (m + n) n y (omega arith) h)

  pub free_fine_a : (n : ℕ) (y : P) → Free graph n y → two.breaks_a y ≡ false
  free_fine_a n y free = not_broken ways_a holds_a n y (in_both n n y (omega arith) free).0

  pub free_fine_b : (n : ℕ) (y : P) → Free graph n y → two.breaks_b y ≡ false
  free_fine_b n y free = not_broken ways_b holds_b n y (in_both n n y (omega arith) free).1

-- any rule that holds over a graph where no path ends another
module _ {P : Type 0} (ways : Ways P) (alone : (m n : ℕ) (x y : P) → Free ways.graph m x → Free ways.graph n y → ways.apart x y ≡ false) (holds : Holds ways) where
  goes_on : (n m : ℕ) (y : P) → Free ways.graph m y → Reached ways n y → GoesOn ways (Reached ways n) y
  goes_on n m y free r = record { fine = not_broken ways holds n y r; alone = λ z s. (let k = reached_free ways n z s in alone k.0 m z y k.2 free) }

  pub free_reached : (n : ℕ) (y : P) → Free ways.graph n y → Reached ways n y
  free_reached zero y free = free
  free_reached (suc n) y free = let r = free_reached n free.0 free.1 in inr (free.0, r, goes_on n n free.0 free.1 r, free.2)

  -- breaks it at no path
  pub free_fine : (n : ℕ) (y : P) → Free ways.graph n y → ways.breaks y ≡ false
  free_fine n y free = not_broken ways holds n y (free_reached n y free)

  -- and each move of a path is one that the rule sees
  pub free_step : (item : P → ℕ) (n : ℕ) (x y : P) → Free ways.graph n x → Contains (ways.graph.moves x) y → Step ways item (item x) (item y)
  free_step item n x y free move = let r = free_reached n x free in record { n = n; from = x; to = y; reached = r; goes_on = goes_on n n x free r; move = move; leaves = refl; arrives = refl }

-- the other way: a rule that no path breaks and no two paths split holds, whatever ends paths
pub holds_from_free : {P : Type 0} (ways : Ways P) → ((n : ℕ) (y : P) → Free ways.graph n y → ways.breaks y ≡ false)
    → ((m n : ℕ) (x y : P) → Free ways.graph m x → Free ways.graph n y → ways.splits x y ≡ false) → Holds ways
holds_from_free ways fine whole y broken =
    let here = reached_free ways broken.n y broken.reached in
    elim broken.why [
      | inl t ↦ clash (ways.breaks y) t (fine here.0 y here.2)
      | inr t ↦ (let there = reached_free ways broken.n t.0 t.1 in clash (ways.splits t.0 y) t.2 (whole there.0 here.0 t.0 y there.2 here.2))
    ]
  where
    clash : (b : Bool) → b ≡ true → b ≡ false → ⊥
    clash b t f = cc
