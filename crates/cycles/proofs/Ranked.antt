-- Where every node leads to nodes of lower rank, no node is on a cycle.
use Rattle.std.proofs.Common.{◌≡◌, ℕ, zero, suc, ◌+◌, ◌<◌, inl, inr, Bool, true, false, List, [], ◌∷◌, None, ap, sym, ◌∙◌, subst, refl, arith, slice_index, get_or, length, nat_le}
use Rattle.std.specs.List.{Contains, list_any}
use Rattle.std.proofs.lemmas.Bool.{cases_Bool, cases_eq}
use Rattle.std.proofs.lemmas.Bool.Decides.{nat_tests}
use Rattle.std.proofs.lemmas.List.Folds.{list_any_at}
use Rattle.std.proofs.lemmas.Option.{unwrap_or-slice_get}
use Rattle.liveness.specs.Live.{list_of}
use Rattle.cycles.specs.Cycles.{IsLowest, IsRanked, Walk}

-- the list of a node that is there
pub list_is : (lists : List (List ℕ)) (node : ℕ) (list : List ℕ) → list ≡ get_or lists node list → node < length lists → list_of lists node ≡ list
list_is lists node list is low = unwrap_or-slice_get lists node [] ∙ (same lists node [] list low ∙ sym is)
  where
    same : (lists : List (List ℕ)) (node : ℕ) (d e : List ℕ) → node < length lists → get_or lists node d ≡ get_or lists node e
    same [] node d e low = absurd (omega arith)
    same (x ∷ xs) zero d e low = refl
    same (x ∷ xs) (suc n) d e low = same xs n d e (omega arith)

module _ (next : List (List ℕ)) (ranks : List ℕ) where
  -- a way leads down
  down : IsRanked next ranks → (a b m : ℕ) (path : List ℕ) → Walk next a b (m ∷ path) → slice_index ranks b < slice_index ranks a
  down ranked a b m [] w = subst (λ q. slice_index ranks q < slice_index ranks a) w.1 (ranked a m w.0)
  down ranked a b m (n ∷ path) w = (let first = ranked a m w.0 in let rest = down ranked m b n path w.1 in omega arith)

  pub none_on : IsRanked next ranks → IsLowest next None
  none_on ranked = record { none = λ e i c. (let low = down ranked i i c.0 c.1 c.2 in omega arith); some = λ i e. absurd cc }

  -- the edges of one more node
  pub ranked_more : (k rank : ℕ) (list : List ℕ) → ((a b : ℕ) → a < k → Contains (list_of next a) b → slice_index ranks b < slice_index ranks a)
      → list ≡ list_of next k → rank ≡ slice_index ranks k → list_any (λ m. nat_le rank (slice_index ranks m)) list ≡ false
      → (a b : ℕ) → a < k + 1 → Contains (list_of next a) b → slice_index ranks b < slice_index ranks a
  ranked_more k rank list before is rank_is none a b h c = elim (cases_eq a k) [
    | inr n ↦ before a b (omega arith) c
    | inl e ↦ by (subst (λ (l : List ℕ). Contains l b) (sym is) (subst (λ q. Contains (list_of next q) b) e c)) e
  ]
    where
      by : Contains list b → a ≡ k → slice_index ranks b < slice_index ranks a
      by c e = elim (cases_Bool (nat_le rank (slice_index ranks b))) [
        | inl t ↦ (let found = list_any_at (λ m. nat_le rank (slice_index ranks m)) list c.0 b c.1 (ap (λ m. nat_le rank (slice_index ranks m)) c.2 ∙ t) in absurd (clash (list_any (λ m. nat_le rank (slice_index ranks m)) list) found none))
        | inr f ↦ (let low : slice_index ranks b < rank = grind (arith, nat_tests) in subst (λ q. slice_index ranks b < q) (rank_is ∙ ap (λ q. slice_index ranks q) (sym e)) low)
      ]
        where
          clash : (x : Bool) → x ≡ true → x ≡ false → ⊥
          clash x t f = cc

  pub ranked_all : ((a b : ℕ) → a < length next → Contains (list_of next a) b → slice_index ranks b < slice_index ranks a) → IsRanked next ranks
  ranked_all all a b c = all a b (within next a b c) c
    where
      within : (lists : List (List ℕ)) (a b : ℕ) → Contains (list_of lists a) b → a < length lists
      within [] a b c = absurd (let low = c.1 in omega arith)
      within (x ∷ xs) zero b c = omega arith
      within (x ∷ xs) (suc a) b c = (let r = within xs a b c in omega arith)
