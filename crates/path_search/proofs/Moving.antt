-- Moves from item to item are noted.
use Rattle.std.proofs.Common.{◌≡◌, ◌≢◌, ℕ, zero, suc, ◌+◌, ◌<◌, ◌⊎◌, inl, inr, Bool, true, false, refl, ap, sym, ◌∙◌, arith, subst, List, [], ◌∷◌, ◌++◌, length, get_or, set, take, Some, slice_get}
use Rattle.std.specs.List.{Contains}
use Rattle.std.proofs.lemmas.Bool.{cases_eq, cases_lt}
use Rattle.std.proofs.lemmas.List.{get_or-set_same, get_or-set_other, length-set, take_more}
use Rattle.std.proofs.lemmas.List.Elements.{Contains-append_left, Contains-push, Contains-push_cases}
use Rattle.std.proofs.lemmas.Option.{slice_get_read}
use Rattle.paths.specs.Rules.{Ways, Step}
use Rattle.paths.specs.Search.{IsReach}
use Rattle.path_search.specs.Found.{AreFlags, AreSteps, Widens, row_of}
use Rattle.path_search.specs.Steps.{AreNoted, AreWithin, Moves, Notes, NotesAll}

-- one more number in the row of a
pub notes_of : (a b : ℕ) (next wide wider new : List (List ℕ)) → Widens a next wide → Widens b wide wider → a < length wider → new ≡ set wider a (row_of wider a ++ b ∷ []) → Notes a b next new
notes_of a b next wide wider new v v2 low is = record {
  moves = λ c d. (λ q. to c d (cases_eq c a) q, λ q. elim q [ inl old ↦ from_old c d (cases_eq c a) old | inr here ↦ from_new c d here.0 here.1 ]);
  within = λ all c d q. within all c d (to c d (cases_eq c a) q);
}
  where
    same : (c : ℕ) → row_of wider c ≡ row_of next c
    same c = v2.same c ∙ v.same c

    here : row_of new a ≡ row_of next a ++ b ∷ []
    here = ap (λ (l : List (List ℕ)). row_of l a) is ∙ (get_or-set_same wider a (row_of wider a ++ b ∷ []) [] low ∙ ap (λ (l : List ℕ). l ++ b ∷ []) (same a))

    other : (c : ℕ) → c ≢ a → row_of new c ≡ row_of next c
    other c n = ap (λ (l : List (List ℕ)). row_of l c) is ∙ (get_or-set_other wider a c (row_of wider a ++ b ∷ []) [] n ∙ same c)

    to : (c d : ℕ) → (c ≡ a) ⊎ (c ≢ a) → Contains (row_of new c) d → Contains (row_of next c) d ⊎ ((c ≡ a) × (d ≡ b))
    to c d (inr n) q = inl (subst (λ (l : List ℕ). Contains l d) (other c n) q)
    to c d (inl e) q = elim (Contains-push_cases (row_of next a) b d (subst (λ (l : List ℕ). Contains l d) (ap (row_of new) e ∙ here) q)) [
      | inl old ↦ inl (subst (λ i. Contains (row_of next i) d) (sym e) old)
      | inr f ↦ inr (e, sym f)
    ]

    from_old : (c d : ℕ) → (c ≡ a) ⊎ (c ≢ a) → Contains (row_of next c) d → Contains (row_of new c) d
    from_old c d (inr n) q = subst (λ (l : List ℕ). Contains l d) (sym (other c n)) q
    from_old c d (inl e) q = subst (λ (l : List ℕ). Contains l d) (sym (ap (row_of new) e ∙ here)) (Contains-append_left (row_of next a) (b ∷ []) d (subst (λ i. Contains (row_of next i) d) e q))

    from_new : (c d : ℕ) → c ≡ a → d ≡ b → Contains (row_of new c) d
    from_new c d e f = subst (λ (l : List ℕ). Contains l d) (sym (ap (row_of new) e ∙ here)) (subst (λ i. Contains (row_of next a ++ b ∷ []) i) (sym f) (Contains-push (row_of next a) b))

    long : length new ≡ length wider
    long = ap (λ (l : List (List ℕ)). length l) is ∙ length-set wider a (row_of wider a ++ b ∷ [])

    within : AreWithin next → (c d : ℕ) → Contains (row_of next c) d ⊎ ((c ≡ a) × (d ≡ b)) → d < length new
    within all c d (inl q) = (let h = all c d q in let n = long in let m = v.longer in let m2 = v2.longer in omega arith)
    within all c d (inr q) = (let e = q.1 in let n = long in let m = v2.long in omega arith)

module _ {P : Type 0} (item : P → ℕ) (a : ℕ) where
  pub notes_none : (next : List (List ℕ)) → NotesAll item a [] next next
  notes_none next = record { moves = λ c d. (λ q. inl q, λ q. elim q [ inl old ↦ old | inr here ↦ absurd (let low = here.2.1 in omega arith) ]); within = λ all. all }

  pub notes_more : (to : List P) (k : ℕ) (p : P) (next mid new : List (List ℕ)) → k < length to → p ≡ get_or to k p → NotesAll item a (take k to) next mid → Notes a (item p) mid new → NotesAll item a (take (k + 1) to) next new
  notes_more to k p next mid new low at all one = record {
    moves = λ c d. (
      λ q. elim ((one.moves c d).0 q) [
        | inl old ↦ elim ((all.moves c d).0 old) [ inl o ↦ inl o | inr h ↦ inr (h.0, h.1, longer h.1 (inl h.2), h.3) ]
        | inr h ↦ inr (h.0, p, longer p (inr refl), sym h.1)
      ],
      λ q. (one.moves c d).1 (elim q [
        | inl old ↦ inl ((all.moves c d).1 (inl old))
        | inr h ↦ elim (shorter h.1 h.2) [ inl o ↦ inl ((all.moves c d).1 (inr (h.0, h.1, o, h.3))) | inr e ↦ inr (h.0, sym h.3 ∙ ap item (sym e)) ]
      ]),
    );
    within = λ w. one.within (all.within w);
  }
    where
      grown : take (k + 1) to ≡ take k to ++ p ∷ []
      grown = take_more to k p low ∙ ap (λ (q : P). take k to ++ q ∷ []) (sym at)

      longer : (y : P) → Contains (take k to) y ⊎ (p ≡ y) → Contains (take (k + 1) to) y
      longer y (inl c) = subst (λ (l : List P). Contains l y) (sym grown) (Contains-append_left (take k to) (p ∷ []) y c)
      longer y (inr e) = subst (λ (l : List P). Contains l y) (sym grown) (subst (λ (q : P). Contains (take k to ++ p ∷ []) q) e (Contains-push (take k to) p))

      shorter : (y : P) → Contains (take (k + 1) to) y → Contains (take k to) y ⊎ (p ≡ y)
      shorter y c = Contains-push_cases (take k to) p y (subst (λ (l : List P). Contains l y) grown c)

module _ {P : Type 0} (w : Ways P) (item : P → ℕ) (points : List P) (went : List Bool) where
  pub noted_none : (next : List (List ℕ)) → next ≡ [] → AreNoted w item points went 0 next
  noted_none next e = record {
    moves = λ c d. (λ q. absurd (nothing c d (subst (λ (l : List (List ℕ)). Contains (row_of l c) d) e q)), λ m. absurd (omega (arith, m.3)));
    within = λ c d q. absurd (nothing c d (subst (λ (l : List (List ℕ)). Contains (row_of l c) d) e q));
  }
    where
      nothing : (c d : ℕ) → Contains (row_of [] c) d → ⊥
      nothing c d q = let low = q.1 in omega arith

  pub noted_not : (k : ℕ) (next : List (List ℕ)) → slice_get went k ≡ Some false → AreNoted w item points went k next → AreNoted w item points went (k + 1) next
  noted_not k next off n = record {
    moves = λ c d. (
      λ q. (let m = (n.moves c d).0 q in (m.0, m.1, m.2, omega (arith, m.3), m.4, m.5, m.6, m.7, m.8)),
      λ m. (n.moves c d).1 (m.0, m.1, m.2, below m.0 m.3 m.5, m.4, m.5, m.6, m.7, m.8),
    );
    within = n.within;
  }
    where
      below : (j : ℕ) → j < k + 1 → slice_get went j ≡ Some true → j < k
      below j h on = elim (cases_lt j k) [ inl low ↦ low | inr high ↦ absurd (clash (let e : j ≡ k = omega arith in subst (λ i. slice_get went i ≡ Some true) e on)) ]
        where
          clash : slice_get went k ≡ Some true → ⊥
          clash on = cc

  module _ (k : ℕ) (x : P) (is : slice_get points k ≡ Some x) where
    pub noted_more : (next new : List (List ℕ)) → slice_get went k ≡ Some true → AreNoted w item points went k next → NotesAll item (item x) (w.graph.moves x) next new → AreNoted w item points went (k + 1) new
    noted_more next new on n all = record {
      moves = λ c d. (
        λ q. elim ((all.moves c d).0 q) [
          | inl old ↦ (let m = (n.moves c d).0 old in (m.0, m.1, m.2, omega (arith, m.3), m.4, m.5, m.6, m.7, m.8))
          | inr h ↦ (k, x, h.1, omega arith, is, on, h.2, sym h.0, h.3)
        ],
        λ m. (all.moves c d).1 (by c d m.0 m.1 m.2 m.3 m.4 m.5 m.6 m.7 m.8),
      );
      within = all.within n.within;
    }
      where
        by : (c d j : ℕ) (z y : P) → j < k + 1 → slice_get points j ≡ Some z → slice_get went j ≡ Some true → Contains (w.graph.moves z) y → item z ≡ c → item y ≡ d
            → Contains (row_of next c) d ⊎ ((c ≡ item x) × (q : P) × Contains (w.graph.moves x) q × (item q ≡ d))
        by c d j z y h at flag move leaves arrives = elim (cases_lt j k) [
          | inl low ↦ inl ((n.moves c d).1 (j, z, y, low, at, flag, move, leaves, arrives))
          | inr high ↦ inr (let e : j ≡ k = omega arith in let same = one z (subst (λ i. slice_get points i ≡ Some z) e at) in (sym leaves ∙ ap item same, y, subst (λ (q : P). Contains (w.graph.moves q) y) same move, arrives))
        ]
          where
            one : (z : P) → slice_get points k ≡ Some z → z ≡ x
            one z e = cc

  -- those that are noted of all that paths come to are the moves of paths
  pub steps_of : (next : List (List ℕ)) → IsReach w points → AreFlags w points (length points) went → AreNoted w item points went (length points) next → AreSteps w item next
  steps_of next reach flags n = record {
    steps = λ a b. (
      λ q. (let m = (n.moves a b).0 q in let goes = (flags.flags m.0 m.1 true m.4 m.5).0 refl in record { n = goes.0; from = m.1; to = m.2; reached = goes.1; goes_on = goes.2; move = m.6; leaves = m.7; arrives = m.8 }),
      λ s. (n.moves a b).1 (moved a b s),
    );
    within = n.within;
  }
    where
      moved : (a b : ℕ) → Step w item a b → Moves w item points went (length points) a b
      moved a b s =
          let c = reach.full s.n s.from s.reached in
          let at = slice_get_read points (length points) c.0 s.from refl c.1 (sym c.2) in
          let long = flags.long in
          let low = c.1 in
          let flag = slice_get_read went (length went) c.0 (get_or went c.0 false) refl (omega arith) (same went c.0 (omega arith)) in
          let on = (flags.flags c.0 s.from (get_or went c.0 false) at flag).1 (s.n, s.reached, s.goes_on) in
          (c.0, s.from, s.to, c.1, at, flag ∙ ap (λ b. Some b) on, s.move, s.leaves, s.arrives)
        where
          same : (l : List Bool) (k : ℕ) → k < length l → get_or l k false ≡ get_or l k (get_or l k false)
          same [] k low = absurd (omega arith)
          same (b ∷ l) zero low = refl
          same (b ∷ l) (suc k) low = same l k (omega arith)
