-- Paths by rounds and paths as lists come to the same points.
use Rattle.std.proofs.Common.{◌≡◌, ℕ, zero, suc, ◌≤◌, ◌↔◌, ◌⊎◌, inl, inr, refl, ap, sym, ◌∙◌, arith, subst, List, [], ◌∷◌, length, map}
use Rattle.std.specs.List.{Contains}
use Rattle.std.proofs.Math.Nat.{eq-or-lt_of_le}
use Rattle.paths.specs.Rules.{Ways, GoesOn, Reached, Broken}
use Rattle.path_rules.specs.Points.{item_of}
use Rattle.path_rules.specs.Rules.{ways}
use Rattle.path_lists.specs.Lists.{IsPath, IsBrokenBy}
use Rattle.path_lists.specs.Laws.{IsPathOf, PathsAreLists, RulesAreOfPaths}

module _ {P : Type 0} (w : Ways P) where
  -- a path has at most so many moves, and is one of its own number
  own : (n : ℕ) (ps : List P) (y : P) → IsPath w n ps y → (length ps ≤ n) × IsPath w (length ps) ps y
  own zero ps y p =
      let none : length ps ≡ 0 = ap (λ (l : List P). length l) p.0 in
      (omega (arith, none), subst (λ k. IsPath w k ps y) (sym none) p)
  own (suc n) ps y (inl p) = let o = own n ps y p in (let low = o.0 in omega (arith, low), o.1)
  own (suc n) ps y (inr p) =
      let long : length ps ≡ suc n = ap (λ (l : List P). length l) p.2 ∙ ap suc p.3 in
      (omega (arith, long), subst (λ k. IsPath w k ps y) (sym long) (inr p))

  -- and one of each greater number
  more : (n m : ℕ) (ps : List P) (y : P) → m ≤ n → IsPath w m ps y → IsPath w n ps y
  more zero m ps y low p = let e : m ≡ 0 = omega (arith, low) in subst (λ k. IsPath w k ps y) e p
  more (suc n) m ps y low p =
      elim (eq-or-lt_of_le low) [
        | inl e ↦ subst (λ k. IsPath w k ps y) e p
        | inr lt ↦ inl (more n m ps y (omega (arith, lt)) p)
      ]

  record Same (n : ℕ) : Type 0 where
    to : (y : P) → Reached w n y → (ps : List P) × IsPath w n ps y
    from : (ps : List P) (y : P) → IsPath w n ps y → Reached w n y

  one_more : (n : ℕ) → Same n → (x y : P) → Reached w n x → GoesOn w (Reached w n) x → Contains (w.graph.moves x) y → (ps : List P) × IsPath w (suc n) ps y
  one_more n s x y r g move =
      let q = s.to x r in
      let o = own n q.0 x q.1 in (
        x ∷ q.0,
        more (suc n) (suc (length q.0)) (x ∷ q.0) y (let low = o.0 in omega (arith, low))
            (inr (x, q.0, refl, refl, o.1, g.fine, (λ others z p. g.alone z (s.from others z (more n (length q.0) others z o.0 p))), move)),
      )

  same : (n : ℕ) → Same n
  same zero = record { to = λ y r. ([], (refl, r)); from = λ ps y p. p.1 }
  same (suc n) =
      let s = same n in
      record {
        to = λ y r. elim r [ inl q ↦ (let p = s.to y q in (p.0, inl p.1)) | inr q ↦ one_more n s q.0 y q.1 q.2 q.3 ];
        from = λ ps y p. elim p [
          | inl q ↦ inl (s.from ps y q)
          | inr q ↦ inr (q.0, s.from q.1 q.0 q.4, record { fine = q.5; alone = λ z r. (let o = s.to z r in q.6 o.0 z o.1) }, q.7)
        ];
      }

  to_paths : (y : P) → Broken w y → IsBrokenBy w y
  to_paths y b =
      let s = same b.n in
      let p = s.to y b.reached in
      record {
        n = b.n;
        passed = p.0;
        path = p.1;
        why = elim b.why [ inl t ↦ inl t | inr t ↦ (let o = s.to t.0 t.1 in inr (o.0, t.0, o.1, t.2)) ];
      }

  from_paths : (y : P) → IsBrokenBy w y → Broken w y
  from_paths y b =
      let s = same b.n in
      record {
        n = b.n;
        reached = s.from b.passed y b.path;
        why = elim b.why [ inl t ↦ inl t | inr t ↦ inr (t.1, s.from t.0 t.1 t.2, t.3) ];
      }

pub paths_are_lists : PathsAreLists
paths_are_lists = λ ms f rule n y. (
  (λ r. (let p = (same (ways ms f rule) n).to y r in (item_of y ∷ map item_of p.0, record { passed = p.0; path = p.1; items_are = refl }))),
  (λ p. (same (ways ms f rule) n).from p.1.passed y p.1.path),
)

pub rules_are_of_paths : RulesAreOfPaths
rules_are_of_paths = λ ms f rule y. (to_paths (ways ms f rule) y, from_paths (ways ms f rule) y)
