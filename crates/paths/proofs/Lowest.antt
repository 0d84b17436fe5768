-- The lowest item where a rule is broken.
use Rattle.std.proofs.Common.{◌≡◌, ℕ, zero, ◌+◌, ◌≤◌, ◌⊎◌, inl, inr, Bool, true, false, ◌||◌, if◌then◌else◌, refl, ap, sym, ◌∙◌, arith, subst, List, [], ◌∷◌, Option, Some, None, nat_lt}
use Rattle.std.specs.List.{Contains, list_any}
use Rattle.std.proofs.lemmas.Bool.{cases_Bool, cases_lt}
use Rattle.std.proofs.lemmas.Bool.Decides.{nat_tests}
use Rattle.std.proofs.lemmas.List.Folds.{list_any_at}
use Rattle.paths.specs.Rules.{Ways, Broken, Says}
use Rattle.paths.specs.Search.{IsReach, broken_in, smaller, least_of}
use Rattle.paths.proofs.Reaching.{reached_later}
use Rattle.paths.proofs.Tests.{any_found, first_or_later, later}

module _ {P : Type 0} (bad : P → Bool) (item : P → ℕ) where
  pub record Least (best : Option ℕ) (xs : List P) (said : Option ℕ) : Type 0 where
    pub none : said ≡ None → (best ≡ None) × ((x : P) → Contains xs x → bad x ≡ true → ⊥)
    pub some : (i : ℕ) → said ≡ Some i → ((best ≡ Some i) ⊎ ((x : P) × Contains xs x × (bad x ≡ true) × (item x ≡ i))) × ((b : ℕ) → best ≡ Some b → i ≤ b) × ((x : P) → Contains xs x → bad x ≡ true → i ≤ item x)

  some_is : (a b : ℕ) → Some a ≡ Some b → a ≡ b
  some_is a b e = cc

  -- what the smaller of two is
  smaller_is : (best : Option ℕ) (n : ℕ) → (m : ℕ) × (smaller best n ≡ Some m) × ((best ≡ Some m) ⊎ (n ≡ m)) × (m ≤ n) × ((b : ℕ) → best ≡ Some b → m ≤ b)
  smaller_is None n = (n, refl, inr refl, omega arith, λ b e. cc)
  smaller_is (Some c) n =
      elim (cases_lt n c) [
        | inl h ↦ (n, (let t : nat_lt n c ≡ true = grind (arith, nat_tests) in ap (λ q. if q then Some n else Some c) t), inr refl, omega arith, λ b e. (let s = some_is c b e in omega arith))
        | inr h ↦ (c, (let t : nat_lt n c ≡ false = grind (arith, nat_tests) in ap (λ q. if q then Some n else Some c) t), inl refl, h, λ b e. (let s = some_is c b e in omega arith))
      ]

  pub least_is : (best : Option ℕ) (xs : List P) → Least best xs (least_of bad item best xs)
  least_is best [] = record { none = λ e. (e, λ x c. absurd (omega (arith, c.1))); some = λ i e. (inl e, λ b f. (let s : i ≡ b = cc in omega arith), λ x c. absurd (omega (arith, c.1))) }
  least_is best (x ∷ xs) =
      elim (cases_Bool (bad x)) [
        | inr f ↦
            (let r : Least best xs (least_of bad item best xs) = least_is best xs in
            subst (λ (o : Option ℕ). Least best (x ∷ xs) o) (sym (ap (λ q. least_of bad item (if q then smaller best (item x) else best) xs) f))
            (record {
              none = λ e. ((r.none e).0, λ y c t. elim (first_or_later x xs y c) [ inl s ↦ (let t' : bad x ≡ true = ap bad s ∙ t in cc) | inr d ↦ (r.none e).1 y d t ]);
              some = λ i e. (let q = r.some i e in (
                elim q.0 [ inl s ↦ inl s | inr s ↦ inr (s.0, later x xs s.0 s.1, s.2, s.3) ],
                q.1,
                λ y c t. elim (first_or_later x xs y c) [ inl s ↦ absurd (let t' : bad x ≡ true = ap bad s ∙ t in no_both (bad x) t' f) | inr d ↦ q.2 y d t ],
              ));
            }))
        | inl t ↦
            (let m = smaller_is best (item x) in
            let r : Least (Some m.0) xs (least_of bad item (Some m.0) xs) = least_is (Some m.0) xs in
            subst (λ (o : Option ℕ). Least best (x ∷ xs) o) (sym (ap (λ q. least_of bad item (if q then smaller best (item x) else best) xs) t ∙ ap (λ (o : Option ℕ). least_of bad item o xs) m.1))
            (record {
              none = λ e. absurd (no_some m.0 (r.none e).0);
              some = λ i e. (let q = r.some i e in (
                elim q.0 [
                  | inl s ↦ (let k = some_is m.0 i s in elim m.2 [ inl b ↦ inl (b ∙ s) | inr n ↦ inr (x, (zero, omega arith, refl), t, n ∙ k) ])
                  | inr s ↦ inr (s.0, later x xs s.0 s.1, s.2, s.3)
                ],
                λ b f. (let l = m.4 b f in let l2 = q.1 m.0 refl in omega arith),
                λ y c u. elim (first_or_later x xs y c) [ inl s ↦ (let l = m.3 in let l2 = q.1 m.0 refl in let k = ap item s in omega arith) | inr d ↦ q.2 y d u ],
              ));
            }))
      ]
    where
      no_both : (b : Bool) → b ≡ true → b ≡ false → ⊥
      no_both b t f = cc

      no_some : (a : ℕ) → Some a ≡ None → ⊥
      no_some a e = cc

module _ {P : Type 0} (w : Ways P) (item : P → ℕ) where
  broken_of : (xs : List P) → IsReach w xs → (y : P) → Contains xs y → broken_in w xs y ≡ true → Broken w y
  broken_of xs r y c t =
      let n = r.sound y c in
      elim (cases_Bool (w.breaks y)) [
        | inl b ↦ record { n = n.0; reached = n.1; why = inl b }
        | inr f ↦
            let a = any_found (λ x. w.splits x y) xs (sym (ap (λ q. q || list_any (λ x. w.splits x y) xs) f) ∙ t) in
            let m = r.sound a.0 a.1 in
            record { n = m.0 + n.0; reached = reached_later w n.0 (m.0 + n.0) y (omega arith) n.1; why = inr (a.0, reached_later w m.0 (m.0 + n.0) a.0 (omega arith) m.1, a.2) }
      ]

  in_of : (xs : List P) → IsReach w xs → (y : P) → Broken w y → Contains xs y × (broken_in w xs y ≡ true)
  in_of xs r y b = (
    r.full b.n y b.reached,
    elim b.why [
      | inl t ↦ ap (λ q. q || list_any (λ x. w.splits x y) xs) t
      | inr t ↦ (let c = r.full b.n t.0 t.1 in or_right (w.breaks y) (list_any (λ x. w.splits x y) xs) (list_any_at (λ x. w.splits x y) xs c.0 t.0 c.1 (ap (λ x. w.splits x y) c.2 ∙ t.2)))
    ],
  )
    where
      or_right : (p q : Bool) → q ≡ true → (p || q) ≡ true
      or_right true q h = refl
      or_right false q h = h

  pub says : (xs : List P) → IsReach w xs → Says w item (least_of (broken_in w xs) item None xs)
  says xs r =
      let l = least_is (broken_in w xs) item None xs in
      record {
        none = λ e y b. (let i = in_of xs r y b in (l.none e).1 y i.0 i.1);
        some = λ i e. (let q = l.some i e in (
          elim q.0 [ inl s ↦ absurd (no_none i s) | inr s ↦ (s.0, broken_of xs r s.0 s.1 s.2, s.3) ],
          λ y b. (let c = in_of xs r y b in q.2 y c.0 c.1),
        ));
      }
    where
      no_none : (a : ℕ) → None ≡ Some a → ⊥
      no_none a e = cc
