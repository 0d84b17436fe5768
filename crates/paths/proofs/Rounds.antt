-- The rounds of a search: what holds before, in and after each, and that a round which brings nothing new is the last.
use Rattle.std.proofs.Common.{◌≡◌, ℕ, zero, suc, ◌+◌, ◌<◌, ◌⊎◌, inl, inr, Bool, true, false, ◌&&◌, not, refl, ap, sym, ◌∙◌, arith, subst, List, [], ◌∷◌, ◌++◌, take, length, get_or, append_assoc}
use Rattle.std.specs.List.{Contains, list_any}
use Rattle.std.proofs.lemmas.Bool.{cases_Bool}
use Rattle.std.proofs.lemmas.List.Elements.{Contains-append_left, Contains-push_cases}
use Rattle.std.proofs.lemmas.List.{take_more, append-nil}
use Rattle.std.proofs.Math.Seq.{take-append_seam, take-length}
use Rattle.paths.specs.Rules.{Ways, GoesOn, Reached}
use Rattle.paths.specs.Search.{IsFront, IsReach, goes_on_in, Round, Level}
use Rattle.paths.proofs.Reaching.{stable, reached_later}
use Rattle.paths.proofs.Tests.{any_found, none_in}

and_both : (a b : Bool) → (not a && not b) ≡ true → (a ≡ false) × (b ≡ false)
and_both true b t = cc
and_both false true t = cc
and_both false false t = (refl, refl)

module _ {P : Type 0} (w : Ways P) where
  pub goes_on_is : (xs : List P) (x : P) → goes_on_in w xs x ≡ true → GoesOn w (Contains xs) x
  goes_on_is xs x t =
      let h = and_both (w.breaks x) (list_any (λ y. w.apart y x) xs) t in
      record { fine = h.0; alone = λ y c. none_in (λ y. w.apart y x) xs y h.1 c }

  pub goes_on_not : (xs : List P) (x : P) → goes_on_in w xs x ≡ false → GoesOn w (Contains xs) x → ⊥
  goes_on_not xs x f g =
      elim (cases_Bool (list_any (λ y. w.apart y x) xs)) [
        | inl t ↦ (let r = any_found (λ y. w.apart y x) xs t in let a = g.alone r.0 r.1 in let b = r.2 in cc)
        | inr n ↦ (let e : (not (w.breaks x) && not (list_any (λ y. w.apart y x) xs)) ≡ true = ap (λ b. not b && not (list_any (λ y. w.apart y x) xs)) g.fine ∙ ap (λ b. not b) n in cc)
      ]

  pub round_start : (xs : List P) (k : ℕ) → Level w xs k → Round w xs k xs
  round_start xs k l = record { front = ([], sym (append-nil xs)); sound = λ y c. inl c; full = l.expanded }

  pub round_next : (xs ys zs : List P) (k : ℕ) (x : P) → Round w xs k ys → k < length xs → x ≡ get_or xs k x → IsFront ys zs
      → ((y : P) → Contains zs y → Contains ys y ⊎ (GoesOn w (Contains xs) x × Contains (w.graph.moves x) y))
      → (GoesOn w (Contains xs) x → (y : P) → Contains (w.graph.moves x) y → Contains zs y)
      → Round w xs (k + 1) zs
  round_next xs ys zs k x r h at f sound full =
      let sub : (y : P) → Contains ys y → Contains zs y = λ y c. subst (λ (l : List P). Contains l y) (sym f.1) (Contains-append_left ys f.0 y c) in
      record {
        front = (r.front.0 ++ f.0, f.1 ∙ (ap (λ (l : List P). l ++ f.0) r.front.1 ∙ append_assoc xs r.front.0 f.0));
        sound = λ y c. elim (sound y c) [
          | inl old ↦ r.sound y old
          | inr new ↦ inr (x, (k, h, sym at), new.0, new.1)
        ];
        full = λ z c g y m.
            elim (Contains-push_cases (take k xs) x z (subst (λ (l : List P). Contains l z) (take_more xs k x h ∙ ap (λ (q : P). take k xs ++ q ∷ []) (sym at)) c)) [
              | inl old ↦ sub y (r.full z old g y m)
              | inr e ↦ full (subst (λ (q : P). GoesOn w (Contains xs) q) (sym e) g) y (subst (λ (q : P). Contains (w.graph.moves q) y) (sym e) m)
            ];
      }

  pub level_next : (xs ys : List P) (k : ℕ) → Level w xs k → Round w xs (length xs) ys → Level w ys (length xs)
  level_next xs ys k l r =
      let sub : (y : P) → Contains xs y → Contains ys y = λ y c. subst (λ (l : List P). Contains l y) (sym r.front.1) (Contains-append_left xs r.front.0 y c) in
      let all : take (length xs) xs ≡ xs = take-length xs in
      let front : take (length xs) ys ≡ xs = ap (λ (q : List P). take (length xs) q) r.front.1 ∙ take-append_seam xs r.front.0 in
      record {
        n = suc l.n;
        here = λ y c. elim (r.sound y c) [
          | inl old ↦ inl (l.here y old)
          | inr new ↦ inr (new.0, l.here new.0 new.1, record { fine = new.2.fine; alone = λ z q. new.2.alone z (l.there z q) }, new.3)
        ];
        there = λ y q. elim q [
          | inl old ↦ sub y (l.there y old)
          | inr new ↦ r.full new.0 (subst (λ (q : List P). Contains q new.0) (sym all) (l.there new.0 new.1)) (record { fine = new.2.fine; alone = λ z c. new.2.alone z (l.here z c) }) y new.3
        ];
        expanded = λ x c g y m.
            r.full x (subst (λ (q : List P). Contains q x) (front ∙ sym all) c) (record { fine = g.fine; alone = λ z c. g.alone z (sub z c) }) y m;
      }

  pub level_done : (xs : List P) → Level w xs (length xs) → IsReach w xs
  level_done xs l =
      let all : take (length xs) xs ≡ xs = take-length xs in
      let still : (y : P) → Reached w (suc l.n) y → Reached w l.n y = λ y q. elim q [
        | inl old ↦ old
        | inr new ↦ l.here y (l.expanded new.0 (subst (λ (q : List P). Contains q new.0) (sym all) (l.there new.0 new.1)) (record { fine = new.2.fine; alone = λ z c. new.2.alone z (l.here z c) }) y new.3)
      ] in
      record {
        sound = λ y c. (l.n, l.here y c);
        full = λ n y q. l.there y (stable w l.n still n y (reached_later w n (n + l.n) y (omega arith) q));
      }

  pub level_start : Level w (w.graph.start ∷ []) 0
  level_start =
      record {
        n = 0;
        here = λ y c. elim (Contains-push_cases [] w.graph.start y c) [ inl h ↦ absurd (omega (arith, h.1)) | inr e ↦ sym e ];
        there = λ y q. (zero, omega arith, sym q);
        expanded = λ x c g y m. absurd (omega (arith, c.1));
      }
