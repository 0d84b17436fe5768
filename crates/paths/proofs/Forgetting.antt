-- Paths that carry less reach the same points, and the rule is broken at the same ones.
use Rattle.std.proofs.Common.{◌≡◌, ℕ, zero, suc, ◌≤◌, inl, inr, refl, ap, sym, ◌∙◌, subst, List, Option}
use Rattle.std.specs.List.{Contains}
use Rattle.paths.specs.Rules.{Ways, GoesOn, Reached, Broken, Holds, Says, Forgets}
use Rattle.paths.proofs.Tests.{Contains-map, Contains-from_map}

module _ {P Q : Type 0} (w : Ways P) (v : Ways Q) (less : P → Q) (On : P → Type 0) (fg : Forgets w v less On) where
  pub record Alike (n : ℕ) : Type 0 where
    pub on : (x : P) → Reached w n x → On x
    pub down : (x : P) → Reached w n x → Reached v n (less x)
    pub up : (z : Q) → Reached v n z → (x : P) × Reached w n x × (less x ≡ z)

  alone_down : (n : ℕ) → Alike n → (x : P) → On x → GoesOn w (Reached w n) x → GoesOn v (Reached v n) (less x)
  alone_down n a x o g =
      record {
        fine = fg.breaks x o ∙ g.fine;
        alone = λ z r. (let y = a.up z r in ap (λ q. v.apart q (less x)) (sym y.2) ∙ (fg.apart y.0 x (a.on y.0 y.1) o ∙ g.alone y.0 y.1));
      }

  alone_up : (n : ℕ) → Alike n → (x : P) → On x → GoesOn v (Reached v n) (less x) → GoesOn w (Reached w n) x
  alone_up n a x o g = record { fine = sym (fg.breaks x o) ∙ g.fine; alone = λ y r. sym (fg.apart y x (a.on y r) o) ∙ g.alone (less y) (a.down y r) }

  pub alike : (n : ℕ) → Alike n
  alike zero = record { on = λ x r. subst (λ y. On y) (sym r) fg.on_start; down = λ x r. ap less r ∙ fg.start; up = λ z r. (w.graph.start, refl, fg.start ∙ sym r) }
  alike (suc n) =
      let a = alike n in
      record {
        on = λ y r. elim r [ inl s ↦ a.on y s | inr s ↦ fg.on_move s.0 y (a.on s.0 s.1) s.3 ];
        down = λ y r. elim r [
          | inl s ↦ inl (a.down y s)
          | inr s ↦ (let o = a.on s.0 s.1 in inr (less s.0, a.down s.0 s.1, alone_down n a s.0 o s.2, subst (λ (l : List Q). Contains l (less y)) (sym (fg.moves s.0 o)) (Contains-map less (w.graph.moves s.0) y s.3)))
        ];
        up = λ z r. elim r [
          | inl s ↦ (let x = a.up z s in (x.0, inl x.1, x.2))
          | inr s ↦
              let x = a.up s.0 s.1 in
              let o = a.on x.0 x.1 in
              let g = subst (λ q. GoesOn v (Reached v n) q) (sym x.2) s.2 in
              let m = Contains-from_map less (w.graph.moves x.0) z (subst (λ (l : List Q). Contains l z) (fg.moves x.0 o) (subst (λ q. Contains (v.graph.moves q) z) (sym x.2) s.3)) in
              (m.0, inr (x.0, x.1, alone_up n a x.0 o g, m.1), m.2)
        ];
      }

  pub broken_down : (y : P) → Broken w y → Broken v (less y)
  broken_down y b =
      let a = alike b.n in
      record {
        n = b.n;
        reached = a.down y b.reached;
        why = elim b.why [ inl t ↦ inl (fg.breaks y (a.on y b.reached) ∙ t) | inr t ↦ inr (less t.0, a.down t.0 t.1, fg.splits t.0 y (a.on t.0 t.1) (a.on y b.reached) ∙ t.2) ];
      }

  pub broken_up : (z : Q) → Broken v z → (y : P) × Broken w y × (less y ≡ z)
  broken_up z b =
      let a = alike b.n in
      let y = a.up z b.reached in (
        y.0,
        record {
          n = b.n;
          reached = y.1;
          why = elim b.why [
            | inl t ↦ inl (sym (fg.breaks y.0 (a.on y.0 y.1)) ∙ (ap (λ q. v.breaks q) y.2 ∙ t))
            | inr t ↦ (let x = a.up t.0 t.1 in inr (x.0, x.1, sym (fg.splits x.0 y.0 (a.on x.0 x.1) (a.on y.0 y.1)) ∙ (ap (λ q. v.splits q (less y.0)) x.2 ∙ (ap (λ q. v.splits t.0 q) y.2 ∙ t.2))))
          ];
        },
        y.2,
      )

  pub holds_down : Holds w → Holds v
  holds_down h z b = let y = broken_up z b in h y.0 y.1

  pub holds_up : Holds v → Holds w
  holds_up h y b = h (less y) (broken_down y b)

  -- and what is said of the one is said of the other
  pub says_up : (item : P → ℕ) (of : Q → ℕ) → ((x : P) → of (less x) ≡ item x) → (said : Option ℕ) → Says v of said → Says w item said
  says_up item of same said s =
      record {
        none = λ e. holds_up (s.none e);
        some = λ i e. (let q = s.some i e in let y = broken_up q.0.0 q.0.1 in (
          (y.0, y.1, sym (same y.0) ∙ (ap of y.2 ∙ q.0.2)),
          λ x b. subst (λ k. i ≤ k) (same x) (q.1 (less x) (broken_down x b)),
        ));
      }
