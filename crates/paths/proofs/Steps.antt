-- Paths that carry less make the same moves from item to item.
use Rattle.std.proofs.Common.{◌≡◌, ℕ, zero, suc, ◌↔◌, ap, sym, ◌∙◌, subst, List}
use Rattle.std.specs.List.{Contains}
use Rattle.paths.specs.Rules.{Ways, GoesOn, Reached, Step, Leads, Forgets}
use Rattle.paths.proofs.Forgetting.{alike}
use Rattle.paths.proofs.Tests.{Contains-map, Contains-from_map}

module _ {P Q : Type 0} (w : Ways P) (v : Ways Q) (less : P → Q) (On : P → Type 0) (fg : Forgets w v less On) (item : P → ℕ) (of : Q → ℕ) (same : (x : P) → of (less x) ≡ item x) where
  pub step_down : (a b : ℕ) → Step w item a b → Step v of a b
  step_down a b s =
      let alike = alike w v less On fg s.n in
      let on = alike.on s.from s.reached in
      record {
        n = s.n;
        from = less s.from;
        to = less s.to;
        reached = alike.down s.from s.reached;
        goes_on = record {
          fine = fg.breaks s.from on ∙ s.goes_on.fine;
          alone = λ z r. (let y = alike.up z r in ap (λ q. v.apart q (less s.from)) (sym y.2) ∙ (fg.apart y.0 s.from (alike.on y.0 y.1) on ∙ s.goes_on.alone y.0 y.1));
        };
        move = subst (λ (l : List Q). Contains l (less s.to)) (sym (fg.moves s.from on)) (Contains-map less (w.graph.moves s.from) s.to s.move);
        leaves = same s.from ∙ s.leaves;
        arrives = same s.to ∙ s.arrives;
      }

  pub step_up : (a b : ℕ) → Step v of a b → Step w item a b
  step_up a b s =
      let alike = alike w v less On fg s.n in
      let x = alike.up s.from s.reached in
      let on = alike.on x.0 x.1 in
      let goes_on = subst (λ q. GoesOn v (Reached v s.n) q) (sym x.2) s.goes_on in
      let move = subst (λ q. Contains (v.graph.moves q) s.to) (sym x.2) s.move in
      let y = Contains-from_map less (w.graph.moves x.0) s.to (subst (λ (l : List Q). Contains l s.to) (fg.moves x.0 on) move) in
      record {
        n = s.n;
        from = x.0;
        to = y.0;
        reached = x.1;
        goes_on = record {
          fine = sym (fg.breaks x.0 on) ∙ goes_on.fine;
          alone = λ z r. sym (fg.apart z x.0 (alike.on z r) on) ∙ goes_on.alone (less z) (alike.down z r);
        };
        move = y.1;
        leaves = sym (same x.0) ∙ (ap of x.2 ∙ s.leaves);
        arrives = sym (same y.0) ∙ (ap of y.2 ∙ s.arrives);
      }

  -- so they lead from an item to the same ones
  pub leads_same : (n a b : ℕ) → Leads w item n a b ↔ Leads v of n a b
  leads_same zero a b = (step_down a b, step_up a b)
  leads_same (suc n) a b = (
    λ l. (l.0, (leads_same n a l.0).0 l.1, step_down l.0 b l.2),
    λ l. (l.0, (leads_same n a l.0).1 l.1, step_up l.0 b l.2),
  )
