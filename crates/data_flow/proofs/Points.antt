-- Points that are the same.
use Rattle.std.proofs.Common.{◌≡◌, ℕ, Bool, true, false, ◌&&◌, ap, ◌∙◌, refl, sym, arith, nat_eq}
use Rattle.std.proofs.lemmas.Bool.Decides.{nat_tests}
use Rattle.data_flow.specs.declared.flow.Point.{Point}
use Rattle.data_flow.specs.declared.names.Names.{Names}
use Rattle.data_flow.specs.Names.{same}
use Rattle.data_flow.specs.Flow.{same_point}
use Rattle.data_flow.proofs.Sets.{same_is, same_self}

both : (p q : Bool) → (p && q) ≡ true → (p ≡ true) × (q ≡ true)
both true q h = (refl, h)
both false q h = absurd cc

equal : (m n : ℕ) → nat_eq m n ≡ true → m ≡ n
equal m n t = grind (arith, nat_tests)

equal_self : (n : ℕ) → nat_eq n n ≡ true
equal_self n = grind (arith, nat_tests)

pub same_point_is : (p q : Point) → same_point p q ≡ true → p ≡ q
same_point_is p q t =
    let a = both (nat_eq p.item q.item && same p.names q.names) (nat_eq p.count q.count) t in
    let b = both (nat_eq p.item q.item) (same p.names q.names) a.0 in
    ap (λ i. of i p.names p.count) (equal p.item q.item b.0) ∙ (ap (λ n. of q.item n p.count) (same_is p.names q.names b.1) ∙ ap (λ c. of q.item q.names c) (equal p.count q.count a.1))
  where
    of : ℕ → Names → ℕ → Point
    of item names count = record { item = item; names = names; count = count }

pub same_point_self : (p : Point) → same_point p p ≡ true
same_point_self p = ap (λ b. b && same p.names p.names && nat_eq p.count p.count) (equal_self p.item) ∙ (ap (λ b. b && nat_eq p.count p.count) (same_self p.names) ∙ equal_self p.count)

pub other_point : (p q : Point) → same_point p q ≡ false → p ≡ q → ⊥
other_point p q f e = no_both (same_point p q) (ap (same_point p) (sym e) ∙ same_point_self p) f
  where
    no_both : (b : Bool) → b ≡ true → b ≡ false → ⊥
    no_both b t f = cc
