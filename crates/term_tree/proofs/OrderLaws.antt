-- The order of terms is total, and Equal only on equal trees.
use Rattle.std.proofs.Common.{◌≡◌, ℕ, ◌≤◌, ◌<◌, refl, ap, sym, ◌∙◌, arith}
use Rattle.std.specs.declared.cmp.Ordering.{Ordering}
use Rattle.std.specs.declared.cmp.Ordering.TheVariants.{Less, Equal, Greater}
use Rattle.std.specs.Ordering.{nat_cmp, ordering_then, ordering_reverse}
use Rattle.std.specs.Cmp.{IsTotalOrder}
use Rattle.std.proofs.lemmas.Cmp.{nat_cmp_total, int_cmp_total, nat_list_cmp_total}
use Rattle.std.proofs.lemmas.Map.Lookups.{exact_unsigned, exact_signed, exact_bytes}
use Rattle.std.proofs.lemmas.Bool.Decides.{nat_tests}
use Rattle.term_tree.specs.Tree.{Tree, Trees, Int, Atom, Nil, Cons, Tuple, No, More}
use Rattle.term_tree.specs.Size.{size_of}
use Rattle.term_tree.specs.Order.{order, order_all, rank}

-- ---- orderings one after the other

pub then_equal : (p q : Ordering) → ordering_then p q ≡ Equal → (p ≡ Equal) × (q ≡ Equal)
then_equal Less q e = absurd (cc)
then_equal Equal q e = (refl, e)
then_equal Greater q e = absurd (cc)

pub then_reverse : (p q : Ordering) → ordering_reverse (ordering_then p q) ≡ ordering_then (ordering_reverse p) (ordering_reverse q)
then_reverse Less q = refl
then_reverse Equal q = refl
then_reverse Greater q = refl

-- two steps that are Less make one, where the first parts and then the second ones do
then_less : (p q r s u v : Ordering) → (p ≡ Equal → u ≡ r) → (r ≡ Equal → u ≡ p) → (p ≡ Less → r ≡ Less → u ≡ Less) → (p ≡ Equal → r ≡ Equal → q ≡ Less → s ≡ Less → v ≡ Less)
    → ordering_then p q ≡ Less → ordering_then r s ≡ Less → ordering_then u v ≡ Less
then_less Greater q r s u v a b c d h l = absurd (cc)
then_less p q Greater s u v a b c d h l = absurd (cc)
then_less Less q Less s u v a b c d h l = rw (c refl refl) refl
then_less Less q Equal s u v a b c d h l = rw (b refl) refl
then_less Equal q Less s u v a b c d h l = rw (a refl) refl
then_less Equal q Equal s u v a b c d h l = rw (a refl) (d refl refl h l)

-- ---- equal only on equal trees

mutual
  pub order-equal : (a b : Tree) → order a b ≡ Equal → a ≡ b
  order-equal (Int i) (Int j) e = ap Int (exact_signed i j e)
  order-equal (Atom a) (Atom b) e = ap Atom (exact_bytes a b e)
  order-equal (Tuple ts) (Tuple us) e =
      let both = then_equal (nat_cmp (size_of ts) (size_of us)) (order_all ts us) e in
      ap Tuple (order_all-equal ts us (exact_unsigned (size_of ts) (size_of us) both.0) both.1)
  order-equal Nil Nil e = refl
  order-equal (Cons h t) (Cons x y) e =
      let both = then_equal (order h x) (order t y) e in
      let heads = order-equal h x both.0 in
      let tails = order-equal t y both.1 in
      cc
  order-equal a b e = absurd (cc)

  order_all-equal : (ts us : Trees) → size_of ts ≡ size_of us → order_all ts us ≡ Equal → ts ≡ us
  order_all-equal No No n e = refl
  order_all-equal No (More u us) n e = absurd (omega arith)
  order_all-equal (More t ts) No n e = absurd (omega arith)
  order_all-equal (More t ts) (More u us) n e =
      let both = then_equal (order t u) (order_all ts us) e in
      let first = order-equal t u both.0 in
      let others = order_all-equal ts us (omega arith) both.1 in
      cc

-- ---- the other way round

mutual
  pub order-reverse : (a b : Tree) → order a b ≡ ordering_reverse (order b a)
  order-reverse (Int i) (Int j) = int_cmp_total.antisymm i j
  order-reverse (Atom a) (Atom b) = nat_list_cmp_total.antisymm a b
  order-reverse (Tuple ts) (Tuple us) =
      let sizes = nat_cmp_total.antisymm (size_of ts) (size_of us) in
      let others = order_all-reverse ts us in
      cc (then_reverse (nat_cmp (size_of us) (size_of ts)) (order_all us ts))
  order-reverse Nil Nil = refl
  order-reverse (Cons h t) (Cons x y) =
      let heads = order-reverse h x in
      let tails = order-reverse t y in
      cc (then_reverse (order x h) (order y t))
  order-reverse a b = refl

  order_all-reverse : (ts us : Trees) → order_all ts us ≡ ordering_reverse (order_all us ts)
  order_all-reverse No No = refl
  order_all-reverse (More t ts) (More u us) =
      let first = order-reverse t u in
      let others = order_all-reverse ts us in
      cc (then_reverse (order u t) (order_all us ts))
  order_all-reverse ts us = refl

-- ---- one after the other

less_upto : (m n : ℕ) → nat_cmp m n ≡ Less → m ≤ n
less_upto m n h = grind (arith, nat_tests)

less_cmp : (m n : ℕ) → m < n → nat_cmp m n ≡ Less
less_cmp m n h = grind (arith, nat_tests)

rank_upto : (a b : Tree) → order a b ≡ Less → rank a ≤ rank b
rank_upto (Int i) (Int j) h = omega arith
rank_upto (Atom a) (Atom b) h = omega arith
rank_upto (Tuple ts) (Tuple us) h = omega arith
rank_upto Nil Nil h = omega arith
rank_upto (Cons h t) (Cons x y) l = omega arith
rank_upto a b h = less_upto (rank a) (rank b) h

pub rank_less : (a b : Tree) → rank a < rank b → order a b ≡ Less
rank_less (Int i) (Int j) h = absurd (omega arith)
rank_less (Atom a) (Atom b) h = absurd (omega arith)
rank_less (Tuple ts) (Tuple us) h = absurd (omega arith)
rank_less Nil Nil h = absurd (omega arith)
rank_less (Cons h t) (Cons x y) l = absurd (omega arith)
rank_less a b h = less_cmp (rank a) (rank b) h

pub rank_more : (a b : Tree) → rank b < rank a → order a b ≡ Greater
rank_more a b h = order-reverse a b ∙ ap ordering_reverse (rank_less b a h)

mutual
  pub order-trans : (a b c : Tree) → order a b ≡ Less → order b c ≡ Less → order a c ≡ Less
  order-trans (Int i) (Int j) (Int k) h l = int_cmp_total.trans i j k h l
  order-trans (Atom i) (Atom j) (Atom k) h l = nat_list_cmp_total.trans i j k h l
  order-trans (Tuple ts) (Tuple us) (Tuple vs) h l =
      then_less (nat_cmp (size_of ts) (size_of us)) (order_all ts us) (nat_cmp (size_of us) (size_of vs)) (order_all us vs) (nat_cmp (size_of ts) (size_of vs)) (order_all ts vs)
      (λ e. ap (λ n. nat_cmp n (size_of vs)) (exact_unsigned (size_of ts) (size_of us) e))
      (λ e. ap (λ n. nat_cmp (size_of ts) n) (sym (exact_unsigned (size_of us) (size_of vs) e)))
      (nat_cmp_total.trans (size_of ts) (size_of us) (size_of vs))
      (λ e f. order_all-trans ts us vs (exact_unsigned (size_of ts) (size_of us) e) (exact_unsigned (size_of us) (size_of vs) f))
      h l
  order-trans Nil Nil Nil h l = absurd (cc)
  order-trans (Cons a b) (Cons c d) (Cons e f) h l =
      then_less (order a c) (order b d) (order c e) (order d f) (order a e) (order b f)
      (λ q. ap (λ t. order t e) (order-equal a c q))
      (λ q. ap (λ t. order a t) (sym (order-equal c e q)))
      (order-trans a c e)
      (λ q r. order-trans b d f)
      h l
  order-trans a b c h l = rank_less a c (omega (arith, rank_upto a b h, rank_upto b c l))

  order_all-trans : (ts us vs : Trees) → size_of ts ≡ size_of us → size_of us ≡ size_of vs → order_all ts us ≡ Less → order_all us vs ≡ Less → order_all ts vs ≡ Less
  order_all-trans (More a b) (More c d) (More e f) m n h l =
      then_less (order a c) (order_all b d) (order c e) (order_all d f) (order a e) (order_all b f)
      (λ q. ap (λ t. order t e) (order-equal a c q))
      (λ q. ap (λ t. order a t) (sym (order-equal c e q)))
      (order-trans a c e)
      (λ q r. order_all-trans b d f (omega arith) (omega arith))
      h l
  order_all-trans No us vs m n h l = absurd (cc)
  order_all-trans (More a b) No vs m n h l = absurd (omega arith)
  order_all-trans (More a b) (More c d) No m n h l = absurd (omega arith)

pub order_total : IsTotalOrder order
order_total = record { antisymm = order-reverse; trans = order-trans; congr = λ a b c e. ap (λ t. order t c) (order-equal a b e) }
