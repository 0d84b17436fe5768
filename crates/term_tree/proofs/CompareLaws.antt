-- The order of the trees of two terms, by what the terms are made of.
use Rattle.std.proofs.Common.{◌≡◌, ℕ, ◌<◌, ◌≤◌, true, false, not, List, [], ◌∷◌, map, length, Option, Some, None, refl, sym, ap, ◌∙◌, nat_eq, cond, suc, min, drop, length-drop, arith}
use Rattle.std.specs.List.{list_all}
use Rattle.std.specs.declared.cmp.Ordering.{Ordering}
use Rattle.std.specs.declared.cmp.Ordering.TheVariants.{Less, Equal, Greater}
use Rattle.std.specs.Ordering.{nat_cmp, ordering_then}
use Rattle.std.proofs.lemmas.Bool.Decides.{nat_tests}
use Rattle.std.proofs.lemmas.List.{length-map}
use Rattle.term_tree.specs.declared.term.Term as t
use Rattle.term_tree.specs.declared.term.Term.{Term}
use Rattle.term_tree.specs.Tree as u
use Rattle.term_tree.specs.Tree.{Tree, Trees, conses, trees_of}
use Rattle.term_tree.specs.Size.{size_of}
use Rattle.term_tree.specs.Order.{order, order_all, order_front, rank}
use Rattle.term_tree.specs.Term.{tree_of, is_canonical, is_list, is_end, end_tree}
use Rattle.term_tree.proofs.OrderLaws.{rank_less, rank_more}
use Rattle.term_tree.proofs.TermLaws.{tree_of-Int, tree_of-Atom, tree_of-Tuple, tree_of-proper, tree_of-improper, canonical-proper, improper_parts, canonical-Tuple, is_list-List, term_ind, both_hold, not_true}

-- ---- conses and tuples

-- the order behind two fronts of these lengths
abbrev pub behind : ℕ → ℕ → Ordering → Ordering
behind m n o = cond (nat_eq m n) o (nat_cmp m n)

behind-suc : (m n : ℕ) (o : Ordering) → behind (suc m) (suc n) o ≡ behind m n o
behind-suc m n o = grind (arith, nat_tests)

behind_more : (n : ℕ) (o : Ordering) → behind 0 (suc n) o ≡ Less
behind_more n o = grind (arith, nat_tests)

behind_less : (n : ℕ) (o : Ordering) → behind (suc n) 0 o ≡ Greater
behind_less n o = grind (arith, nat_tests)

then_then : (p q r : Ordering) → ordering_then p (ordering_then q r) ≡ ordering_then (ordering_then p q) r
then_then Less q r = refl
then_then Equal q r = refl
then_then Greater q r = refl

pub order-conses : (xs ys : List Tree) (e f : Tree) → rank e < 4 → rank f < 4 → order (conses xs e) (conses ys f) ≡ ordering_then (order_front xs ys) (behind (length xs) (length ys) (order e f))
order-conses [] [] e f h l = refl
order-conses [] (y ∷ ys) e f h l = rank_less e (u.Cons y (conses ys f)) h ∙ sym (behind_more (length ys) (order e f))
order-conses (x ∷ xs) [] e f h l = rank_more (u.Cons x (conses xs e)) f l ∙ sym (behind_less (length xs) (order e f))
order-conses (x ∷ xs) (y ∷ ys) e f h l =
    ap (ordering_then (order x y)) (order-conses xs ys e f h l ∙ ap (ordering_then (order_front xs ys)) (sym (behind-suc (length xs) (length ys) (order e f)))) ∙ then_then (order x y) (order_front xs ys) _

pub size-trees_of : (ts : List Tree) → size_of (trees_of ts) ≡ length ts
size-trees_of [] = refl
size-trees_of (x ∷ ts) = omega (arith, size-trees_of ts)

pub order-trees_of : (ts us : List Tree) → order_all (trees_of ts) (trees_of us) ≡ order_front ts us
order-trees_of [] us = refl
order-trees_of (x ∷ ts) [] = refl
order-trees_of (x ∷ ts) (y ∷ us) = ap (ordering_then (order x y)) (order-trees_of ts us)

-- ---- terms

pub order-tuples : (xs ys : List Term) → order (tree_of (t.Tuple xs)) (tree_of (t.Tuple ys)) ≡ ordering_then (nat_cmp (length xs) (length ys)) (order_front (map tree_of xs) (map tree_of ys))
order-tuples xs ys =
    let left = tree_of-Tuple xs in
    let right = tree_of-Tuple ys in
    let m = size-trees_of (map tree_of xs) ∙ length-map xs tree_of in
    let n = size-trees_of (map tree_of ys) ∙ length-map ys tree_of in
    rw (left, right, m, n, order-trees_of (map tree_of xs) (map tree_of ys)) refl

-- what is no list stands before the lists
StandsFirst : Term → Type 0
StandsFirst x = is_list x ≡ false → rank (tree_of x) < 3

no_list_rank : (x : Term) → StandsFirst x
unfolding StandsFirst
no_list_rank = term_ind StandsFirst
    (λ i h. omega (arith, ap rank (tree_of-Int i)))
    (λ a h. omega (arith, ap rank (tree_of-Atom a)))
    (λ all h. let e = is_list-List (map (λ e. e.0) all) None in absurd (cc))
    (λ all x p h. let e = is_list-List (map (λ e. e.0) all) (Some x) in absurd (cc))
    (λ all h. omega (arith, ap rank (tree_of-Tuple (map (λ e. e.0) all))))

pub first_rank : (x : Term) → is_list x ≡ false → rank (tree_of x) < 3
unfolding StandsFirst
first_rank x h = no_list_rank x h

pub end_rank : (end : Option Term) → is_end end ≡ true → rank (end_tree end) < 4
end_rank None h = omega arith
end_rank (Some x) h =
    let parts = both_hold (is_canonical x) (not (is_list x)) h in
    let first = first_rank x (not_true (is_list x) parts.1) in
    omega arith

pub tree_of-List : (xs : List Term) (end : Option Term) → tree_of (t.List xs end) ≡ conses (map tree_of xs) (end_tree end)
tree_of-List xs None = tree_of-proper xs
tree_of-List xs (Some e) = tree_of-improper xs e

pub order-lists : (xs ys : List Term) (e f : Option Term) → is_end e ≡ true → is_end f ≡ true
    → order (tree_of (t.List xs e)) (tree_of (t.List ys f)) ≡ ordering_then (order_front (map tree_of xs) (map tree_of ys)) (behind (length xs) (length ys) (order (end_tree e) (end_tree f)))
order-lists xs ys e f h l =
    let left = tree_of-List xs e in
    let right = tree_of-List ys f in
    let m = length-map xs tree_of in
    let n = length-map ys tree_of in
    rw (left, right) (order-conses (map tree_of xs) (map tree_of ys) (end_tree e) (end_tree f) (end_rank e h) (end_rank f l) ∙ rw (m, n) refl)

-- a list stands behind integers, atoms and tuples
pub list_rank : (all : List Term) (end : Option Term) → is_canonical (t.List all end) ≡ true → 2 < rank (tree_of (t.List all end))
list_rank [] None h = omega (arith, ap rank (tree_of-proper []))
list_rank (x ∷ xs) None h = omega (arith, ap rank (tree_of-proper (x ∷ xs)))
list_rank [] (Some e) h = absurd (omega (arith, (improper_parts [] e h).some))
list_rank (x ∷ xs) (Some e) h = omega (arith, ap rank (tree_of-improper (x ∷ xs) e))

pub before_list : (a : Tree) (all : List Term) (end : Option Term) → is_canonical (t.List all end) ≡ true → rank a < 3 → order a (tree_of (t.List all end)) ≡ Less
before_list a all end h l = rank_less a (tree_of (t.List all end)) (omega (arith, list_rank all end h))

pub after_list : (a : Tree) (all : List Term) (end : Option Term) → is_canonical (t.List all end) ≡ true → rank a < 3 → order (tree_of (t.List all end)) a ≡ Greater
after_list a all end h l = rank_more (tree_of (t.List all end)) a (omega (arith, list_rank all end h))

pub canonical_front : (all : List Term) (end : Option Term) → is_canonical (t.List all end) ≡ true → list_all is_canonical all ≡ true
canonical_front all None h = sym (canonical-proper all) ∙ h
canonical_front all (Some e) h = (improper_parts all e h).front

pub canonical_end : (all : List Term) (end : Option Term) → is_canonical (t.List all end) ≡ true → is_end end ≡ true
canonical_end all None h = refl
canonical_end all (Some e) h = let i = improper_parts all e h in rw (i.tail, i.no_list) refl

pub then_unequal : (p q : Ordering) → (p ≡ Equal → ⊥) → ordering_then p q ≡ p
then_unequal Less q n = refl
then_unequal Equal q n = absurd (n refl)
then_unequal Greater q n = refl

pub behind_same : (m n : ℕ) (o : Ordering) → nat_cmp m n ≡ Equal → behind m n o ≡ o
behind_same m n o h = grind (arith, nat_tests)

pub behind_unequal : (m n : ℕ) (o : Ordering) → (nat_cmp m n ≡ Equal → ⊥) → behind m n o ≡ nat_cmp m n
behind_unequal m n o h = grind (arith, nat_tests)

pub canonical_items : (all : List Term) → is_canonical (t.Tuple all) ≡ true → list_all is_canonical all ≡ true
canonical_items all h = sym (canonical-Tuple all) ∙ h

nothing_shared : (xs ys : List Tree) → min (length xs) (length ys) ≡ 0 → order_front xs ys ≡ Equal
nothing_shared [] ys h = refl
nothing_shared (x ∷ xs) [] h = refl
nothing_shared (x ∷ xs) (y ∷ ys) h = absurd (omega arith)

pub front_ends : (xs ys : List Term) (i : ℕ) → min (length xs) (length ys) ≤ i → order_front (map tree_of (drop i xs)) (map tree_of (drop i ys)) ≡ Equal
front_ends xs ys i h = nothing_shared (map tree_of (drop i xs)) (map tree_of (drop i ys))
    (rw (length-map (drop i xs) tree_of, length-map (drop i ys) tree_of) (omega (arith, length-drop i xs, length-drop i ys)))
