-- The weight of a term: twice its atoms, and its words. A byte of a text bears a weight of two.
use Rattle.std.proofs.Common.{◌≡◌, ℕ, ℤ, ◌+◌, ◌*◌, ◌≤◌, List, [], ◌∷◌, ◌++◌, map, length, Some, None, ap, ◌∙◌, arith, length-append}
use Rattle.std.specs.List.{sum_by}
use Rattle.std.proofs.lemmas.List.Sums.{sum_by-append, sum_by-cons}
use denote.Hole.Carrier.{roll}
use Rattle.term_tree.specs.declared.term.Term as t
use Rattle.term_tree.specs.declared.term.Term.{Term, out-Term, roll-Term, roll-out-Term}
use Rattle.term_tree.specs.declared.term.Term.TheOpen.{Term-F}
use Rattle.term_tree.specs.Size.{size_of, words_of, words_of_all}
use Rattle.term_tree.specs.Term.{tree_of}
use Rattle.term_tree.specs.Tree as u
use Rattle.term_tree.proofs.TermLaws.{tree_of-Int, tree_of-Atom, tree_of-proper, tree_of-improper, tree_of-Tuple}
use Rattle.text_forms.specs.Spelling.{with_layer, with_tail}
use Rattle.module_sizes.specs.Atoms.{atoms_of, atoms_of_all}

-- three counts under one: the second and the first count twice
pub sums_within : {A : Type 0} (a b c d : A → ℕ) → ((x : A) → 2 * (a x + b x) + c x ≤ d x) → (xs : List A) →
    2 * (sum_by a xs + sum_by b xs) + sum_by c xs ≤ sum_by d xs
sums_within a b c d each [] = omega arith
sums_within a b c d each (x ∷ xs) =
    let one = each x in
    let rest = sums_within a b c d each xs in
    omega (arith, one, rest, sum_by-cons a x xs, sum_by-cons b x xs, sum_by-cons c x xs, sum_by-cons d x xs)

abbrev pub tree_weight : u.Tree → ℕ
tree_weight x = 2 * atoms_of x + words_of x

abbrev pub weight : Term → ℕ
weight x = tree_weight (tree_of x)

abbrev pub weights : List Term → ℕ
weights xs = sum_by weight xs

pub weight-Int : (i : ℤ) → weight (t.Int i) ≡ 0
weight-Int i = ap tree_weight (tree_of-Int i)

pub weight-Atom : (a : List ℕ) → weight (t.Atom a) ≡ 2
weight-Atom a = ap tree_weight (tree_of-Atom a)

conses_weight : (xs : List Term) (end : u.Tree) → tree_weight (u.conses (map tree_of xs) end) ≡ 2 * length xs + weights xs + tree_weight end
conses_weight [] end = omega arith
conses_weight (x ∷ xs) end = let rest = conses_weight xs end in omega (arith, rest, sum_by-cons weight x xs)

pub weight-proper : (xs : List Term) → weight (t.List xs None) ≡ 2 * length xs + weights xs
weight-proper xs =
    let e : weight (t.List xs None) ≡ tree_weight (u.conses (map tree_of xs) u.Nil) = ap tree_weight (tree_of-proper xs) in
    omega (arith, e, conses_weight xs u.Nil)

pub weight-improper : (xs : List Term) (end : Term) → weight (t.List xs (Some end)) ≡ 2 * length xs + weights xs + weight end
weight-improper xs end = ap tree_weight (tree_of-improper xs end) ∙ conses_weight xs (tree_of end)

trees_weight : (xs : List Term) →
    2 * atoms_of_all (u.trees_of (map tree_of xs)) + words_of_all (u.trees_of (map tree_of xs)) + size_of (u.trees_of (map tree_of xs)) ≡ length xs + weights xs
trees_weight [] = omega arith
trees_weight (x ∷ xs) = let rest = trees_weight xs in omega (arith, rest, sum_by-cons weight x xs)

pub weight-Tuple : (xs : List Term) → weight (t.Tuple xs) ≡ 1 + length xs + weights xs
weight-Tuple xs =
    let e : weight (t.Tuple xs) ≡ tree_weight (u.Tuple (u.trees_of (map tree_of xs))) = ap tree_weight (tree_of-Tuple xs) in
    omega (arith, e, trees_weight xs)

-- a list whose tail is a list is one longer list, and as heavy
layer_weight : (items : List Term) (last : Term) (y : Term-F Term) → weight (roll-Term y) ≡ weight last →
    weight (with_layer items last y) ≡ 2 * length items + weights items + weight last
unfolding roll-Term roll
layer_weight items last (Term-F.List more None) e =
    let same : weight (t.List more None) ≡ weight last = e in
    omega (arith, same, weight-proper more, weight-proper (items ++ more), length-append items more, sum_by-append weight items more)
layer_weight items last (Term-F.List more (Some end)) e =
    let same : weight (t.List more (Some end)) ≡ weight last = e in
    omega (arith, same, weight-improper more end, weight-improper (items ++ more) end, length-append items more, sum_by-append weight items more)
layer_weight items last other e = weight-improper items last

pub weight-with_tail : (items : List Term) (last : Term) → weight (with_tail items last) ≡ 2 * length items + weights items + weight last
weight-with_tail items last = layer_weight items last (out-Term last) (ap weight (roll-out-Term last))
