-- Canonical terms with one tree are one term.
use Rattle.std.proofs.Common.{◌≡◌, ◌<◌, true, List, [], ◌∷◌, ◌++◌, map, length, Option, Some, None, refl, sym, ap, ◌∙◌, append-nil, arith}
use Rattle.std.specs.List.{list_all}
use Rattle.term_tree.specs.declared.term.Term as t
use Rattle.term_tree.specs.declared.term.Term.{Term}
use Rattle.term_tree.specs.Tree.{Tree, Trees, Int, Atom, Nil, Cons, Tuple, No, More, conses, trees_of}
use Rattle.term_tree.specs.Order.{rank}
use Rattle.term_tree.specs.Term.{tree_of, is_canonical}
use Rattle.term_tree.proofs.TermLaws.{tree_of-Int, tree_of-Atom, tree_of-Tuple, tree_of-proper, tree_of-improper, canonical-proper, improper_parts, canonical-Tuple, term_ind, both_hold}
use Rattle.term_tree.proofs.CompareLaws.{first_rank}

-- what a tree is as a list: elements, and what stands behind them
record Parts : Type 0 where
  front : List Term
  end : Option Term

-- the canonical term of a tree
abbrev mutual
  term_of : Tree → Term
  term_of (Int i) = t.Int i
  term_of (Atom a) = t.Atom a
  term_of Nil = t.List [] None
  term_of (Cons h r) = t.List (term_of h ∷ (parts_of r).front) (parts_of r).end
  term_of (Tuple ts) = t.Tuple (terms_of ts)

  parts_of : Tree → Parts
  parts_of (Int i) = record { front = []; end = Some (t.Int i) }
  parts_of (Atom a) = record { front = []; end = Some (t.Atom a) }
  parts_of Nil = record { front = []; end = None }
  parts_of (Cons h r) = record { front = term_of h ∷ (parts_of r).front; end = (parts_of r).end }
  parts_of (Tuple ts) = record { front = []; end = Some (t.Tuple (terms_of ts)) }

  terms_of : Trees → List Term
  terms_of No = []
  terms_of (More x ts) = term_of x ∷ terms_of ts

parts-end : (e : Tree) → rank e < 3 → parts_of e ≡ record { front = []; end = Some (term_of e) }
parts-end (Int i) h = refl
parts-end (Atom a) h = refl
parts-end Nil h = absurd (omega arith)
parts-end (Cons x r) h = absurd (omega arith)
parts-end (Tuple ts) h = refl

parts-conses : (ts : List Tree) (e : Tree) → parts_of (conses ts e) ≡ record { front = map term_of ts ++ (parts_of e).front; end = (parts_of e).end }
parts-conses [] e = refl
parts-conses (x ∷ ts) e = ap (λ p. record { front = term_of x ∷ p.front; end = p.end }) (parts-conses ts e)

terms-trees_of : (ts : List Tree) → terms_of (trees_of ts) ≡ map term_of ts
terms-trees_of [] = refl
terms-trees_of (x ∷ ts) = ap (λ xs. term_of x ∷ xs) (terms-trees_of ts)

abbrev list_of : Parts → Term
list_of p = t.List p.front p.end

term-conses : (ts : List Tree) (e : Tree) → 0 < length ts → term_of (conses ts e) ≡ list_of (parts_of (conses ts e))
term-conses [] e h = absurd (omega arith)
term-conses (x ∷ ts) e h = refl

IsBack : Term → Type 0
IsBack x = is_canonical x ≡ true → term_of (tree_of x) ≡ x

abbrev bare : List ((x : Term) × IsBack x) → List Term
bare all = map (λ e. e.0) all

all_back : (all : List ((x : Term) × IsBack x)) → list_all is_canonical (bare all) ≡ true → map term_of (map tree_of (bare all)) ≡ bare all
unfolding IsBack
all_back [] h = refl
all_back (e ∷ all) h =
    let both = both_hold (is_canonical e.0) (list_all is_canonical (bare all)) h in
    let first = e.1 both.0 in
    let others = all_back all both.1 in
    cc

list_back : (x : (x : Term) × IsBack x) (all : List ((x : Term) × IsBack x)) (e : Tree) (end : Option Term) → list_all is_canonical (bare (x ∷ all)) ≡ true → parts_of e ≡ record { front = []; end = end }
    → term_of (conses (map tree_of (bare (x ∷ all))) e) ≡ t.List (bare (x ∷ all)) end
list_back x all e end h q =
    term-conses (map tree_of (bare (x ∷ all))) e (omega arith)
    ∙ ap list_of (parts-conses (map tree_of (bare (x ∷ all))) e)
    ∙ ap (λ p. t.List (map term_of (map tree_of (bare (x ∷ all))) ++ p.front) p.end) q
    ∙ ap (λ xs. t.List xs end) (append-nil (map term_of (map tree_of (bare (x ∷ all)))) ∙ all_back (x ∷ all) h)

proper_back : (all : List ((x : Term) × IsBack x)) → IsBack (t.List (bare all) None)
unfolding IsBack
proper_back [] h = ap term_of (tree_of-proper [])
proper_back (e ∷ all) h = ap term_of (tree_of-proper (bare (e ∷ all))) ∙ list_back e all Nil None (sym (canonical-proper (bare (e ∷ all))) ∙ h) refl

improper_back : (all : List ((x : Term) × IsBack x)) (x : Term) → IsBack x → IsBack (t.List (bare all) (Some x))
unfolding IsBack
improper_back [] x p h = absurd (omega (arith, (improper_parts [] x h).some))
improper_back (e ∷ all) x p h =
    let i = improper_parts (bare (e ∷ all)) x h in
    ap term_of (tree_of-improper (bare (e ∷ all)) x)
    ∙ list_back e all (tree_of x) (Some x) i.front (parts-end (tree_of x) (first_rank x i.no_list) ∙ ap (λ y. record { front = []; end = Some y }) (p i.tail))

tuple_back : (all : List ((x : Term) × IsBack x)) → IsBack (t.Tuple (bare all))
unfolding IsBack
tuple_back all h = ap term_of (tree_of-Tuple (bare all)) ∙ ap t.Tuple (terms-trees_of (map tree_of (bare all)) ∙ all_back all (sym (canonical-Tuple (bare all)) ∙ h))

back : (x : Term) → IsBack x
unfolding IsBack
back = term_ind IsBack (λ i h. ap term_of (tree_of-Int i)) (λ a h. ap term_of (tree_of-Atom a)) proper_back improper_back tuple_back

pub one_term : (x y : Term) → is_canonical x ≡ true → is_canonical y ≡ true → tree_of x ≡ tree_of y → x ≡ y
unfolding IsBack
one_term x y h l e = sym (back x h) ∙ ap term_of e ∙ back y l
