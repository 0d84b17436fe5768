-- The order of terms (Erlang reference manual, Expressions, Term Comparisons).
use Rattle.std.specs.Prelude.{ℕ, List, ◌∷◌}
use Rattle.std.specs.declared.cmp.Ordering.{Ordering}
use Rattle.std.specs.declared.cmp.Ordering.TheVariants.{Equal}
use Rattle.std.specs.Ordering.{nat_cmp, int_cmp, ordering_then}
use Rattle.std.specs.Cmp.Lexicographic.{slice_cmp}
use Rattle.term_tree.specs.Tree.{Tree, Trees, Int, Atom, Nil, Cons, Tuple, More}
use Rattle.term_tree.specs.Size.{size_of}

-- the place of its kind: integers, atoms, tuples, `[]`, conses
abbrev pub rank : Tree → ℕ
rank (Int i) = 0
rank (Atom a) = 1
rank (Tuple ts) = 2
rank Nil = 3
rank (Cons h t) = 4

-- Integers go by value, atoms by text, tuples by size and then by elements from the left, conses
-- by heads and then by tails. The bytes of texts stand in the order of their code points.
abbrev mutual
  pub order : Tree → Tree → Ordering
  order (Int i) (Int j) = int_cmp i j
  order (Atom a) (Atom b) = slice_cmp nat_cmp a b
  order (Tuple ts) (Tuple us) = ordering_then (nat_cmp (size_of ts) (size_of us)) (order_all ts us)
  order Nil Nil = Equal
  order (Cons h t) (Cons x y) = ordering_then (order h x) (order t y)
  order a b = nat_cmp (rank a) (rank b)

  -- the elements of two tuples of one size, from the left
  pub order_all : Trees → Trees → Ordering
  order_all (More t ts) (More u us) = ordering_then (order t u) (order_all ts us)
  order_all ts us = Equal

-- the first difference of two rows of trees, as far as both reach
abbrev pub order_front : List Tree → List Tree → Ordering
order_front (t ∷ ts) (u ∷ us) = ordering_then (order t u) (order_front ts us)
order_front ts us = Equal
