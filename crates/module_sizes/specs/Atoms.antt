-- How many atoms a term has, each as often as it stands there (Erlang reference manual, Data Types).
use Rattle.std.specs.Prelude.{ℕ, ◌+◌}
use Rattle.term_tree.specs.Tree.{Tree, Trees, Int, Atom, Nil, Cons, Tuple, No, More}

abbrev mutual
  pub atoms_of : Tree → ℕ
  atoms_of (Int i) = 0
  atoms_of (Atom a) = 1
  atoms_of Nil = 0
  atoms_of (Cons h t) = atoms_of h + atoms_of t
  atoms_of (Tuple ts) = atoms_of_all ts

  pub atoms_of_all : Trees → ℕ
  atoms_of_all No = 0
  atoms_of_all (More t ts) = atoms_of t + atoms_of_all ts
