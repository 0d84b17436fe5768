-- How many words of memory a term takes (docs/MACHINE.md, Words).
use Rattle.std.specs.Prelude.{ℕ, ◌+◌}
use Rattle.term_tree.specs.Tree.{Tree, Trees, Int, Atom, Nil, Cons, Tuple, No, More}

-- how many elements a tuple has
abbrev pub size_of : Trees → ℕ
size_of No = 0
size_of (More t ts) = 1 + size_of ts

-- the words of the cells of a term: two for a cons, a header and the elements for a tuple
abbrev mutual
  pub words_of : Tree → ℕ
  words_of (Int i) = 0
  words_of (Atom a) = 0
  words_of Nil = 0
  words_of (Cons h t) = 2 + words_of h + words_of t
  words_of (Tuple ts) = 1 + size_of ts + words_of_all ts

  pub words_of_all : Trees → ℕ
  words_of_all No = 0
  words_of_all (More t ts) = words_of t + words_of_all ts
