-- Which trees are terms (Erlang reference manual, Data Types; docs/MACHINE.md, Words).
use Rattle.std.specs.Prelude.{ℕ, ◌≡◌, ◌≤◌, true}
use Rattle.term_tree.specs.Name.{is_name}
use Rattle.term_tree.specs.Size.{size_of}
use Rattle.term_tree.specs.Small.{IsSmall}
use Rattle.term_tree.specs.Tree.{Tree, Trees, Int, Atom, Nil, Cons, Tuple, No, More}

-- the most elements of a tuple: as many as the 26 bits of a header can say
abbrev pub most_elements : ℕ
most_elements = 67108863

-- at every depth: small integers, atoms that are names, tuples of a size that a header can say
abbrev mutual
  pub IsTerm : Tree → Type 0
  IsTerm (Int i) = IsSmall i
  IsTerm (Atom a) = is_name a ≡ true
  IsTerm Nil = Unit {0}
  IsTerm (Cons h t) = IsTerm h × IsTerm t
  IsTerm (Tuple ts) = (size_of ts ≤ most_elements) × AreTerms ts

  pub AreTerms : Trees → Type 0
  AreTerms No = Unit {0}
  AreTerms (More t ts) = IsTerm t × AreTerms ts
