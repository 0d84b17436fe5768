-- Tables that have the atoms of terms (docs/MACHINE.md, Words).
use Rattle.std.specs.Prelude.{ℕ, ◌≡◌, true, List}
use Rattle.tagged_words.specs.Atoms.{is_among}
use Rattle.term_tree.specs.Tree as t

-- each atom of a term is in a table
abbrev mutual
  pub IsNamed : List (List ℕ) → t.Tree → Type 0
  IsNamed table (t.Int i) = Unit {0}
  IsNamed table (t.Atom a) = is_among a table ≡ true
  IsNamed table t.Nil = Unit {0}
  IsNamed table (t.Cons head tail) = IsNamed table head × IsNamed table tail
  IsNamed table (t.Tuple vs) = AreNamed table vs

  pub AreNamed : List (List ℕ) → t.Trees → Type 0
  AreNamed table t.No = Unit {0}
  AreNamed table (t.More v vs) = IsNamed table v × AreNamed table vs
