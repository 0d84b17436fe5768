-- The atoms of terms are in the table that they were added to.
use Rattle.std.proofs.Common.{◌≡◌, ℕ, true, List, [], ◌∷◌}
use Rattle.laid_terms.proofs.Tables.{still_with, there_with}
use Rattle.laid_terms.specs.Named.{IsNamed, AreNamed}
use Rattle.std.specs.List.{AllByRecursion}
use Rattle.tagged_words.specs.Atoms.{is_among}
use Rattle.tagged_words.specs.Laid.{with_atoms, with_all_atoms, with_atoms_of}
use Rattle.term_tree.specs.Tree as t

-- a table has the names of another one
abbrev pub Has : List (List ℕ) → List (List ℕ) → Type 0
Has table more = (a : List ℕ) → is_among a table ≡ true → is_among a more ≡ true

mutual
  grows : (table : List (List ℕ)) (v : t.Tree) → Has table (with_atoms table v)
  grows table (t.Int i) a here = here
  grows table (t.Atom b) a here = still_with table b a here
  grows table t.Nil a here = here
  grows table (t.Cons head tail) a here = grows (with_atoms table head) tail a (grows table head a here)
  grows table (t.Tuple vs) a here = all_grow table vs a here

  all_grow : (table : List (List ℕ)) (vs : t.Trees) → Has table (with_all_atoms table vs)
  all_grow table t.No a here = here
  all_grow table (t.More v vs) a here = all_grow (with_atoms table v) vs a (grows table v a here)

pub of_grows : (table : List (List ℕ)) (vs : List t.Tree) → Has table (with_atoms_of table vs)
of_grows table [] a here = here
of_grows table (v ∷ vs) a here = of_grows (with_atoms table v) vs a (grows table v a here)

mutual
  still : (table more : List (List ℕ)) → Has table more → (v : t.Tree) → IsNamed table v → IsNamed more v
  still table more has (t.Int i) is = tt
  still table more has (t.Atom a) is = has a is
  still table more has t.Nil is = tt
  still table more has (t.Cons head tail) is = (still table more has head is.0, still table more has tail is.1)
  still table more has (t.Tuple vs) is = all_still table more has vs is

  all_still : (table more : List (List ℕ)) → Has table more → (vs : t.Trees) → AreNamed table vs → AreNamed more vs
  all_still table more has t.No is = tt
  all_still table more has (t.More v vs) is = (still table more has v is.0, all_still table more has vs is.1)

mutual
  named : (table : List (List ℕ)) (v : t.Tree) → IsNamed (with_atoms table v) v
  named table (t.Int i) = tt
  named table (t.Atom a) = there_with table a
  named table t.Nil = tt
  named table (t.Cons head tail) =
      (still (with_atoms table head) (with_atoms (with_atoms table head) tail) (grows (with_atoms table head) tail) head (named table head), named (with_atoms table head) tail)
  named table (t.Tuple vs) = all_named table vs

  all_named : (table : List (List ℕ)) (vs : t.Trees) → AreNamed (with_all_atoms table vs) vs
  all_named table t.No = tt
  all_named table (t.More v vs) =
      (still (with_atoms table v) (with_all_atoms (with_atoms table v) vs) (all_grow (with_atoms table v) vs) v (named table v), all_named (with_atoms table v) vs)

pub of_named : (table : List (List ℕ)) (vs : List t.Tree) → AllByRecursion (IsNamed (with_atoms_of table vs)) vs
of_named table [] = tt
of_named table (v ∷ vs) = (
  still (with_atoms table v) (with_atoms_of (with_atoms table v) vs) (of_grows (with_atoms table v) vs) v (named table v),
  of_named (with_atoms table v) vs,
)
