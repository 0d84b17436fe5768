-- Which terms can be laid (docs/MACHINE.md, Words).
use Rattle.std.specs.Prelude.{ℕ, List}
use Rattle.laid_terms.specs.Named.{IsNamed}
use Rattle.term_tree.specs.declared.term.Term.{Term}
use Rattle.term_tree.specs.IsTerm.{IsTerm}
use Rattle.term_tree.specs.Term.{tree_of}
use Rattle.term_tree.specs.Tree.{Tree}

-- a term whose atoms are in a table
pub record IsFitting (names : List (List ℕ)) (v : Tree) : Type 0 where
  pub term : IsTerm v
  pub named : IsNamed names v

-- the same of a term of the code
abbrev pub Fits : List (List ℕ) → Term → Type 0
Fits names x = IsFitting names (tree_of x)
