-- The literals among mentions of the code, and which trees can be laid with these names.
use Rattle.std.specs.Prelude.{ℕ, List}
use Rattle.ir_code.specs.declared.mentioning.Mention as code
use Rattle.ir_code.specs.Mentions.{literals_of}
use Rattle.ir_code.specs.Shown.{shown}
use Rattle.laid_terms.specs.Named.{IsNamed}
use Rattle.term_tree.specs.IsTerm.{IsTerm}
use Rattle.term_tree.specs.Tree.{Tree}

abbrev pub literals_in : List code.Mention → List Tree
literals_in all = literals_of (shown all)

-- a term whose atoms are in a table
pub record CanStand (names : List (List ℕ)) (v : Tree) : Type 0 where
  pub term : IsTerm v
  pub named : IsNamed names v
