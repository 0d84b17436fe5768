-- The text of what is seen from a word, within a number of nodes (docs/TEXT.md).
use Rattle.std.specs.Prelude.{ℕ, ◌+◌, List, Option, Some, None, is_none, nat_lt, if◌then◌else◌}
use Rattle.term_tree.specs.Text.{text_of}
use Rattle.term_tree.specs.Tree as t
use Rattle.tagged_words.specs.Seen.{Seen, AllSeen, Int, Atom, Nil, Cons, Tuple, Bad, No, More}

-- what a walk comes by, from the root, heads and elements from left to right: the nodes before the first word that
-- stands for no term, and that word; a cons, a tuple and each immediate is a node
pub record Walked : Type 0 where
  pub nodes : ℕ
  pub bad : Option ℕ

abbrev pub one_node : Walked
one_node = record { nodes = 1; bad = None }

-- a walk goes on unless it met such a word
abbrev pub then_walked : Walked → Walked → Walked
then_walked first next = if is_none first.bad then record { nodes = first.nodes + next.nodes; bad = next.bad } else first

abbrev mutual
  pub walked : Seen → Walked
  walked (Int i) = one_node
  walked (Atom a) = one_node
  walked Nil = one_node
  walked (Cons head tail) = then_walked one_node (then_walked (walked head) (walked tail))
  walked (Tuple vs) = then_walked one_node (all_walked vs)
  walked (Bad w) = record { nodes = 0; bad = Some w }

  pub all_walked : AllSeen → Walked
  all_walked No = record { nodes = 0; bad = None }
  all_walked (More v vs) = then_walked (walked v) (all_walked vs)

-- the term that is seen; it means nothing where a word stands for none
abbrev mutual
  pub tree_in : Seen → t.Tree
  tree_in (Int i) = t.Int i
  tree_in (Atom a) = t.Atom a
  tree_in Nil = t.Nil
  tree_in (Cons head tail) = t.Cons (tree_in head) (tree_in tail)
  tree_in (Tuple vs) = t.Tuple (trees_in vs)
  tree_in (Bad w) = t.Nil

  pub trees_in : AllSeen → t.Trees
  trees_in No = t.No
  trees_in (More v vs) = t.More (tree_in v) (trees_in vs)

-- the text and its nodes; or more nodes than the budget are come by before a word that stands for no term; or such a word
pub data Spelling : Type 0 where
  Text : List ℕ → ℕ → Spelling
  Large : Spelling
  Meets : ℕ → Spelling

abbrev pub spelling : List ℕ → ℕ → Option ℕ → Spelling
spelling text nodes None = Text text nodes
spelling text nodes (Some w) = Meets w

abbrev pub spelt : ℕ → Seen → Spelling
spelt budget v = let all : Walked = walked v in if nat_lt budget all.nodes then Large else spelling (text_of (tree_in v)) all.nodes all.bad
