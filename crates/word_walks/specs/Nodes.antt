-- How many nodes a term has: each cons, each tuple and each immediate is one, the end of a list too.
use Rattle.std.specs.Prelude.{ℕ, ◌≡◌, ◌+◌, nat_lt, if◌then◌else◌}
use Rattle.tagged_words.specs.Seen.{whole}
use Rattle.term_tree.specs.Text.{text_of}
use Rattle.term_tree.specs.Tree.{Tree, Trees, Int, Atom, Nil, Cons, Tuple, No, More}
use Rattle.word_walks.specs.Spelt.{Large, Text, spelt}

abbrev mutual
  pub nodes_of : Tree → ℕ
  nodes_of (Int i) = 1
  nodes_of (Atom a) = 1
  nodes_of Nil = 1
  nodes_of (Cons head tail) = 1 + (nodes_of head + nodes_of tail)
  nodes_of (Tuple ts) = 1 + nodes_of_all ts

  pub nodes_of_all : Trees → ℕ
  nodes_of_all No = 0
  nodes_of_all (More t ts) = nodes_of t + nodes_of_all ts

-- a term in which no word is bad is spelt whole where the budget has its nodes, and never in part
abbrev pub WholeTermsAreSpelt : Type 0
WholeTermsAreSpelt = (budget : ℕ) (x : Tree) → spelt budget (whole x) ≡ (if nat_lt budget (nodes_of x) then Large else Text (text_of x) (nodes_of x))
