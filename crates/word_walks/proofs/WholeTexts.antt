-- What is spelt of a whole term.
use Rattle.std.proofs.Common.{◌≡◌, nat_lt, if◌then◌else◌, refl, ap, ◌∙◌}
use Rattle.tagged_words.specs.Seen.{whole, all_whole}
use Rattle.term_tree.specs.Text.{text_of}
use Rattle.term_tree.specs.Tree.{Tree, Trees, Int, Atom, Nil, Cons, Tuple, No, More}
use Rattle.word_walks.specs.Nodes.{nodes_of, nodes_of_all, WholeTermsAreSpelt}
use Rattle.word_walks.specs.Spelt.{Walked, one_node, then_walked, walked, all_walked, tree_in, trees_in, Large, spelling}
use Rattle.word_walks.specs.Waiting.{so_far}

mutual
  tree_whole : (x : Tree) → tree_in (whole x) ≡ x
  tree_whole (Int i) = refl
  tree_whole (Atom a) = refl
  tree_whole Nil = refl
  tree_whole (Cons head tail) = ap (λ h. Cons h (tree_in (whole tail))) (tree_whole head) ∙ ap (λ t. Cons head t) (tree_whole tail)
  tree_whole (Tuple ts) = ap Tuple (trees_whole ts)

  trees_whole : (xs : Trees) → trees_in (all_whole xs) ≡ xs
  trees_whole No = refl
  trees_whole (More x xs) = ap (λ y. More y (trees_in (all_whole xs))) (tree_whole x) ∙ ap (λ ys. More x ys) (trees_whole xs)

mutual
  walked_whole : (x : Tree) → walked (whole x) ≡ so_far (nodes_of x)
  walked_whole (Int i) = refl
  walked_whole (Atom a) = refl
  walked_whole Nil = refl
  walked_whole (Cons head tail) =
      ap (λ h. then_walked one_node (then_walked h (walked (whole tail)))) (walked_whole head) ∙ ap (λ t. then_walked one_node (then_walked (so_far (nodes_of head)) t)) (walked_whole tail)
  walked_whole (Tuple ts) = ap (λ a. then_walked one_node a) (all_walked_whole ts)

  all_walked_whole : (xs : Trees) → all_walked (all_whole xs) ≡ so_far (nodes_of_all xs)
  all_walked_whole No = refl
  all_walked_whole (More x xs) = ap (λ y. then_walked y (all_walked (all_whole xs))) (walked_whole x) ∙ ap (λ a. then_walked (so_far (nodes_of x)) a) (all_walked_whole xs)

pub whole_terms_are_spelt : WholeTermsAreSpelt
whole_terms_are_spelt budget x =
    ap (λ (w : Walked). if nat_lt budget w.nodes then Large else spelling (text_of (tree_in (whole x))) w.nodes w.bad) (walked_whole x)
    ∙ ap (λ (t : Tree). if nat_lt budget (nodes_of x) then Large else spelling (text_of t) (nodes_of x) (so_far (nodes_of x)).bad) (tree_whole x)
