-- What is found of two whole terms is their order.
use Rattle.std.proofs.Common.{◌≡◌, ◌+◌, refl, ap}
use Rattle.std.specs.declared.cmp.Ordering.{Ordering}
use Rattle.std.specs.declared.cmp.Ordering.TheVariants.{Less, Equal, Greater}
use Rattle.std.specs.Ordering.{nat_cmp, ordering_then}
use Rattle.tagged_words.specs.Seen.{seen_size, whole, all_whole}
use Rattle.term_tree.specs.Order.{order, order_all}
use Rattle.term_tree.specs.Size.{size_of}
use Rattle.term_tree.specs.Tree.{Tree, Trees, Int, Atom, Nil, Cons, Tuple, No, More}
use Rattle.word_walks.specs.Compared.{Is, then_found, compared, all_compared}

then_is : (o p : Ordering) → then_found (Is o) (Is p) ≡ Is (ordering_then o p)
then_is Less p = refl
then_is Equal p = refl
then_is Greater p = refl

whole_size : (xs : Trees) → seen_size (all_whole xs) ≡ size_of xs
whole_size No = refl
whole_size (More x xs) = ap (λ n. 1 + n) (whole_size xs)

mutual
  pub whole_order : (x y : Tree) → compared (whole x) (whole y) ≡ Is (order x y)
  whole_order (Int i) (Int j) = refl
  whole_order (Atom a) (Atom b) = refl
  whole_order (Tuple xs) (Tuple ys) = rw (whole_size xs, whole_size ys, whole_order_all xs ys) (then_is (nat_cmp (size_of xs) (size_of ys)) (order_all xs ys))
  whole_order Nil Nil = refl
  whole_order (Cons h t) (Cons i u) = rw (whole_order h i, whole_order t u) (then_is (order h i) (order t u))
  whole_order x y = refl

  pub whole_order_all : (xs ys : Trees) → all_compared (all_whole xs) (all_whole ys) ≡ Is (order_all xs ys)
  whole_order_all (More x xs) (More y ys) = rw (whole_order x y, whole_order_all xs ys) (then_is (order x y) (order_all xs ys))
  whole_order_all No ys = refl
  whole_order_all (More x xs) No = refl
