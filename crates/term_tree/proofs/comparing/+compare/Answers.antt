use Rattle.std.proofs.Common.{rules, ◌≡◌, sym, ap, ◌∙◌, map, length, arith}
use Rattle.std.specs.declared.cmp.Ordering.TheVariants.{Equal}
use Rattle.std.specs.Ordering.{nat_cmp}
use Rattle.term_tree.specs.declared.term.Term as term
use Rattle.term_tree.specs.declared.term.Term.{Term, the_lemmas}
use Rattle.term_tree.specs.Term.{tree_of, end_tree}
use Rattle.term_tree.specs.Order.{order, order_front, rank}
use Rattle.term_tree.proofs.TermLaws.{tree_of-Int, tree_of-Atom, tree_of-Tuple}
use Rattle.term_tree.proofs.CompareLaws.{behind, front_ends, before_list, after_list, order-tuples, order-lists, then_unequal, canonical_items, canonical_front, canonical_end, behind_same, behind_unequal}
use Rattle.term_tree.proofs.comparing.+compare.Goals as goal

pub compare-compare_front-requires : goal.compare-compare_front-requires
compare-compare_front-requires t c = (
  search (rules, the_lemmas),
  (
    rw c.as_slice.ensures (canonical_items c.in-Tuple.items (rw c.in-Tuple.is at c.requires.left)),
    rw c.as_slice-in-Equal.ensures (canonical_items c.in-Tuple-b.others (rw c.in-Tuple-b.is at c.requires.right)),
  ),
)

pub compare-compare_front-requires-in-List-b-2 : goal.compare-compare_front-requires-in-List-b-2
compare-compare_front-requires-in-List-b-2 t c = (
  search (rules, the_lemmas),
  (
    rw c.as_slice-in-List-b-2.ensures (canonical_front c.in-List.items c.in-List.end (rw c.in-List.is at c.requires.left)),
    rw c.as_slice-in-List-b-2-2.ensures (canonical_front c.in-List-b-2.others c.in-List-b-2.other_end (rw c.in-List-b-2.is at c.requires.right)),
  ),
)

pub compare-returns-in-Equal : goal.compare-returns-in-Equal
compare-returns-in-Equal t c =
    let sizes : nat_cmp (length c.in-Tuple.items) (length c.in-Tuple-b.others) ≡ Equal = cc in
    let whole = rw sizes at (order-tuples c.in-Tuple.items c.in-Tuple-b.others) in
    cc

pub compare-returns-in_default : goal.compare-returns-in_default
compare-returns-in_default t c =
    let whole = order-tuples c.in-Tuple.items c.in-Tuple-b.others in
    let sizes = then_unequal (nat_cmp (length c.in-Tuple.items) (length c.in-Tuple-b.others)) (order_front (map tree_of c.in-Tuple.items) (map tree_of c.in-Tuple-b.others)) (λ e. c.in_default.not-Equal (cc)) in
    cc

pub compare-returns-in-List-b : goal.compare-returns-in-List-b
compare-returns-in-List-b t c =
    let fine = rw c.in-List-b.is at c.requires.right in
    sym (rw (c.in-Tuple.is, c.in-List-b.is) (before_list (tree_of (term.Tuple c.in-Tuple.items)) c.in-List-b.field-0 c.in-List-b.field-1 fine (omega (arith, ap rank (tree_of-Tuple c.in-Tuple.items)))))

pub compare-returns-in-Int-b-2 : goal.compare-returns-in-Int-b-2
compare-returns-in-Int-b-2 t c =
    let fine = rw c.in-List.is at c.requires.left in
    sym (rw (c.in-List.is, c.in-Int-b-2.is) (after_list (tree_of (term.Int c.in-Int-b-2.field-0)) c.in-List.items c.in-List.end fine (omega (arith, ap rank (tree_of-Int c.in-Int-b-2.field-0)))))

pub compare-returns-in-Atom-b-2 : goal.compare-returns-in-Atom-b-2
compare-returns-in-Atom-b-2 t c =
    let fine = rw c.in-List.is at c.requires.left in
    sym (rw (c.in-List.is, c.in-Atom-b-2.is) (after_list (tree_of (term.Atom c.in-Atom-b-2.field-0)) c.in-List.items c.in-List.end fine (omega (arith, ap rank (tree_of-Atom c.in-Atom-b-2.field-0)))))

pub compare-returns-in-Tuple-b-2 : goal.compare-returns-in-Tuple-b-2
compare-returns-in-Tuple-b-2 t c =
    let fine = rw c.in-List.is at c.requires.left in
    sym (rw (c.in-List.is, c.in-Tuple-b-2.is) (after_list (tree_of (term.Tuple c.in-Tuple-b-2.field-0)) c.in-List.items c.in-List.end fine (omega (arith, ap rank (tree_of-Tuple c.in-Tuple-b-2.field-0)))))

pub compare-returns-in-Equal-cmp : goal.compare-returns-in-Equal-cmp
compare-returns-in-Equal-cmp t c =
    let ends = order (end_tree c.in-List.end) (end_tree c.in-List-b-2.other_end) in
    let front : order_front (map tree_of c.in-List.items) (map tree_of c.in-List-b-2.others) ≡ Equal = cc in
    let sizes : nat_cmp (length c.in-List.items) (length c.in-List-b-2.others) ≡ Equal = cc in
    let whole = rw (front, behind_same (length c.in-List.items) (length c.in-List-b-2.others) ends sizes) at (order-lists c.in-List.items c.in-List-b-2.others c.in-List.end c.in-List-b-2.other_end
    (canonical_end c.in-List.items c.in-List.end (rw c.in-List.is at c.requires.left)) (canonical_end c.in-List-b-2.others c.in-List-b-2.other_end (rw c.in-List-b-2.is at c.requires.right))) in
    cc

pub compare-returns-in_default-cmp : goal.compare-returns-in_default-cmp
compare-returns-in_default-cmp t c =
    let ends = order (end_tree c.in-List.end) (end_tree c.in-List-b-2.other_end) in
    let front : order_front (map tree_of c.in-List.items) (map tree_of c.in-List-b-2.others) ≡ Equal = cc in
    let whole = rw (front, behind_unequal (length c.in-List.items) (length c.in-List-b-2.others) ends (λ e. c.in_default-cmp.not-Equal (cc))) at (order-lists c.in-List.items c.in-List-b-2.others c.in-List.end c.in-List-b-2.other_end
    (canonical_end c.in-List.items c.in-List.end (rw c.in-List.is at c.requires.left)) (canonical_end c.in-List-b-2.others c.in-List-b-2.other_end (rw c.in-List-b-2.is at c.requires.right))) in
    cc

pub compare-returns-in_default-compare_front : goal.compare-returns-in_default-compare_front
compare-returns-in_default-compare_front t c =
    let whole = order-lists c.in-List.items c.in-List-b-2.others c.in-List.end c.in-List-b-2.other_end
    (canonical_end c.in-List.items c.in-List.end (rw c.in-List.is at c.requires.left)) (canonical_end c.in-List-b-2.others c.in-List-b-2.other_end (rw c.in-List-b-2.is at c.requires.right)) in
    let front = then_unequal (order_front (map tree_of c.in-List.items) (map tree_of c.in-List-b-2.others)) (behind (length c.in-List.items) (length c.in-List-b-2.others) (order (end_tree c.in-List.end) (end_tree c.in-List-b-2.other_end)))
    (λ e. c.in_default-compare_front.not-Equal (cc)) in
    cc

pub compare_front-returns : goal.compare_front-returns
compare_front-returns t c = sym (front_ends c.args.items.now c.args.others.now c.loop-i.i (omega arith)) ∙ c.loop-i.invariant
