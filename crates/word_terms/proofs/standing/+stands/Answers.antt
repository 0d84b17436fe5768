use Rattle.std.proofs.Common.{◌≡◌, ◌+◌, ◌∙◌, map, length, sym, arith}
use Rattle.std.proofs.lemmas.List.{length-map}
use Rattle.term_tree.proofs.CompareLaws.{tree_of-List}
use Rattle.term_tree.proofs.TermLaws.{tree_of-Tuple}
use Rattle.term_tree.specs.Term.{end_tree, tree_of}
use Rattle.word_laying.proofs.Rows.{next_item, none_left}
use Rattle.word_terms.proofs.Steps.{no_cons, no_head, other_head, no_tail, next_cons, no_element, other_element, next_element, no_tuple, tuple_there}
use Rattle.word_terms.proofs.standing.+stands.Goals as goal

pub all_stand-loop-item-preserved : goal.all_stand-loop-item-preserved
all_stand-loop-item-preserved g t c =
    let next = next_item c.args.items.now c.loop-item.item-index c.item-item.result c.loop-item-test.true c.item-item.is in
    record {
      place = omega (arith, c.loop-item.invariant.place);
      left = sym (next_element (g.W.Words.store c.args.words.now) c.args.atoms.now c.args.tuple (c.loop-item.at + 4) c.in-Some.w _ _ _ next (sym c.word.ensures ∙ c.in-Some.is) (sym c.stands_below.ensures ∙ c.if-not-stands_below.false))
          ∙ c.loop-item.invariant.left;
    }

pub all_stand-returns-in_default : goal.all_stand-returns-in_default
all_stand-returns-in_default g t c =
    let next = next_item c.args.items.now c.loop-item.item-index c.item-item.result c.loop-item-test.true c.item-item.is in
    sym (no_element (g.W.Words.store c.args.words.now) c.args.atoms.now c.args.tuple (c.loop-item.at + 4) _ _ _ next (sym c.word.ensures ∙ c.in_default.is)) ∙ c.loop-item.invariant.left

pub all_stand-returns-then-not-stands_below : goal.all_stand-returns-then-not-stands_below
all_stand-returns-then-not-stands_below g t c =
    let next = next_item c.args.items.now c.loop-item.item-index c.item-item.result c.loop-item-test.true c.item-item.is in
    sym (other_element (g.W.Words.store c.args.words.now) c.args.atoms.now c.args.tuple (c.loop-item.at + 4) c.in-Some.w _ _ _ next (sym c.word.ensures ∙ c.in-Some.is) (sym c.stands_below.ensures ∙ c.if-not-stands_below.true))
    ∙ c.loop-item.invariant.left

pub all_stand-returns : goal.all_stand-returns
all_stand-returns g t c =
    let none = none_left c.args.items.now c.loop-item.item-index c.loop-item-test.false in
    rw none at c.loop-item.invariant.left

pub behind_items-returns-in_err-at : goal.behind_items-returns-in_err-at
behind_items-returns-in_err-at g t c = λ end.
    let next = next_item c.args.items.now c.loop-item.item-index c.item-item.result c.loop-item-test.true c.item-item.is in
    rw c.from_residual.ensures (sym (c.loop-item.invariant end) ∙ no_cons (g.W.Words.store c.args.words.now) c.args.atoms.now c.loop-item.spot.limit c.loop-item.spot.word _ _ _ end next (sym c.cons_at.ensures.shown ∙ c.in_err-at.was))

pub behind_items-returns-in_err-head : goal.behind_items-returns-in_err-head
behind_items-returns-in_err-head g t c = λ end.
    let next = next_item c.args.items.now c.loop-item.item-index c.item-item.result c.loop-item-test.true c.item-item.is in
    rw c.from_residual-in_err-head.ensures (sym (c.loop-item.invariant end) ∙ no_head (g.W.Words.store c.args.words.now) c.args.atoms.now c.loop-item.spot.limit c.loop-item.spot.word c.in_ok-at.at _ _ _ end next (sym c.cons_at.ensures.shown ∙ c.in_ok-at.was) (sym c.word.ensures ∙ c.in_err-head.was))

pub behind_items-returns-then-not-stands_below : goal.behind_items-returns-then-not-stands_below
behind_items-returns-then-not-stands_below g t c = λ end.
    let next = next_item c.args.items.now c.loop-item.item-index c.item-item.result c.loop-item-test.true c.item-item.is in
    sym (c.loop-item.invariant end) ∙ other_head (g.W.Words.store c.args.words.now) c.args.atoms.now c.loop-item.spot.limit c.loop-item.spot.word c.in_ok-at.at c.in_ok-head.head _ _ _ end next (sym c.cons_at.ensures.shown ∙ c.in_ok-at.was) (sym c.word.ensures ∙ c.in_ok-head.was) (sym c.stands_below.ensures ∙ c.if-not-stands_below.true)

pub behind_items-returns-in_err-word : goal.behind_items-returns-in_err-word
behind_items-returns-in_err-word g t c = λ end.
    let next = next_item c.args.items.now c.loop-item.item-index c.item-item.result c.loop-item-test.true c.item-item.is in
    rw c.from_residual-in_err-word.ensures (sym (c.loop-item.invariant end) ∙ no_tail (g.W.Words.store c.args.words.now) c.args.atoms.now c.loop-item.spot.limit c.loop-item.spot.word c.in_ok-at.at c.in_ok-head.head _ _ _ end next (sym c.cons_at.ensures.shown ∙ c.in_ok-at.was) (sym c.word.ensures ∙ c.in_ok-head.was) (sym c.stands_below.ensures ∙ c.if-not-stands_below.false) (sym c.word-in-loop-item.ensures ∙ c.in_err-word.was))

pub behind_items-loop-item-preserved : goal.behind_items-loop-item-preserved
behind_items-loop-item-preserved g t c = λ end.
    let next = next_item c.args.items.now c.loop-item.item-index c.item-item.result c.loop-item-test.true c.item-item.is in
    sym (next_cons (g.W.Words.store c.args.words.now) c.args.atoms.now c.loop-item.spot.limit c.loop-item.spot.word c.in_ok-at.at c.in_ok-head.head c.in_ok-word.word _ _ _ end next (sym c.cons_at.ensures.shown ∙ c.in_ok-at.was) (sym c.word.ensures ∙ c.in_ok-head.was) (sym c.stands_below.ensures ∙ c.if-not-stands_below.false) (sym c.word-in-loop-item.ensures ∙ c.in_ok-word.was)) ∙ c.loop-item.invariant end

pub behind_items-returns : goal.behind_items-returns
behind_items-returns g t c = λ end.
    let none = none_left c.args.items.now c.loop-item.item-index c.loop-item-test.false in
    sym (rw none at (c.loop-item.invariant end))

pub stands_below-returns-in-List : goal.stands_below-returns-in-List
stands_below-returns-in-List g t c =
    let behind = rw c.as_slice.ensures at (c.behind_items-behind.ensures (end_tree c.in-List.tail)) in
    rw (c.in-List.is, tree_of-List c.in-List.items c.in-List.tail) (c.end_stands.ensures ∙ sym behind)

pub stands_below-returns-in-Some : goal.stands_below-returns-in-Some
stands_below-returns-in-Some g t c =
    let long : c.len.result ≡ length (map tree_of c.in-Tuple.items) = c.len.ensures ∙ sym (length-map c.in-Tuple.items tree_of) in
    let whole = tuple_there (g.W.Words.store c.args.words.now) c.args.atoms.now c.args.limit c.args.w c.len.result c.in-Some.at (map tree_of c.in-Tuple.items) long (sym c.tuple_at.ensures.shown ∙ c.in-Some.is) in
    let all = rw c.as_slice-in-Some.ensures at c.all_stand.ensures in
    rw (c.in-Tuple.is, tree_of-Tuple c.in-Tuple.items) (all ∙ sym whole)

pub stands_below-returns-in-None : goal.stands_below-returns-in-None
stands_below-returns-in-None g t c =
    let long : c.len.result ≡ length (map tree_of c.in-Tuple.items) = c.len.ensures ∙ sym (length-map c.in-Tuple.items tree_of) in
    rw (c.in-Tuple.is, tree_of-Tuple c.in-Tuple.items)
    (sym (no_tuple (g.W.Words.store c.args.words.now) c.args.atoms.now c.args.limit c.args.w c.len.result (map tree_of c.in-Tuple.items) long (sym c.tuple_at.ensures.shown ∙ c.in-None.is)))
