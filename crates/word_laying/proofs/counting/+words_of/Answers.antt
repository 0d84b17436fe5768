use Rattle.std.proofs.Common.{◌+◌, ◌-◌, ◌^◌, ◌∙◌, map, drop, sym, arith}
use Rattle.term_tree.specs.Size.{words_of}
use Rattle.term_tree.specs.Term.{tree_of, end_tree}
use Rattle.word_laying.specs.Count.{row_words}
use Rattle.word_laying.proofs.Rows.{words-List, words-Tuple, none_left, next_item, one_saturates, step_saturates, sum_saturates, end_saturates}
use Rattle.word_laying.proofs.counting.+words_of.Goals as goal

pub words_of-returns-in-List : goal.words_of-returns-in-List
words_of-returns-in-List t c =
    let whole = words-List c.in-List.items c.in-List.end in
    let sum = sum_saturates (row_words 2 (map tree_of c.in-List.items)) (words_of (end_tree c.in-List.end)) (2 ^ 64 - 1) in
    cc

pub words_of-returns-in-Tuple : goal.words_of-returns-in-Tuple
words_of-returns-in-Tuple t c =
    let whole = words-Tuple c.in-Tuple.items in
    let sum = one_saturates (row_words 1 (map tree_of c.in-Tuple.items)) (2 ^ 64 - 1) in
    cc

pub words_of_row-returns : goal.words_of_row-returns
words_of_row-returns t c =
    let none = none_left c.args.items.now c.loop-item.item-index c.loop-item-test.false in
    let sum = rw none at c.loop-item.invariant.sum in
    sym (end_saturates c.loop-item.count (2 ^ 64 - 1) c.loop-item.invariant.small) ∙ sum

pub words_of_row-loop-item-preserved : goal.words_of_row-loop-item-preserved
words_of_row-loop-item-preserved t c =
    let left = map tree_of (drop (c.loop-item.item-index + 1) c.args.items.now) in
    let rest = next_item c.args.items.now c.loop-item.item-index c.item-item.result c.loop-item-test.true c.item-item.is in
    let sum = rw rest at c.loop-item.invariant.sum in
    let step = step_saturates c.loop-item.count c.args.each (words_of (tree_of c.item-item.result)) (row_words c.args.each left) (2 ^ 64 - 1) in
    record {
      sum = rw (c.saturating_add-count.ensures, c.saturating_add.ensures, c.words_of.ensures) (step ∙ sum);
      small = omega arith;
    }
