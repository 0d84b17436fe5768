use Rattle.std.proofs.Common.{◌+◌, ◌-◌, ◌*◌, ◌∙◌, map, take, reverse, sym, arith}
use Rattle.tagged_words.specs.Laid.{word_for}
use Rattle.term_tree.specs.Size.{words_of}
use Rattle.term_tree.specs.Term.{tree_of}
use Rattle.word_laying.proofs.Cells.{written-cell}
use Rattle.word_laying.proofs.Rows.{row_up_to, turned_item}
use Rattle.word_laying.specs.Laying.{cells}
use Rattle.word_laying.proofs.laying.lay_cells.Goals as goal

pub word_of-requires-clause-below : goal.word_of-requires-clause-below
word_of-requires-clause-below c =
    let row = row_up_to c.args.items.now c.loop-k.k (c.loop-k.k - 1) c.index-items-k.result (omega arith) (omega arith) c.index-items-k.is in
    omega (arith, c.loop-k.invariant.end)

pub bytes_of-end-requires : goal.bytes_of-end-requires
bytes_of-end-requires c =
    let row = row_up_to c.args.items.now c.loop-k.k (c.loop-k.k - 1) c.index-items-k.result (omega arith) (omega arith) c.index-items-k.is in
    omega (arith, c.loop-k.invariant.end, c.loop-k.invariant.short)

pub overflow_sub-end : goal.overflow_sub-end
overflow_sub-end c =
    let row = row_up_to c.args.items.now c.loop-k.k (c.loop-k.k - 1) c.index-items-k.result (omega arith) (omega arith) c.index-items-k.is in
    omega (arith, c.loop-k.invariant.end)

pub loop-k-preserved : goal.loop-k-preserved
loop-k-preserved c =
    let x = c.index-items-k.result in
    let before = reverse (map tree_of (take (c.loop-k.k - 1) c.args.items.now)) in
    let row = row_up_to c.args.items.now c.loop-k.k (c.loop-k.k - 1) x (omega arith) (omega arith) c.index-items-k.is in
    let turned = turned_item c.args.items.now c.loop-k.k (c.loop-k.k - 1) x (omega arith) (omega arith) c.index-items-k.is in
    let left = rw turned at c.loop-k.invariant.words in
    let step = written-cell c.loop-k.block c.loop-k.next (word_for c.args.atoms.now c.loop-k.end (tree_of x)) c.loop-k.rest
    (cells c.args.atoms.now (c.loop-k.end - 4 * words_of (tree_of x)) (c.loop-k.next + 8) (c.loop-k.next + 1) before) in
    record {
      words = rw (c.set-in-loop-k.ensures.words, c.set.ensures.words, c.word_of.ensures, c.bytes_of-end.ensures) (sym step ∙ left);
      next = omega (arith, c.loop-k.invariant.next);
      end = omega (arith, c.loop-k.invariant.end);
      short = omega (arith, c.loop-k.invariant.short);
    }
