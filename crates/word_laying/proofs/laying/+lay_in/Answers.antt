use Rattle.std.proofs.Common.{rules, ◌≡◌, ◌+◌, ◌∙◌, map, drop, sym, length, arith}
use Rattle.std.proofs.lemmas.List.{length-map}
use Rattle.term_tree.specs.declared.term.Term.{the_lemmas}
use Rattle.term_tree.specs.Term.{end_tree, tree_of}
use Rattle.term_tree.proofs.CompareLaws.{tree_of-List}
use Rattle.term_tree.proofs.TermLaws.{tree_of-Tuple}
use Rattle.word_laying.proofs.Cells.{written-conses, written-row, written-tuple}
use Rattle.word_laying.proofs.Parts.{list_parts, tuple_parts}
use Rattle.word_laying.proofs.Rows.{next_item}
use Rattle.word_laying.proofs.laying.+lay_in.Goals as goal

pub lay_in-lay_row-items_end-requires : goal.lay_in-lay_row-items_end-requires
lay_in-lay_row-items_end-requires t c =
    let parts = list_parts c.args.atoms.now c.args.term.now c.in-List.items c.in-List.tail c.in-List.is c.requires.fits in
    (search (rules, the_lemmas), (rw c.as_slice.ensures (omega (arith, parts.words)), rw c.as_slice.ensures parts.items))

pub lay_in-lay_tail-cell-requires : goal.lay_in-lay_tail-cell-requires
lay_in-lay_tail-cell-requires t c =
    let parts = list_parts c.args.atoms.now c.args.term.now c.in-List.items c.in-List.tail c.in-List.is c.requires.fits in
    let front = rw c.as_slice.ensures at c.lay_row-items_end.ensures.next in
    (search (rules, the_lemmas), (omega (arith, parts.words), parts.tail))

pub lay_in-word_of_tail-last-requires-clause-fits : goal.lay_in-word_of_tail-last-requires-clause-fits
lay_in-word_of_tail-last-requires-clause-fits t c =
    let parts = list_parts c.args.atoms.now c.args.term.now c.in-List.items c.in-List.tail c.in-List.is c.requires.fits in
    parts.tail

pub lay_in-lay_cells-requires-clause-room : goal.lay_in-lay_cells-requires-clause-room
lay_in-lay_cells-requires-clause-room t c =
    let parts = list_parts c.args.atoms.now c.args.term.now c.in-List.items c.in-List.tail c.in-List.is c.requires.fits in
    let front = rw c.as_slice.ensures at c.lay_row-items_end.ensures.next in
    rw c.as_slice-in-List.ensures (omega (arith, parts.words))

pub lay_in-lay_cells-requires-clause-short : goal.lay_in-lay_cells-requires-clause-short
lay_in-lay_cells-requires-clause-short t c =
    let parts = list_parts c.args.atoms.now c.args.term.now c.in-List.items c.in-List.tail c.in-List.is c.requires.fits in
    let front = rw c.as_slice.ensures at c.lay_row-items_end.ensures.next in
    omega (arith, parts.words)

pub lay_in-lay_cells-requires-clause-fits : goal.lay_in-lay_cells-requires-clause-fits
lay_in-lay_cells-requires-clause-fits t c =
    let parts = list_parts c.args.atoms.now c.args.term.now c.in-List.items c.in-List.tail c.in-List.is c.requires.fits in
    rw c.as_slice-in-List.ensures parts.items

pub lay_in-lay_row-cell-requires : goal.lay_in-lay_row-cell-requires
lay_in-lay_row-cell-requires t c =
    let parts = tuple_parts c.args.atoms.now c.args.term.now c.in-Tuple.items c.in-Tuple.is c.requires.fits in
    (search (rules, the_lemmas), (rw c.as_slice-in-Tuple.ensures (omega (arith, parts.words)), rw c.as_slice-in-Tuple.ensures parts.items))

pub lay_in-overflow_cast-len : goal.lay_in-overflow_cast-len
lay_in-overflow_cast-len t c =
    let parts = tuple_parts c.args.atoms.now c.args.term.now c.in-Tuple.items c.in-Tuple.is c.requires.fits in
    omega (arith, parts.few)

pub lay_in-header-requires : goal.lay_in-header-requires
lay_in-header-requires t c =
    let parts = tuple_parts c.args.atoms.now c.args.term.now c.in-Tuple.items c.in-Tuple.is c.requires.fits in
    record { in_range = omega (arith, parts.few) }

pub lay_in-overflow_add-cell : goal.lay_in-overflow_add-cell
lay_in-overflow_add-cell t c =
    let parts = tuple_parts c.args.atoms.now c.args.term.now c.in-Tuple.items c.in-Tuple.is c.requires.fits in
    let cell = rw c.as_slice-in-Tuple.ensures at c.lay_row-cell.ensures.next in
    omega (arith, parts.words)

pub lay_in-lay_words-requires-clause-room : goal.lay_in-lay_words-requires-clause-room
lay_in-lay_words-requires-clause-room t c =
    let parts = tuple_parts c.args.atoms.now c.args.term.now c.in-Tuple.items c.in-Tuple.is c.requires.fits in
    let cell = rw c.as_slice-in-Tuple.ensures at c.lay_row-cell.ensures.next in
    rw c.as_slice-in-Tuple-2.ensures (omega (arith, parts.words))

pub lay_in-lay_words-requires-clause-below : goal.lay_in-lay_words-requires-clause-below
lay_in-lay_words-requires-clause-below t c =
    let parts = tuple_parts c.args.atoms.now c.args.term.now c.in-Tuple.items c.in-Tuple.is c.requires.fits in
    rw c.as_slice-in-Tuple-2.ensures (omega (arith, parts.words))

pub lay_in-lay_words-requires-clause-fits : goal.lay_in-lay_words-requires-clause-fits
lay_in-lay_words-requires-clause-fits t c =
    let parts = tuple_parts c.args.atoms.now c.args.term.now c.in-Tuple.items c.in-Tuple.is c.requires.fits in
    rw c.as_slice-in-Tuple-2.ensures parts.items

pub lay_in-returns-in-List-clause-words : goal.lay_in-returns-in-List-clause-words
lay_in-returns-in-List-clause-words t c =
    let front = rw c.as_slice.ensures at c.lay_row-items_end.ensures.next in
    let whole = written-conses c.args.atoms.now c.args.block.now (map tree_of c.in-List.items) (end_tree c.in-List.tail) c.args.at c.lay_row-items_end.result c.lay_tail-cell.result front c.lay_tail-cell.ensures.next in
    rw (c.in-List.is, tree_of-List c.in-List.items c.in-List.tail, c.lay_cells.ensures.words, c.as_slice-in-List.ensures, c.word_of_tail-last.ensures, c.lay_tail-cell.ensures.words, c.lay_row-items_end.ensures.words, c.as_slice.ensures) (sym whole)

pub lay_in-returns-in-List-clause-next : goal.lay_in-returns-in-List-clause-next
lay_in-returns-in-List-clause-next t c =
    let parts = list_parts c.args.atoms.now c.args.term.now c.in-List.items c.in-List.tail c.in-List.is c.requires.fits in
    let front = rw c.as_slice.ensures at c.lay_row-items_end.ensures.next in
    let next = rw c.as_slice-in-List.ensures at c.lay_cells.ensures.next in
    omega (arith, parts.words)

pub lay_in-returns-in-Tuple-clause-words : goal.lay_in-returns-in-Tuple-clause-words
lay_in-returns-in-Tuple-clause-words t c =
    let cell = rw c.as_slice-in-Tuple.ensures at c.lay_row-cell.ensures.next in
    let whole = written-tuple c.args.atoms.now c.args.block.now (map tree_of c.in-Tuple.items) c.args.at c.lay_row-cell.result cell in
    let long : c.len.result ≡ length (map tree_of c.in-Tuple.items) = c.len.ensures ∙ sym (length-map c.in-Tuple.items tree_of) in
    rw (c.in-Tuple.is, tree_of-Tuple c.in-Tuple.items, c.lay_words.ensures.words, c.as_slice-in-Tuple-2.ensures, c.set.ensures.words, c.header.ensures.word, long, c.lay_row-cell.ensures.words, c.as_slice-in-Tuple.ensures) (sym whole)

pub lay_in-returns-in-Tuple-clause-next : goal.lay_in-returns-in-Tuple-clause-next
lay_in-returns-in-Tuple-clause-next t c =
    let parts = tuple_parts c.args.atoms.now c.args.term.now c.in-Tuple.items c.in-Tuple.is c.requires.fits in
    let cell = rw c.as_slice-in-Tuple.ensures at c.lay_row-cell.ensures.next in
    let next = rw c.as_slice-in-Tuple-2.ensures at c.lay_words.ensures.next in
    omega (arith, parts.words)

pub lay_row-loop-item-preserved : goal.lay_row-loop-item-preserved
lay_row-loop-item-preserved t c =
    let rest = next_item c.args.items.now c.loop-item.item-index c.item-item.result c.loop-item-test.true c.item-item.is in
    let words = rw rest at c.loop-item.invariant.words in
    let sum = rw rest at c.loop-item.invariant.next in
    let step = written-row c.args.atoms.now c.loop-item.block c.loop-item.next (tree_of c.item-item.result) (map tree_of (drop (c.loop-item.item-index + 1) c.args.items.now)) in
    record {
      words = rw (c.lay_in-next.ensures.words, c.lay_in-next.ensures.next) (sym step ∙ words);
      next = omega (arith, sum);
    }
