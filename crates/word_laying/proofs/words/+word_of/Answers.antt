use Rattle.std.proofs.Common.{sym, arith}
use Rattle.word_laying.proofs.Parts.{list_parts, tuple_parts, some_items, word-List, word-Tuple}
use Rattle.word_laying.proofs.words.+word_of.Goals as goal

pub word_of-overflow_sub-result : goal.word_of-overflow_sub-result
word_of-overflow_sub-result t c =
    let parts = list_parts c.args.atoms.now c.args.term.now c.in-List.items c.in-List.tail c.in-List.is c.requires.fits in
    let some = some_items c.in-List.items (λ q. let k = c.is_empty.ensures.1 q in absurd (cc)) in
    omega (arith, parts.words)

pub word_of-overflow_cast-result : goal.word_of-overflow_cast-result
word_of-overflow_cast-result t c =
    let parts = tuple_parts c.args.atoms.now c.args.term.now c.in-Tuple.items c.in-Tuple.is c.requires.fits in
    omega (arith, parts.few)

pub word_of-overflow_mul-result : goal.word_of-overflow_mul-result
word_of-overflow_mul-result t c =
    let parts = tuple_parts c.args.atoms.now c.args.term.now c.in-Tuple.items c.in-Tuple.is c.requires.fits in
    omega (arith, parts.few)

pub word_of-overflow_sub-result-in-Tuple : goal.word_of-overflow_sub-result-in-Tuple
word_of-overflow_sub-result-in-Tuple t c =
    let parts = tuple_parts c.args.atoms.now c.args.term.now c.in-Tuple.items c.in-Tuple.is c.requires.fits in
    omega (arith, parts.words)

pub word_of-overflow_sub-result-in-Tuple-2 : goal.word_of-overflow_sub-result-in-Tuple-2
word_of-overflow_sub-result-in-Tuple-2 t c =
    let parts = tuple_parts c.args.atoms.now c.args.term.now c.in-Tuple.items c.in-Tuple.is c.requires.fits in
    omega (arith, parts.words)

pub word_of-returns-else-is_empty : goal.word_of-returns-else-is_empty
word_of-returns-else-is_empty t c =
    sym (word-List c.args.atoms.now c.args.end c.args.term.now c.in-List.items c.in-List.tail c.in-List.is (λ q. let k = c.is_empty.ensures.1 q in absurd (cc)))

pub word_of-returns-in-Tuple : goal.word_of-returns-in-Tuple
word_of-returns-in-Tuple t c = rw c.len.ensures (sym (word-Tuple c.args.atoms.now c.args.end c.args.term.now c.in-Tuple.items c.in-Tuple.is))
