use Rattle.std.proofs.Common.{rules, arith}
use Rattle.std.proofs.lemmas.Grind.{common_steps}
use Rattle.term_tree.specs.declared.term.Term.{the_lemmas}
use Rattle.term_tree.proofs.CompareLaws.{canonical_items, canonical_front}
use Rattle.term_tree.proofs.TextLaws.{text-List, text-Tuple}
use Rattle.term_tree.proofs.printing.+put_term.Goals as goal

pub put_term-put_row-requires : goal.put_term-put_row-requires
put_term-put_row-requires t c = (search (rules, the_lemmas), rw c.as_slice.ensures (canonical_front c.in-List.items c.in-List.end (rw c.in-List.is at c.requires)))

pub put_term-put_row-requires-in-Tuple : goal.put_term-put_row-requires-in-Tuple
put_term-put_row-requires-in-Tuple t c = (search (rules, the_lemmas), rw c.as_slice-in-Tuple.ensures (canonical_items c.in-Tuple.items (rw c.in-Tuple.is at c.requires)))

pub put_term-returns-in_ok-put_end-in-List : goal.put_term-returns-in_ok-put_end-in-List
put_term-returns-in_ok-put_end-in-List t c =
    let whole = text-List c.in-List.items c.in-List.end (rw c.in-List.is at c.requires) in
    rw (c.in-List.is, whole) (grind (arith, common_steps))

pub put_term-returns-in_ok-put_row-in-Tuple : goal.put_term-returns-in_ok-put_row-in-Tuple
put_term-returns-in_ok-put_row-in-Tuple t c =
    let whole = text-Tuple c.in-Tuple.items in
    rw (c.in-Tuple.is, whole) (grind (arith, common_steps))
