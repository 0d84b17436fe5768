-- There is room for the names of each part of a term.
use Rattle.std.proofs.Common.{rules, ◌≡◌, ◌+◌, ◌∙◌, List, ℕ, OnOk, length, map, drop, ap, subst, sym, arith}
use Rattle.tagged_words.specs.Laid.{with_atoms, with_atoms_of}
use Rattle.term_tree.specs.declared.term.Term.{Term, the_lemmas}
use Rattle.term_tree.specs.Term.{end_tree, tree_of}
use Rattle.word_laying.proofs.Rows.{next_item}
use Rattle.ir_code.proofs.Growing.{atoms-List, atoms-Tuple, longer, row_longer}
use Rattle.ir_code.proofs.adding.+add_atoms.Goals as goal

pub add_atoms-add_row-requires : goal.add_atoms-add_row-requires
add_atoms-add_row-requires t c =
    let table = c.args.atoms.now in
    let whole = ap (λ (x : Term). length (with_atoms table (tree_of x))) c.in-List.is ∙ ap length (atoms-List table c.in-List.items c.in-List.end) in
    let more = longer (with_atoms_of table (map tree_of c.in-List.items)) (end_tree c.in-List.end) in
    (search (rules, the_lemmas), rw c.as_slice.ensures (omega arith))

pub add_atoms-add_end-requires : goal.add_atoms-add_end-requires
add_atoms-add_end-requires t c =
    let table = c.args.atoms.now in
    let whole = ap (λ (x : Term). length (with_atoms table (tree_of x))) c.in-List.is ∙ ap length (atoms-List table c.in-List.items c.in-List.end) in
    (search (rules, the_lemmas), rw (c.in_ok-add_row-in-List.ensures, c.as_slice.ensures) (omega arith))

pub add_atoms-add_row-requires-in-Tuple : goal.add_atoms-add_row-requires-in-Tuple
add_atoms-add_row-requires-in-Tuple t c =
    let table = c.args.atoms.now in
    let whole = ap (λ (x : Term). length (with_atoms table (tree_of x))) c.in-Tuple.is ∙ ap length (atoms-Tuple table c.in-Tuple.items) in
    (search (rules, the_lemmas), rw c.as_slice-in-Tuple.ensures (omega arith))

pub add_atoms-returns-in_ok-add_row-in-List : goal.add_atoms-returns-in_ok-add_row-in-List
add_atoms-returns-in_ok-add_row-in-List t c =
    let table = c.args.atoms.now in
    let named = c.in_ok-add_row-in-List.ensures ∙ ap (λ (xs : List Term). with_atoms_of table (map tree_of xs)) c.as_slice.ensures in
    let all = ap (λ (n : List (List ℕ)). with_atoms n (end_tree c.in-List.end)) named
    ∙ sym (atoms-List table c.in-List.items c.in-List.end) ∙ ap (λ (x : Term). with_atoms table (tree_of x)) (sym c.in-List.is) in
    subst (λ (n : List (List ℕ)). OnOk c.add_end.result (c.add_end.new.atoms ≡ n)) all c.add_end.ensures

pub add_atoms-returns-in-Tuple : goal.add_atoms-returns-in-Tuple
add_atoms-returns-in-Tuple t c =
    let table = c.args.atoms.now in
    let all = ap (λ (xs : List Term). with_atoms_of table (map tree_of xs)) c.as_slice-in-Tuple.ensures
    ∙ sym (atoms-Tuple table c.in-Tuple.items) ∙ ap (λ (x : Term). with_atoms table (tree_of x)) (sym c.in-Tuple.is) in
    subst (λ (n : List (List ℕ)). OnOk c.add_row-in-Tuple.result (c.add_row-in-Tuple.new.atoms ≡ n)) all c.add_row-in-Tuple.ensures

pub add_row-add_atoms-requires : goal.add_row-add_atoms-requires
add_row-add_atoms-requires t c =
    let x = c.item-item.result in
    let table = c.loop-item.atoms in
    let rest = map tree_of (drop (c.loop-item.item-index + 1) c.args.items.now) in
    let here = next_item c.args.items.now c.loop-item.item-index x c.loop-item-test.true c.item-item.is in
    let left = ap length (ap (with_atoms_of table) (sym here) ∙ c.loop-item.invariant) in
    let more = row_longer (with_atoms table (tree_of x)) rest in
    (search (rules, the_lemmas), omega (arith, left, more, c.requires))
