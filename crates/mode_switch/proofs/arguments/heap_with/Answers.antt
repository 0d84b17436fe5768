-- The cells of the arguments are written over the first words of the heap.
use Rattle.std.proofs.Common.{ℕ, ◌∙◌, map, refl, ap, arith}
use Rattle.std.proofs.lemmas.List.{length-replicate}
use Rattle.mode_switch.proofs.Laid.{row_is, written_over}
use Rattle.tagged_words.specs.Laid.{laid_in_turn}
use Rattle.tagged_words.specs.Region.{Region}
use Rattle.tagged_words.specs.declared.addresses.TheConstants.{HEAP_START}
use Rattle.term_tree.specs.Term.{tree_of}
use Rattle.word_laying.proofs.Cells.{length-row}
use Rattle.word_laying.specs.Written.{written}
use Rattle.mode_switch.proofs.arguments.heap_with.Goals as goal

pub lay_arguments-requires-clause-room : goal.lay_arguments-requires-clause-room
lay_arguments-requires-clause-room c =
    let row = row_is (map tree_of c.args.args.now) in
    let long = length-replicate {A = ℕ} c.args.limits.now.heap 0 in
    rw c.in_ok-block.ensures.zeros (omega (arith, row, long, c.requires.heap))

pub returns-clause-heap : goal.returns-clause-heap
returns-clause-heap c =
    let vs = map tree_of c.args.args.now in
    let ws = laid_in_turn c.args.atoms.now HEAP_START vs in
    let row = row_is vs in
    let long = length-row c.args.atoms.now vs HEAP_START in
    c.in_ok-lay_arguments.ensures.laid
    ∙ ap (λ (r : Region). written r HEAP_START ws) c.in_ok-block.ensures.zeros
    ∙ written_over HEAP_START c.args.limits.now.heap 0 ws refl (omega (arith, row, long, c.requires.heap))
