-- There are as many words as arguments.
use Rattle.std.proofs.Common.{◌≡◌, ◌++◌, ◌∙◌, List, ℕ, length, map, ap, arith}
use Rattle.std.proofs.lemmas.List.{length-map}
use Rattle.ir_code.proofs.Holding.{as_many}
use Rattle.tagged_words.specs.Laid.{words_in_turn}
use Rattle.tagged_words.specs.declared.addresses.TheConstants.{HEAP_START}
use Rattle.term_tree.specs.Term.{tree_of}
use Rattle.mode_switch.proofs.memory.Memory.start.Goals as goal

pub xs_with-requires : goal.xs_with-requires
xs_with-requires c =
    let vs = map tree_of c.args.args.now in
    let ws = words_in_turn c.args.atoms.now HEAP_START vs in
    let all : c.as_slice.result.now ≡ ws = c.as_slice.ensures.value ∙ c.in_ok-heap.ensures.words ∙ ap (λ (l : List ℕ). l ++ ws) c.requires.none in
    let many = ap (λ (l : List ℕ). length l) all ∙ as_many c.args.atoms.now vs HEAP_START ∙ length-map c.args.args.now tree_of in
    omega (arith, many, c.requires.few)
