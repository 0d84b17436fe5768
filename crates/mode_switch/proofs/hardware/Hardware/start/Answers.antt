-- The registers have the words of the first arguments, and the heap's top is behind their cells.
use Rattle.std.proofs.Common.{◌≡◌, ◌<◌, ◌^◌, ◌∙◌, ℕ, List, length, map, ap, sym, arith}
use Rattle.mode_switch.proofs.Laid.{counted_by, row_is}
use Rattle.mode_switch.specs.Run.{first_memory, first_registers}
use Rattle.mode_switch.specs.State.{Memory, MixedState}
use Rattle.sparc_code.specs.declared.machine.Regs.{Regs}
use Rattle.tagged_words.specs.Laid.{laid_in_turn, words_in_turn}
use Rattle.tagged_words.specs.declared.addresses.TheConstants.{HEAP_START}
use Rattle.term_tree.specs.Term.{tree_of}
use Rattle.word_laying.proofs.Cells.{length-row}
use Rattle.mode_switch.proofs.hardware.Hardware.start.Goals as goal

pub overflow_cast-laid : goal.overflow_cast-laid
overflow_cast-laid c =
    let small : c.args.limits.now.heap < 2 ^ 32 = omega (arith, c.requires.limits.heap) in
    let is = counted_by (map tree_of c.args.args.now) c.words_of_row-laid.result c.args.limits.now.heap c.words_of_row-laid.ensures c.requires.heap small in
    omega (arith, is, small, c.requires.heap)

pub registers_at-requires-clause-laid : goal.registers_at-requires-clause-laid
registers_at-requires-clause-laid c =
    let small : c.args.limits.now.heap < 2 ^ 32 = omega (arith, c.requires.limits.heap) in
    let is = counted_by (map tree_of c.args.args.now) c.words_of_row-laid.result c.args.limits.now.heap c.words_of_row-laid.ensures c.requires.heap small in
    omega (arith, is, c.requires.heap)

pub returns : goal.returns
returns c =
    let limits = c.args.limits.now in
    let vs = map tree_of c.args.args.now in
    let cells = laid_in_turn c.args.atoms.now HEAP_START vs in
    let ws = words_in_turn c.args.atoms.now HEAP_START vs in
    let small : limits.heap < 2 ^ 32 = omega (arith, c.requires.limits.heap) in
    let is = counted_by vs c.words_of_row-laid.result limits.heap c.words_of_row-laid.ensures c.requires.heap small in
    let count : c.words_of_row-laid.result ≡ length cells = is ∙ sym (row_is vs) ∙ sym (length-row c.args.atoms.now vs HEAP_START) in
    let words : c.as_slice.result.now ≡ ws = c.as_slice.ensures.value ∙ c.in_ok-memory.ensures.words in
    let regs : c.registers_at.result ≡ first_registers limits c.args.entry (length cells) ws =
    c.registers_at.ensures ∙ ap (λ (n : ℕ). first_registers limits c.args.entry n c.as_slice.result.now) count
    ∙ ap (λ (l : List ℕ). first_registers limits c.args.entry (length cells) l) words in
    let memory : c.in_ok-memory.memory ≡ first_memory limits cells ws = c.in_ok-memory.ensures.memory ∙ ap (first_memory limits cells) c.in_ok-memory.ensures.words in
    let state : Regs → Memory → MixedState = λ r m. record { regs = r; memory = m; place = 0 } in
    ap (λ r. state r c.in_ok-memory.memory) regs ∙ ap (state (first_registers limits c.args.entry (length cells) ws)) memory
