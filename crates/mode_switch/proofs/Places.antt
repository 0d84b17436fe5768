-- Where PC stands within the code, and the step there.
use Rattle.std.proofs.Common.{◌≡◌, ℕ, ◌+◌, ◌-◌, ◌*◌, ◌/◌, ◌%◌, ◌<◌, ◌≤◌, true, false, Some, [], length, slice_get, nat_eq, refl, ap, ◌∙◌, arith}
use Rattle.std.proofs.lemmas.Bool.Decides.{nat_tests}
use Rattle.std.proofs.lemmas.Option.{slice_get_within}
use Rattle.beam_code.specs.Function.{items_of}
use Rattle.mode_switch.specs.Junk.{junked}
use Rattle.mode_switch.specs.declared.addresses.TheConstants.{GATE_START, GATES}
use Rattle.mode_switch.specs.declared.destination.Destination.TheVariants.{Word}
use Rattle.mode_switch.specs.Memory.{load_of, stores_of}
use Rattle.mode_switch.specs.Destination.{within, destination_of}
use Rattle.image_format.specs.declared.limits.TheConstants.{CODE_START, ITEM_START}
use Rattle.mode_switch.specs.Run.{full_step}
use Rattle.mode_switch.specs.State.{Loaded, MixedState}
use Rattle.mode_switch.specs.Step.{mixed_step, step_at, native_step, native_after}
use Rattle.sparc_code.proofs.Laws.{decoded-encoded}
use Rattle.sparc_code.specs.Code.{encoded, IsInWidth}
use Rattle.sparc_code.specs.declared.instruction.Instr.{Instr}
use Rattle.sparc_code.specs.Step.{effect_of, word_effect}

pub not_within : (start count at : ℕ) → count ≤ (at - start) / 4 → within start count at ≡ false
not_within start count at past = grind (arith, nat_tests)

pub is_within : (start count at : ℕ) → start ≤ at → (at - start) / 4 < count → within start count at ≡ true
is_within start count at from to = grind (arith, nat_tests)

pub aligned : (at : ℕ) → at % 4 ≡ 0 → nat_eq (at % 4) 0 ≡ true
aligned at e = grind (arith, nat_tests)

-- an address of the code, where all items lie below it
pub word_at_code : (items words k at : ℕ) → at ≡ CODE_START + 4 * k → ITEM_START + 4 * items ≤ CODE_START → k < words → destination_of items words at ≡ Word k
word_at_code items words k at e few some =
    let whole = aligned at (omega arith) in
    let no_gate = not_within GATE_START GATES at (omega arith) in
    let no_item = not_within ITEM_START items at (omega arith) in
    let code = is_within CODE_START words at (omega arith) (omega arith) in
    let index : (at - CODE_START) / 4 ≡ k = omega arith in
    rw (whole, no_gate, no_item, code, index) refl

-- without junk
pub full_step-plain : (g : Loaded) (s : MixedState) → g.junk ≡ [] → full_step g s ≡ mixed_step g s
full_step-plain g s none = ap (λ junk. mixed_step g (junked g s junk)) none

-- an instruction of the code
pub code_step : (g : Loaded) (s : MixedState) (k : ℕ) (i : Instr) → g.junk ≡ [] → ITEM_START + 4 * items_of g.modules ≤ CODE_START → s.regs.pc ≡ CODE_START + 4 * k → slice_get g.parts.code k ≡ Some (encoded i) → IsInWidth i → full_step g s ≡ native_after s (effect_of (load_of g.parts.literals s.memory) (stores_of s.memory) s.regs i)
code_step g s k i none few pc word width =
    full_step-plain g s none
    ∙ ap (step_at g s) (word_at_code (items_of g.modules) (length g.parts.code) k s.regs.pc pc few (slice_get_within g.parts.code k (encoded i) word))
    ∙ ap (native_step g s) word
    ∙ ap (λ d. native_after s (word_effect (load_of g.parts.literals s.memory) (stores_of s.memory) s.regs d)) (decoded-encoded i width)
