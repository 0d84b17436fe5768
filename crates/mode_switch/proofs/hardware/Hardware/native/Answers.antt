-- The processor leaves in the machine's memory what the step says, and the memory is the one that was lent.
use Rattle.std.proofs.Common.{ℕ, refl, sym}
use Rattle.mode_switch.proofs.Native.{left_by, stays_by}
use Rattle.mode_switch.proofs.Tops.{heap_stays}
use Rattle.mode_switch.specs.Store.{extent}
use Rattle.mode_switch.specs.Memory.{load_of, stores_of, stored}
use Rattle.mode_switch.specs.State.{Memory, MixedState}
use Rattle.mode_switch.specs.declared.memory.Reach.{Reach}
use Rattle.sparc_code.specs.Code.{decoded}
use Rattle.sparc_code.specs.Step.{word_effect}
use Rattle.mode_switch.proofs.hardware.Hardware.native.Goals as goal

abbrev store : Reach → ℕ → ℕ → Reach
store m at w = record m { memory = record m.memory { now = stored m.memory.now at w } }

abbrev part : Reach → Memory
part m = m.memory.now

pub shape_of-self-inside : goal.shape_of-self-inside
shape_of-self-inside c = stays_by (λ (m : Reach). m.memory.ghost_name) store (λ m at w. refl) _ _ _ c.step-done.new.memory _ _ c.step-done.ensures.effect

pub returns-clause-stage : goal.returns-clause-stage
returns-clause-stage c =
    let s : MixedState = record { regs = c.self.inside.regs; memory = c.self.inside.memory; place = c.self.inside.place } in
    rw (c.end_by.ensures, ← c.self.view_is)
    (left_by part store (λ m at w. refl) s c.step-done.new.regs _ c.step-done.new.memory c.step-done.result
    (word_effect (load_of c.args.literals.now s.memory) (stores_of s.memory) s.regs (decoded c.args.word)) refl c.step-done.ensures.effect)

pub returns-clause-heap : goal.returns-clause-heap
returns-clause-heap c =
    rw (← c.self.view_is) (sym (stays_by (λ (m : Reach). extent m.memory.now.heap) store (λ m at w. heap_stays m.memory.now at w) _ _ _ c.step-done.new.memory _ _ c.step-done.ensures.effect))
