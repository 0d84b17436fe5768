-- What a word of native code leaves, on a memory of which the machine's memory is a part.
use Rattle.std.proofs.Common.{◌≡◌, ℕ, ◌∙◌, ap, sym}
use Rattle.std.specs.Prelude.{Result, Ok, Err}
use Rattle.mode_switch.specs.Machine.{stage_of, outcome_by}
use Rattle.mode_switch.specs.Memory.{stored}
use Rattle.mode_switch.specs.State.{Memory, MixedState}
use Rattle.mode_switch.specs.Step.{fault_of, native_after}
use Rattle.mode_switch.specs.declared.outcome.Outcome.TheVariants.{Ended}
use Rattle.small_step.specs.Stage.{Still, Done}
use Rattle.sparc_code.specs.Step.{Effect, Goes, Stores, Faults, Leaves}
use Rattle.sparc_code.specs.declared.machine.MachineFault.{MachineFault}
use Rattle.sparc_code.specs.declared.machine.Regs.{Regs}

module _ {M : Type 0} (part : M → Memory) (store : M → ℕ → ℕ → M) (parts_follow : (m : M) (at w : ℕ) → part (store m at w) ≡ stored (part m) at w) where
  pub left_by : (s : MixedState) (after : Regs) (m n : M) (r : Result (Unit {0}) MachineFault) (e : Effect) → part m ≡ s.memory → Leaves store e s.regs after m n r →
      stage_of (record { regs = after; memory = part n; place = s.place }) (outcome_by after r) ≡ native_after s e
  left_by s after m n (Ok done) (Goes next) same h =
      ap (λ x. Still (record { regs = x; memory = part n; place = s.place })) h.0 ∙ ap (λ x. Still (record s { regs = next; memory = x })) (ap part h.1 ∙ same)
  left_by s after m n (Err found) (Goes next) same h = absurd h
  left_by s after m n (Ok done) (Stores next at word) same h =
      ap (λ x. Still (record { regs = x; memory = part n; place = s.place })) h.0
      ∙ ap (λ x. Still (record s { regs = next; memory = x })) (ap part h.1 ∙ parts_follow m at word ∙ ap (λ k. stored k at word) same)
  left_by s after m n (Err found) (Stores next at word) same h = absurd h
  left_by s after m n (Ok done) (Faults fault) same h = absurd h
  left_by s after m n (Err found) (Faults fault) same h =
      ap (λ x. Done (record { outcome = Ended (fault_of x found); state = record { regs = x; memory = part n; place = s.place } })) h.1
      ∙ ap (λ y. Done (record { outcome = Ended (fault_of s.regs y); state = record s { memory = part n } })) h.0
      ∙ ap (λ k. Done (record { outcome = Ended (fault_of s.regs fault); state = record s { memory = k } })) (ap part h.2 ∙ same)

-- what no store changes stays
pub stays_by : {M N : Type 0} (name : M → N) (store : M → ℕ → ℕ → M) (stays : (m : M) (at w : ℕ) → name (store m at w) ≡ name m) (before after : Regs) (m n : M) (r : Result (Unit {0}) MachineFault) (e : Effect) →
    Leaves store e before after m n r → name m ≡ name n
stays_by name store stays before after m n (Ok done) (Goes next) h = sym (ap name h.1)
stays_by name store stays before after m n (Err found) (Goes next) h = absurd h
stays_by name store stays before after m n (Ok done) (Stores next at word) h = sym (ap name h.1 ∙ stays m at word)
stays_by name store stays before after m n (Err found) (Stores next at word) h = absurd h
stays_by name store stays before after m n (Ok done) (Faults fault) h = absurd h
stays_by name store stays before after m n (Err found) (Faults fault) h = sym (ap name h.2)
