-- Whole runs of the machine: the first state, and the bound on the steps (docs/MACHINE.md, Runs).
use Rattle.std.specs.Prelude.{ℕ, ◌+◌, ◌-◌, ◌*◌, ◌++◌, false, List, ◌∷◌, length, replicate, slice_index, drop}
use Rattle.small_step.specs.Stage.{Stage, run}
use Rattle.beam_code.specs.declared.call.Limits.{Limits}
use Rattle.beam_code.specs.Function.{items_of}
use Rattle.sparc_code.specs.declared.machine.Regs.{Regs}
use Rattle.tagged_words.specs.declared.addresses.TheConstants.{HEAP_START}
use Rattle.mode_switch.specs.declared.addresses.TheConstants.{STACK_END, STOP_LINK, X_START, X_WORDS}
use Rattle.mode_switch.specs.Junk.{with_junk}
use Rattle.mode_switch.specs.State.{Loaded, Memory, MixedState, Finish}
use Rattle.mode_switch.specs.Step.{mixed_step}

-- a step, with junk written before it
abbrev pub full_step : Loaded → MixedState → Stage MixedState Finish
full_step g s = mixed_step g (with_junk g s)

abbrev pub mixed_run : Loaded → ℕ → MixedState → Stage MixedState Finish
mixed_run g n s = run (full_step g) n s

-- within so many steps every run of this program's images ends
abbrev pub bound : Loaded → ℕ
bound g = (g.limits.reductions + 2) * (2 * length g.parts.code + 2 * items_of g.modules + 8)

-- the registers at the start: heap top, heap limit, stack limit, reductions and x area in globals, the first five
-- arguments in %o0 to %o4, the stack pointer and the link
abbrev pub first_registers : Limits → ℕ → ℕ → List ℕ → Regs
first_registers limits entry laid args =
    record {
      r = 0 ∷ 0 ∷ (HEAP_START + 4 * laid) ∷ 0 ∷ (HEAP_START + 4 * limits.heap) ∷ (STACK_END - 4 * limits.stack) ∷ limits.reductions ∷ X_START
          ∷ slice_index args 0 ∷ slice_index args 1 ∷ slice_index args 2 ∷ slice_index args 3 ∷ slice_index args 4 ∷ 0 ∷ STACK_END ∷ STOP_LINK
          ∷ replicate 16 0;
      y = 0;
      n = false;
      z = false;
      v = false;
      c = false;
      pc = entry;
      npc = entry + 4;
    }

abbrev pub first_memory : Limits → List ℕ → List ℕ → Memory
first_memory limits laid args =
    record {
      heap = record { start = HEAP_START; words = laid ++ replicate (limits.heap - length laid) 0 };
      xs = record { start = X_START; words = replicate 5 0 ++ drop 5 args ++ replicate (X_WORDS - 5 - length (drop 5 args)) 0 };
      stack = record { start = STACK_END - 4 * limits.stack; words = replicate limits.stack 0 };
    }

-- the first state at an entry, for arguments that are these words, laid out as these words of the heap
abbrev pub first_state : Limits → ℕ → List ℕ → List ℕ → MixedState
first_state limits entry laid args =
    record { regs = first_registers limits entry (length laid) args; memory = first_memory limits laid args; place = 0 }
