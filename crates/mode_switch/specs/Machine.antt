-- How far a call on the machine has come, and what its steps and its run make of that (docs/MACHINE.md, Runs).
use Rattle.std.specs.Prelude.{ℕ, ◌≡◌, zero, suc, ◌+◌, ◌-◌, ◌^◌, ◌<◌, ◌≤◌, Option, Some, None, Result, Ok, Err, List, [], length, map, min}
use Rattle.std.specs.Option.{IfSome}
use Rattle.beam_code.specs.Function.{exported_number}
use Rattle.beam_code.specs.Meaning.{words_in}
use Rattle.mode_switch.specs.Call.{Call, IsCallOf, call_of, loaded, start}
use Rattle.mode_switch.specs.Junk.{IsPlaceIn}
use Rattle.term_tree.specs.declared.term.Term.{Term}
use Rattle.term_tree.specs.Term.{tree_of}
use Rattle.small_step.specs.Stage.{Stage, Still, Done}
use Rattle.beam_code.specs.Function.{items_of}
use Rattle.beam_code.specs.declared.call.Limits.{Limits}
use Rattle.beam_code.specs.declared.module.Module.{Module}
use Rattle.image_format.specs.declared.limits.TheConstants.{MOST_CODE}
use Rattle.image_format.specs.declared.parts.Parts.{Parts}
use Rattle.mode_switch.specs.declared.addresses.TheConstants.{MOST_REDUCTIONS, MOST_ITEMS, MOST_WORDS}
use Rattle.mode_switch.specs.declared.outcome.Outcome.{Outcome}
use Rattle.mode_switch.specs.declared.outcome.Outcome.TheVariants.{Ended}
use Rattle.mode_switch.specs.declared.outcome.End.TheVariants.{StepsSpent}
use Rattle.mode_switch.specs.declared.outcome.Step.{Step}
use Rattle.mode_switch.specs.declared.outcome.Step.TheVariants as answer
use Rattle.mode_switch.specs.Run.{full_step, mixed_run, bound}
use Rattle.mode_switch.specs.Step.{fault_of}
use Rattle.sparc_code.specs.declared.machine.Regs.{Regs}
use Rattle.sparc_code.specs.declared.machine.MachineFault.{MachineFault}
use Rattle.mode_switch.specs.State.{Loaded, MixedState, Finish}
use Rattle.mode_switch.specs.Store.{extent}
use Rattle.mode_switch.specs.Text.{IsAtomsOf}
use Rattle.tagged_words.specs.Region.{Region}
use Rattle.tagged_words.specs.declared.addresses.TheConstants.{HEAP_START}

-- what stays as it is, the state, the outcome once the run is over, and how many steps were done since the start
pub record Progress : Type 0 where
  pub loaded : Loaded
  pub state : MixedState
  pub outcome : Option Outcome
  pub steps : ℕ

-- the number of steps stands still at its greatest value
abbrev pub most_steps : ℕ
most_steps = 2 ^ 64 - 1

abbrev pub one_more : ℕ → ℕ
one_more steps = min (steps + 1) most_steps

-- what a state and an outcome, if there is one, are as a stage
abbrev pub stage_of : MixedState → Option Outcome → Stage MixedState Finish
stage_of s None = Still s
stage_of s (Some o) = Done (record { outcome = o; state = s })

-- how the processor's step ends the run, if it does
abbrev pub outcome_by : Regs → Result (Unit {0}) MachineFault → Option Outcome
outcome_by regs (Ok done) = None
outcome_by regs (Err fault) = Some (Ended (fault_of regs fault))

-- after a step
abbrev pub after_step : Progress → Stage MixedState Finish → Progress
after_step p (Still s) = record { loaded = p.loaded; state = s; outcome = None; steps = one_more p.steps }
after_step p (Done f) = record { loaded = p.loaded; state = f.state; outcome = Some f.outcome; steps = one_more p.steps }

abbrev pub answer_of : Stage MixedState Finish → Step
answer_of (Still s) = answer.Still
answer_of (Done f) = answer.Done f.outcome

-- one step; a run that is over stays as it is
abbrev pub stepped_with : Progress → Option Outcome → Progress
stepped_with p None = after_step p (full_step p.loaded p.state)
stepped_with p (Some o) = p

abbrev pub stepped : Progress → Progress
stepped p = stepped_with p p.outcome

abbrev pub step_answer_with : Progress → Option Outcome → Step
step_answer_with p None = answer_of (full_step p.loaded p.state)
step_answer_with p (Some o) = answer.Done o

abbrev pub step_answer : Progress → Step
step_answer p = step_answer_with p p.outcome

-- how many steps a run of at most so many does
abbrev pub taken_after : Stage MixedState Finish → (MixedState → ℕ) → ℕ
taken_after (Still s) more = 1 + more s
taken_after (Done f) more = 1

abbrev pub steps_taken : (MixedState → Stage MixedState Finish) → ℕ → MixedState → ℕ
steps_taken step zero s = 0
steps_taken step (suc n) s = taken_after (step s) (steps_taken step n)

-- a progress and the answer of the run that led there
pub record Ran : Type 0 where
  pub progress : Progress
  pub answer : Outcome

abbrev pub ran_to : Progress → ℕ → Stage MixedState Finish → Ran
ran_to p steps (Still s) =
    record { progress = record { loaded = p.loaded; state = s; outcome = None; steps = steps }; answer = Ended StepsSpent }
ran_to p steps (Done f) =
    record { progress = record { loaded = p.loaded; state = f.state; outcome = Some f.outcome; steps = steps }; answer = f.outcome }

-- at most so many steps
abbrev pub ran_for : Progress → ℕ → Ran
ran_for p n = ran_to p (p.steps + steps_taken (full_step p.loaded) n p.state) (mixed_run p.loaded n p.state)

-- how a run ended: where it goes on, its steps are spent in the state that it reached
abbrev pub finish_of : Stage MixedState Finish → Finish
finish_of (Still s) = record { outcome = Ended StepsSpent; state = s }
finish_of (Done f) = f

-- the answer of a run, with the state in which it ended
abbrev pub answered : Ran → Finish
answered r = record { outcome = r.answer; state = r.progress.state }

-- the steps that are left to the bound; a run that is over stays as it is
abbrev pub ran_with : Progress → Option Outcome → Ran
ran_with p None = ran_for p (bound p.loaded - p.steps)
ran_with p (Some o) = record { progress = p; answer = o }

abbrev pub ran : Progress → Ran
ran p = ran_with p p.outcome

-- a call on an image, before its first step
abbrev pub opened : List Module → Parts → Call → Progress
opened ms parts call = record { loaded = loaded ms parts call; state = start (loaded ms parts call) call; outcome = None; steps = 0 }

-- the exported function of this name is called with these arguments, which are terms and fit the heap, and no step was done
pub record IsOpened (ms : List Module) (parts : Parts) (owner name : List ℕ) (args : List Term) (limits : Limits) (junk : List ℕ) (p : Progress) : Type 0 where
  pub function : ℕ
  pub exported : exported_number ms owner name (length args) ≡ Some function
  pub is : p ≡ opened ms parts (call_of function args limits junk)
  pub call : IsCallOf ms (call_of function args limits junk)

-- the function of this name is exported, and the words of the arguments pass the limit of the heap
pub record DoNotFit (ms : List Module) (owner name : List ℕ) (args : List Term) (limits : Limits) : Type 0 where
  pub function : ℕ
  pub exported : exported_number ms owner name (length args) ≡ Some function
  pub more : limits.heap < words_in (map tree_of args)

-- a walk over words wants an entry for each word that it may meet, and one more
abbrev pub entries_of : Parts → Limits → ℕ
entries_of parts limits = length parts.literals + limits.heap + 1

-- what a machine keeps true: the number of items is theirs, the bound fits 64 bits, there is no junk, the heap has as
-- many words as the limit says, there are entries for walks, and the atoms of the outcome, once the run is over, have names
pub record IsRunnable (modules : List Module) (parts : Parts) (limits : Limits) (junk : List ℕ) (items next : ℕ) (table : List (List ℕ)) (heap : Region) (scratch : List ℕ) (outcome : Option Outcome) : Type 0 where
  pub counted : items ≡ items_of modules
  pub few_items : items ≤ MOST_ITEMS
  pub code : length parts.code ≤ MOST_CODE
  pub reductions : limits.reductions ≤ MOST_REDUCTIONS
  pub no_junk : junk ≡ []
  pub place : IsPlaceIn junk next
  pub heap_words : extent heap ≡ (HEAP_START, limits.heap)
  pub few_words : limits.heap ≤ MOST_WORDS
  pub entries : length scratch ≡ entries_of parts limits
  pub atoms : IfSome outcome (IsAtomsOf table)
