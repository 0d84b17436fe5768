-- A run by steps: what a step leaves runs to where the whole runs to.
use Rattle.std.proofs.Common.{◌≡◌, ℕ, List, suc, ◌+◌, ◌-◌, ◌^◌, ◌≤◌, ◌<◌, ◌∙◌, ap, sym, subst, refl, arith}
use Rattle.std.specs.Prelude.{Option, Some, None}
use Rattle.mode_switch.specs.Call.{Call, loaded, run_of, start}
use Rattle.beam_code.specs.declared.module.Module.{Module}
use Rattle.image_format.specs.declared.parts.Parts.{Parts}
use Rattle.mode_switch.specs.Machine.{Progress, Ran, answered, finish_of, opened, one_more, ran, ran_for, ran_to, ran_with, steps_taken, taken_after, after_step, answer_of, stepped, stepped_with, step_answer, step_answer_with}
use Rattle.mode_switch.specs.Run.{bound, full_step, mixed_run}
use Rattle.mode_switch.specs.State.{Finish, Loaded, MixedState}
use Rattle.mode_switch.specs.declared.outcome.Outcome.{Outcome}
use Rattle.mode_switch.specs.declared.outcome.Outcome.TheVariants.{Ended}
use Rattle.mode_switch.specs.declared.outcome.End.TheVariants.{StepsSpent}
use Rattle.mode_switch.specs.declared.outcome.Step.{Step}
use Rattle.mode_switch.specs.declared.outcome.Step.TheVariants as answer
use Rattle.small_step.specs.Stage.{Stage, Still, Done, and_then}

-- a run of one step and n more, by the stage of the first step
abbrev pub from_stage : Progress → ℕ → Stage MixedState Finish → Ran
from_stage p n x = ran_to p (p.steps + taken_after x (steps_taken (full_step p.loaded) n)) (and_then x (mixed_run p.loaded n))

-- a run that is over
abbrev pub over_with : Progress → Outcome → Ran
over_with p o = record { progress = p; answer = o }

counts : (steps bound : ℕ) → steps < bound → bound < 2 ^ 64 → one_more steps ≡ steps + 1
counts steps bound lt fits = omega arith

-- what comes of the progress that a stage makes
abbrev pub of_stage : Progress → ℕ → Stage MixedState Finish → Ran
of_stage p n (Still s) = ran_for (after_step p (Still s)) n
of_stage p n (Done f) = over_with (after_step p (Done f)) f.outcome

by_stage : (p : Progress) (n : ℕ) (x : Stage MixedState Finish) → one_more p.steps ≡ p.steps + 1 → from_stage p n x ≡ of_stage p n x
by_stage p n (Still s) e =
    let more : p.steps + (1 + steps_taken (full_step p.loaded) n s) ≡ one_more p.steps + steps_taken (full_step p.loaded) n s = omega arith in
    ap (λ k. ran_to p k (mixed_run p.loaded n s)) more
by_stage p n (Done f) e =
    ap (λ k. over_with (record { loaded = p.loaded; state = f.state; outcome = Some f.outcome; steps = k }) f.outcome) (sym e)

ran_going : (p : Progress) (b : ℕ) → p.outcome ≡ None → b ≡ bound p.loaded → ran p ≡ ran_for p (b - p.steps)
ran_going p b going e = ap (ran_with p) going ∙ ap (λ k. ran_for p (k - p.steps)) (sym e)

ran_by_stage : (p : Progress) (b : ℕ) → p.outcome ≡ None → b ≡ bound p.loaded → p.steps < b → b < 2 ^ 64 → ran p ≡ of_stage p (b - (p.steps + 1)) (full_step p.loaded p.state)
ran_by_stage p b going e lt fits =
    let left : b - p.steps ≡ suc (b - (p.steps + 1)) = omega arith in
    ran_going p b going e ∙ ap (ran_for p) left
    ∙ by_stage p (b - (p.steps + 1)) (full_step p.loaded p.state) (counts p.steps b lt fits)

-- what one step and its answer are for a run that goes on
one_step : (p q : Progress) → p.outcome ≡ None → q ≡ stepped p → q ≡ after_step p (full_step p.loaded p.state)
one_step p q going e = e ∙ ap (stepped_with p) going

one_answer : (p : Progress) (a : Step) → p.outcome ≡ None → a ≡ step_answer p → a ≡ answer_of (full_step p.loaded p.state)
one_answer p a going e = e ∙ ap (step_answer_with p) going

ends_at : (p q : Progress) (n : ℕ) (x : Stage MixedState Finish) (o : Outcome) → q ≡ after_step p x → answer.Done o ≡ answer_of x → of_stage p n x ≡ over_with q o
ends_at p q n (Still s) o here done = cc
ends_at p q n (Done f) o here done =
    let same : f.outcome ≡ o = cc in
    ap (λ k. over_with k f.outcome) (sym here) ∙ ap (over_with q) same

-- a step that ends the run
pub run_ends : (p q : Progress) (b : ℕ) (o : Outcome) → p.outcome ≡ None → b ≡ bound p.loaded → p.steps < b → b < 2 ^ 64 → q ≡ stepped p → answer.Done o ≡ step_answer p → over_with q o ≡ ran p
run_ends p q b o going e lt fits here done =
    sym (ran_by_stage p b going e lt fits
    ∙ ends_at p q (b - (p.steps + 1)) (full_step p.loaded p.state) o (one_step p q going here) (one_answer p (answer.Done o) going done))

-- what stays true where a step does not end the run
pub record GoesOn (p q : Progress) (b : ℕ) : Type 0 where
  pub same : ran q ≡ ran p
  pub going : q.outcome ≡ None
  pub bounded : b ≡ bound q.loaded
  pub steps : q.steps ≡ p.steps + 1

still_at : (p : Progress) (b : ℕ) (x : Stage MixedState Finish) → ran p ≡ of_stage p (b - (p.steps + 1)) x → one_more p.steps ≡ p.steps + 1 → b ≡ bound p.loaded → answer.Still ≡ answer_of x → GoesOn p (after_step p x) b
still_at p b (Still s) whole more e a =
    record {
      same = ap (λ k. ran_for (after_step p (Still s)) (k - one_more p.steps)) (sym e) ∙ ap (λ k. ran_for (after_step p (Still s)) (b - k)) more ∙ sym whole;
      going = refl;
      bounded = e;
      steps = more;
    }
still_at p b (Done f) whole more e a = absurd (let no_way : answer.Still ≡ answer.Done f.outcome = a in cc)

pub run_goes_on : (p q : Progress) (b : ℕ) → p.outcome ≡ None → b ≡ bound p.loaded → p.steps < b → b < 2 ^ 64 → q ≡ stepped p → answer.Still ≡ step_answer p → GoesOn p q b
run_goes_on p q b going e lt fits here a =
    let P : Progress → Type 0 = λ k. GoesOn p k b in
    subst P (sym (one_step p q going here))
    (still_at p b (full_step p.loaded p.state) (ran_by_stage p b going e lt fits) (counts p.steps b lt fits) e (one_answer p answer.Still going a))

-- no steps are left
pub run_spent : (p : Progress) (b : ℕ) → p.outcome ≡ None → b ≡ bound p.loaded → b ≤ p.steps → over_with p (Ended StepsSpent) ≡ ran p
run_spent p b going e le =
    let none : b - p.steps ≡ 0 = omega arith in
    let as_is : p.steps + 0 ≡ p.steps = omega arith in
    sym (ran_going p b going e ∙ ap (ran_for p) none
    ∙ ap (λ k. over_with (record { loaded = p.loaded; state = p.state; outcome = None; steps = k }) (Ended StepsSpent)) as_is
    ∙ ap (λ k. over_with (record { loaded = p.loaded; state = p.state; outcome = k; steps = p.steps }) (Ended StepsSpent)) (sym going))

-- a run from the start of a call ends as a run of as many steps as the bound
answer_to : (p : Progress) (steps : ℕ) (x : Stage MixedState Finish) → answered (ran_to p steps x) ≡ finish_of x
answer_to p steps (Still s) = refl
answer_to p steps (Done f) = refl

less_none : (n : ℕ) → n - 0 ≡ n
less_none n = omega arith

pub finish_opened : (ms : List Module) (parts : Parts) (call : Call) → answered (ran (opened ms parts call)) ≡ finish_of (run_of (loaded ms parts call) call (bound (loaded ms parts call)))
finish_opened ms parts call =
    let g : Loaded = loaded ms parts call in
    answer_to (opened ms parts call) (0 + steps_taken (full_step g) (bound g - 0) (start g call)) (mixed_run g (bound g - 0) (start g call))
    ∙ ap (λ n. finish_of (mixed_run g n (start g call))) (less_none (bound g))

-- what stays as it is stays in a run
loaded_to : (p : Progress) (steps : ℕ) (x : Stage MixedState Finish) → (ran_to p steps x).progress.loaded ≡ p.loaded
loaded_to p steps (Still s) = refl
loaded_to p steps (Done f) = refl

loaded_with : (p : Progress) (o : Option Outcome) → (ran_with p o).progress.loaded ≡ p.loaded
loaded_with p None = loaded_to p (p.steps + steps_taken (full_step p.loaded) (bound p.loaded - p.steps) p.state) (mixed_run p.loaded (bound p.loaded - p.steps) p.state)
loaded_with p (Some o) = refl

pub loaded_stays : (p : Progress) → (ran p).progress.loaded ≡ p.loaded
loaded_stays p = loaded_with p p.outcome
