-- What a call on an image means, and when it has a meaning (docs/BEAM.md, Meaning).
use Rattle.std.specs.Prelude.{ℕ, ◌≢◌, List}
use Rattle.small_step.specs.Stage.{Stage, Still, Done, IfDone, run}
use Rattle.beam_code.specs.declared.module.Module.{Module}
use Rattle.beam_code.specs.Frame.{beam_step}
use Rattle.beam_code.specs.Meaning.{first_state, meaning}
use Rattle.beam_code.specs.State as b
use Rattle.mode_switch.specs.Call.{Call}

abbrev pub meaning_of : List Module → Call → Stage b.BeamState b.Finish
meaning_of ms call = meaning ms call.limits call.function call.args

-- a run that ended did not end because a row was stuck
abbrev pub IsSound : b.Finish → Type 0
IsSound f = f.outcome ≢ b.Ended b.Stuck

abbrev pub IsOutcome : Stage b.BeamState b.Finish → Type 0
IsOutcome (Still s) = ⊥
IsOutcome (Done f) = IsSound f

-- the meaning of a call is an outcome, and no row on the way is stuck
pub record HasMeaning (ms : List Module) (call : Call) : Type 0 where
  pub outcome : IsOutcome (meaning_of ms call)
  pub never_stuck : (n : ℕ) → IfDone (run (beam_step ms call.limits) n (first_state ms call.limits call.function call.args)) IsSound
