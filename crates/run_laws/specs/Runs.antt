-- The laws of runs of checked modules (docs/BEAM.md, Meaning).
use Rattle.std.specs.Prelude.{◌≡◌, ◌≢◌, ℕ, List, Some, length, max}
use Rattle.small_step.specs.Stage.{Still, Done, run}
use Rattle.beam_code.specs.declared.call.Limits.{Limits}
use Rattle.beam_code.specs.declared.module.Module.{Module}
use Rattle.beam_code.specs.Frame.{beam_step}
use Rattle.beam_code.specs.Function.{Placed, function_at}
use Rattle.beam_code.specs.Meaning.{first_state, meaning, words_in}
use Rattle.beam_code.specs.State.{BeamState, Finish, Ended, Stuck}
use Rattle.term_tree.specs.Tree.{Tree}
use Rattle.run_laws.specs.Formed.{AreChecked}
use Rattle.run_laws.specs.Shown.{StateIsShown}

-- a function of the modules, with as many arguments as it takes
pub record IsCall (ms : List Module) (function : ℕ) (args : List Tree) : Type 0 where
  pub placed : Placed
  pub is : function_at ms function ≡ Some placed
  pub arity : length args ≡ placed.function.arity

-- as many words as the heap has, or as the arguments take where those are more
abbrev pub most_words : Limits → List Tree → ℕ
most_words limits args = max limits.heap (words_in args)

-- each state of a run is one that a path shows, and so is each frame that waits in it
abbrev pub StatesAreShown : Type 0
StatesAreShown =
    (ms : List Module) (limits : Limits) (function : ℕ) (args : List Tree) → AreChecked ms → IsCall ms function args
    → (k : ℕ) (s : BeamState) → run (beam_step ms limits) k (first_state ms limits function args) ≡ Still s → StateIsShown ms (most_words limits args) s

-- no run ends at a row that is stuck
abbrev pub NoRowIsStuck : Type 0
NoRowIsStuck =
    (ms : List Module) (limits : Limits) (function : ℕ) (args : List Tree) → AreChecked ms → IsCall ms function args
    → (k : ℕ) (finish : Finish) → run (beam_step ms limits) k (first_state ms limits function args) ≡ Done finish → finish.outcome ≢ Ended Stuck

-- a run ends within the rows of its meaning, so that is an outcome
abbrev pub RunsEnd : Type 0
RunsEnd =
    (ms : List Module) (limits : Limits) (function : ℕ) (args : List Tree) → AreChecked ms → IsCall ms function args
    → (finish : Finish) × (meaning ms limits function args ≡ Done finish) × (finish.outcome ≢ Ended Stuck)
