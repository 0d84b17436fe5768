-- Calls of exported functions, and their runs on an image (docs/MACHINE.md, Runs).
use Rattle.std.specs.Prelude.{ℕ, ◌≡◌, ◌≤◌, List, [], map, Some, length}
use Rattle.std.specs.List.{AllByRecursion}
use Rattle.small_step.specs.Stage.{Stage}
use Rattle.beam_code.specs.declared.call.Limits.{Limits}
use Rattle.beam_code.specs.declared.module.Module.{Module}
use Rattle.beam_code.specs.Function.{exported_number}
use Rattle.beam_code.specs.Meaning.{words_in}
use Rattle.image_format.specs.declared.parts.Parts.{Parts}
use Rattle.image_format.specs.Fitting.{IsWord}
use Rattle.tagged_words.specs.declared.addresses.TheConstants.{HEAP_START}
use Rattle.tagged_words.specs.Laid.{laid_in_turn, words_in_turn, with_atoms_of}
use Rattle.term_tree.specs.declared.term.Term.{Term}
use Rattle.term_tree.specs.IsTerm.{IsTerm}
use Rattle.term_tree.specs.Term.{tree_of}
use Rattle.term_tree.specs.Tree.{Tree}
use Rattle.mode_switch.specs.declared.addresses.TheConstants.{MOST_REDUCTIONS, MOST_WORDS}
use Rattle.mode_switch.specs.Destination.{entry_address}
use Rattle.mode_switch.specs.Run.{first_state, mixed_run}
use Rattle.mode_switch.specs.State.{Loaded, MixedState, Finish}

-- limits within their greatest values
pub record IsInRange (limits : Limits) : Type 0 where
  pub reductions : limits.reductions ≤ MOST_REDUCTIONS
  pub heap : limits.heap ≤ MOST_WORDS
  pub stack : limits.stack ≤ MOST_WORDS

-- a call: the function by number, its arguments, the limits, and the junk
pub record Call : Type 0 where
  pub function : ℕ
  pub args : List Tree
  pub limits : Limits
  pub junk : List ℕ

-- the call of the function with a number, with terms as arguments
abbrev pub call_of : ℕ → List Term → Limits → List ℕ → Call
call_of function args limits junk = record { function = function; args = map tree_of args; limits = limits; junk = junk }

-- the function is exported with as many arguments, which are terms, and their words fit the heap; no junk yet
pub record IsCallOf (ms : List Module) (call : Call) : Type 0 where
  pub owner : List ℕ
  pub name : List ℕ
  pub exported : exported_number ms owner name (length call.args) ≡ Some call.function
  pub terms : AllByRecursion IsTerm call.args
  pub heap : words_in call.args ≤ call.limits.heap
  pub limits : IsInRange call.limits
  pub words : AllByRecursion IsWord call.junk
  pub no_junk : call.junk ≡ []

-- what stays as it is during the call's run
abbrev pub loaded : List Module → Parts → Call → Loaded
loaded ms parts call =
    record { modules = ms; parts = parts; limits = call.limits; names = with_atoms_of parts.atoms call.args; junk = call.junk }

-- the machine at the start of a call
abbrev pub start : Loaded → Call → MixedState
start g call =
    first_state g.limits (entry_address g.modules g.parts.natives call.function) (laid_in_turn g.names HEAP_START call.args)
    (words_in_turn g.names HEAP_START call.args)

-- the call's run of so many steps
abbrev pub run_of : Loaded → Call → ℕ → Stage MixedState Finish
run_of g call n = mixed_run g n (start g call)
