-- What a machine begins a call with, at the entry of the function that is called (docs/MACHINE.md, Runs).
use Rattle.std.specs.Prelude.{ℕ, ◌≡◌, ◌<◌, ◌≤◌, Option, Some, None, List, replicate, Result, Ok, Err}
use Rattle.std.specs.List.{AllByRecursion}
use Rattle.beam_code.specs.declared.call.Limits.{Limits}
use Rattle.beam_code.specs.declared.module.Module.{Module}
use Rattle.beam_code.specs.Function.{exported_number, items_of}
use Rattle.beam_code.specs.Meaning.{words_in}
use Rattle.image_format.specs.declared.parts.Parts.{Parts}
use Rattle.mode_switch.specs.declared.machine.OpenRefusal.{OpenRefusal}
use Rattle.mode_switch.specs.declared.machine.OpenRefusal.TheVariants as refusal
use Rattle.mode_switch.specs.declared.opening.Start.{Start}
use Rattle.module_texts.specs.Bounds.{most_arguments}
use Rattle.mode_switch.specs.Destination.{entry_address}
use Rattle.mode_switch.specs.Machine.{entries_of}
use Rattle.mode_switch.specs.Run.{first_state}
use Rattle.mode_switch.specs.State.{MixedState}
use Rattle.tagged_words.specs.declared.addresses.TheConstants.{HEAP_START}
use Rattle.tagged_words.specs.Laid.{laid_in_turn, with_atoms_of, words_in_turn}
use Rattle.term_tree.specs.IsTerm.{IsTerm}
use Rattle.term_tree.specs.Tree.{Tree}

-- no exported function has more arguments than any function
abbrev pub IsLow : List Module → Type 0
IsLow ms = (owner name : List ℕ) (arity function : ℕ) → exported_number ms owner name arity ≡ Some function → arity ≤ most_arguments

-- the first state at an entry, for these arguments with these names of atoms
abbrev pub first_state_of : Limits → ℕ → List (List ℕ) → List Tree → MixedState
first_state_of limits entry names args = first_state limits entry (laid_in_turn names HEAP_START args) (words_in_turn names HEAP_START args)

-- the number of items, the atoms of the image with those of the arguments, entries for walks, and the first state
abbrev pub opening : List Module → Parts → Limits → List Tree → ℕ → Start
opening ms parts limits args entry =
    record {
      items = items_of ms;
      atoms = with_atoms_of parts.atoms args;
      scratch = replicate (entries_of parts limits) 0;
      hardware = first_state_of limits entry (with_atoms_of parts.atoms args) args;
    }

-- a start for arguments that are terms and fit the heap
pub record IsStart (ms : List Module) (parts : Parts) (limits : Limits) (args : List Tree) (entry : ℕ) (s : Start) : Type 0 where
  pub is : s ≡ opening ms parts limits args entry
  pub terms : AllByRecursion IsTerm args
  pub heap : words_in args ≤ limits.heap

-- that of the function with a number, for a call with these arguments; or why there is none
abbrev pub Starts : List Module → Parts → Limits → Option ℕ → List Tree → Result Start OpenRefusal → Type 0
Starts ms parts limits None args (Err refusal.NotExported) = Unit {0}
Starts ms parts limits None args other = ⊥
Starts ms parts limits (Some function) args (Ok s) = IsStart ms parts limits args (entry_address ms parts.natives function) s
Starts ms parts limits (Some function) args (Err refusal.ArgsDoNotFit) = limits.heap < words_in args
Starts ms parts limits (Some function) args (Err (refusal.Memory e)) = words_in args ≤ limits.heap
Starts ms parts limits (Some function) args other = ⊥
