-- The files that a command reads, and the outputs that it may have (docs/COMMANDS.md).
use Rattle.std.specs.Prelude.{ℕ, ◌≡◌, true, Option, Some, None, List, [], ◌∷◌, Ok}
use Rattle.asm_text.specs.Entry.{entry_of}
use Rattle.asm_text.specs.Reading.{arguments}
use Rattle.beam_code.specs.declared.call.Limits.{Limits}
use Rattle.beam_code.specs.declared.module.Module.{Module}
use Rattle.hipe_base.specs.Files.{Held, HoldsFile}
use Rattle.hipe_core.specs.Answer.{Case}
use Rattle.hipe_core.specs.Checking.{ok_lines}
use Rattle.hipe_core.specs.Command.{Called, RunsTo, is_printed}
use Rattle.hipe_core.specs.Files.{AreChecked, Course}
use Rattle.hipe_core.specs.Image.{IsImageOf}
use Rattle.hipe_core.specs.Words.{Asked, Nothing, Check, Compile, Run}
use Rattle.term_tree.specs.declared.term.Term.{Term}
use Rattle.trivial_code.specs.Trivial.{are_trivial}

-- the files that a command names
abbrev pub files_of : Asked → List (List ℕ)
files_of Nothing = []
files_of (Check names) = names
files_of (Compile chosen names) = names
files_of (Run file entry args limits) = file ∷ []

-- the lines of the modules of these files
pub record AreLines (files : Course) (names : List (List ℕ)) (text : List ℕ) : Type 0 where
  pub modules : List Module
  pub checked : AreChecked files names modules
  pub is : text ≡ ok_lines modules

-- an image of the modules of these files
pub record IsImage (files : Course) (names : List (List ℕ)) (text : List ℕ) : Type 0 where
  pub modules : List Module
  pub checked : AreChecked files names modules
  pub trivial : are_trivial modules ≡ true
  pub is : IsImageOf modules text

abbrev pub called : List ℕ → List ℕ → List ℕ × List ℕ → List Term → Limits → Called
called file entry names terms limits = record { file = file; entry = entry; owner = names.0; name = names.1; args = terms; limits = limits }

-- the printed line of a run of this function on the bytes of this file
pub record IsRunLine (held : Held) (file entry : List ℕ) (names : List ℕ × List ℕ) (args : List ℕ) (limits : Limits) (text : List ℕ) : Type 0 where
  pub terms : List Term
  pub read : arguments args ≡ Ok terms
  pub bytes : List ℕ
  pub holds : HoldsFile held file bytes
  pub line : List ℕ × ℕ
  pub runs : RunsTo bytes (called file entry names terms limits) line
  pub printed : is_printed line ≡ true
  pub is : text ≡ line.0

abbrev pub IsEntryLine : Held → List ℕ → List ℕ → Option (List ℕ × List ℕ) → List ℕ → Limits → List ℕ → Type 0
IsEntryLine held file entry None args limits text = ⊥
IsEntryLine held file entry (Some names) args limits text = IsRunLine held file entry names args limits text

abbrev pub IsOutputOf : Asked → Course → List ℕ → Type 0
IsOutputOf Nothing files text = ⊥
IsOutputOf (Check names) files text = AreLines files names text
IsOutputOf (Compile chosen names) files text = IsImage files names text
IsOutputOf (Run file entry args limits) files text = IsEntryLine files.before.held file entry (entry_of entry) args limits text

-- the command may write this to standard output, over what its files hold
abbrev pub IsOutput : Case → List ℕ → Type 0
IsOutput c text = IsOutputOf c.asks c.effects.files text
