-- The line that texts mean of a call, and the reading of what is compiled of them (docs/COMMANDS.md, run; docs/MACHINE.md, Outcomes).
use Rattle.std.specs.Prelude.{ℕ, ◌≡◌, Some, Ok, Err, List, [], length, true}
use Rattle.std.specs.declared.alloc.AllocError.{AllocError}
use Rattle.beam_code.specs.declared.module.Module.{Module}
use Rattle.beam_code.specs.Function.{exported_number}
use Rattle.faithful_image.specs.Line.{MeansLine}
use Rattle.hipe_core.specs.Command.{Called, RunsTo, is_printed}
use Rattle.hipe_core.specs.Image.{IsImageOf}
use Rattle.mode_switch.specs.Call.{IsCallOf, call_of}
use Rattle.module_texts.specs.Texts.{AreProfiled}
use Rattle.native_link.specs.Checking.{Linked}
use Rattle.native_link.specs.declared.refusal.ImageRefusal.{ImageRefusal}
use Rattle.native_link.specs.declared.refusal.ImageRefusal.TheVariants as image
use Rattle.native_link.specs.Image.{Answers}
use Rattle.trivial_code.specs.Trivial.{are_trivial}

-- the bytes are what is compiled of these texts, whose functions are trivial
pub record IsCompiled (texts : List (List ℕ)) (bytes : List ℕ) : Type 0 where
  pub modules : List Module
  pub profiled : AreProfiled texts modules
  pub trivial : are_trivial modules ≡ true
  pub image : IsImageOf modules bytes

-- the modules export the function, and the call of it means this line
pub record ModulesMean (ms : List Module) (c : Called) (line : List ℕ × ℕ) : Type 0 where
  pub function : ℕ
  pub exported : exported_number ms c.owner c.name (length c.args) ≡ Some function
  pub means : MeansLine ms (call_of function c.args c.limits []) line

-- a run on what is compiled of texts prints what these mean
abbrev pub CompiledRunsPrintTheirMeaning : Type 0
CompiledRunsPrintTheirMeaning =
    (texts : List (List ℕ)) (bytes : List ℕ) (c : Called) (line : List ℕ × ℕ) → (made : IsCompiled texts bytes) → RunsTo bytes c line
    → ModulesMean made.modules c line × (is_printed line ≡ true)

-- the bytes are read as an image of these modules, and nothing but want of memory keeps them from being read
pub record IsReadAs (ms : List Module) (bytes : List ℕ) : Type 0 where
  pub linked : Linked
  pub read : Answers bytes (Ok linked)
  pub modules : linked.modules ≡ ms
  pub refused : (e : ImageRefusal) → Answers bytes (Err e) → (want : AllocError) × (e ≡ image.Memory want)

-- a run of a call comes to a line
pub record IsRun (bytes : List ℕ) (c : Called) : Type 0 where
  pub line : List ℕ × ℕ
  pub runs : RunsTo bytes c line

-- the bytes are read, and each call of a function that the modules export is run, with terms that fit the heap as
-- arguments, under all limits in range
pub record IsRead (ms : List Module) (bytes : List ℕ) : Type 0 where
  pub read : IsReadAs ms bytes
  pub runs :
      (c : Called) (function : ℕ) → exported_number ms c.owner c.name (length c.args) ≡ Some function → IsCallOf ms (call_of function c.args c.limits [])
      → IsRun bytes c

-- what is compiled of texts is read
abbrev pub CompiledImagesAreRead : Type 0
CompiledImagesAreRead = (texts : List (List ℕ)) (bytes : List ℕ) (made : IsCompiled texts bytes) → IsRead made.modules bytes
