-- How the run of a call on an image may end (docs/COMMANDS.md, run).
use Rattle.std.specs.Prelude.{ℕ, ◌≡◌, true, false, Option, Some, None, List, [], length}
use Rattle.beam_code.specs.declared.call.Limits.{Limits}
use Rattle.faithful_image.specs.Line.{IsLineOf, IsPrinted}
use Rattle.hipe_base.specs.Sink.{Seen}
use Rattle.hipe_core.specs.Command.{Called, function_of, is_printed}
use Rattle.hipe_core.specs.declared.ending.Ending.{Ending}
use Rattle.hipe_core.specs.declared.ending.Ending.TheVariants.{Said, ArgsRefused, ImageRefused, NotExported, ArgsDoNotFit, CannotWrite, NoMemory, NotBuilt}
use Rattle.native_link.specs.declared.refusal.ImageRefusal.{ImageRefusal}
use Rattle.native_link.specs.declared.refusal.ImageRefusal.TheVariants as image
use Rattle.text_forms.specs.declared.refusal.TextRefusal.{TextRefusal}
use Rattle.text_forms.specs.declared.refusal.TextRefusal.TheVariants as text
use Rattle.hipe_core.specs.Saying.{Says}
use Rattle.mode_switch.specs.Call.{IsCallOf, call_of}
use Rattle.mode_switch.specs.Machine.{DoNotFit, Ran}
use Rattle.mode_switch.specs.declared.machine.Call as code
use Rattle.native_link.specs.Checking.{Linked}

-- the call by the words that name its image and its entry
abbrev pub called : List ℕ → List ℕ → code.Call → Limits → Called
called file entry call limits =
    record { file = file; entry = entry; owner = call.«module»; name = call.function; args = call.args; limits = limits }

-- the line of the outcome was written, or not
abbrev pub SaysLine : Ending → List ℕ → List ℕ × ℕ → Seen → Seen → Type 0
SaysLine (Said status) file line before after = (is_printed line ≡ true) × (status ≡ line.1) × Says true line.0 before after
SaysLine CannotWrite file line before after = (is_printed line ≡ true) × Says false line.0 before after
SaysLine (NotBuilt name) file line before after = (name.now ≡ file) × (is_printed line ≡ false) × (after ≡ before)
SaysLine e file line before after = ⊥

-- a line of the run was written, or not, or there was no memory for it
abbrev pub SaysRun : Ending → List ℕ → Ran → Seen → Seen → Type 0
SaysRun NoMemory file r before after = after ≡ before
SaysRun e file r before after = (line : List ℕ × ℕ) × IsLineOf r line × SaysLine e file line before after

-- of a function that is exported
abbrev pub RunsFunction : Ending → Linked → Called → ℕ → Seen → Seen → Type 0
RunsFunction ArgsDoNotFit l c function before after = DoNotFit l.modules c.owner c.name c.args c.limits × (after ≡ before)
RunsFunction e l c function before after =
    IsCallOf l.modules (call_of function c.args c.limits [])
    × ((line : List ℕ × ℕ) × IsPrinted l.modules l.parts (call_of function c.args c.limits []) line × SaysLine e c.file line before after)

abbrev pub RunsNumber : Ending → Linked → Called → Option ℕ → Seen → Seen → Type 0
RunsNumber (NotExported entry count) l c None before after = (entry.now ≡ c.entry) × (count ≡ length c.args) × (after ≡ before)
RunsNumber NoMemory l c number before after = after ≡ before
RunsNumber e l c None before after = ⊥
RunsNumber e l c (Some function) before after = RunsFunction e l c function before after

abbrev pub RunsOpened : Ending → Linked → Called → Seen → Seen → Type 0
RunsOpened e l c before after = RunsNumber e l c (function_of l c) before after

-- how the refusal of an image, of a file of this name, ends the command
abbrev pub EndsImage : ImageRefusal → List ℕ → Ending → Type 0
EndsImage (image.Memory e) file NoMemory = Unit {0}
EndsImage (image.Memory e) file other = ⊥
EndsImage e file (ImageRefused name refusal) = (name.now ≡ file) × (refusal ≡ e)
EndsImage e file other = ⊥

-- and that of arguments
abbrev pub EndsArgs : TextRefusal → Ending → Type 0
EndsArgs (text.Memory e) NoMemory = Unit {0}
EndsArgs (text.Memory e) other = ⊥
EndsArgs e (ArgsRefused refusal) = refusal ≡ e
EndsArgs e other = ⊥
