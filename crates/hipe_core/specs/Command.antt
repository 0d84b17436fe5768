-- What a command may come to, by what its words ask and its files hold (docs/COMMANDS.md).
use Rattle.std.specs.Prelude.{ℕ, ◌≡◌, ◌≤◌, Bool, true, false, Option, Some, None, Ok, Err, List, [], length, nat_eq, not, slice_get}
use Rattle.asm_text.specs.Entry.{entry_of}
use Rattle.asm_text.specs.Reading.{arguments}
use Rattle.text_forms.specs.declared.refusal.TextRefusal.{TextRefusal}
use Rattle.text_forms.specs.declared.refusal.TextRefusal.TheVariants as text
use Rattle.beam_code.specs.declared.call.Limits.{Limits}
use Rattle.beam_code.specs.declared.module.Module.{Module}
use Rattle.beam_code.specs.Function.{exported_number}
use Rattle.faithful_image.specs.Line.{IsPrinted}
use Rattle.hipe_base.specs.Count.{RoseBy}
use Rattle.hipe_base.specs.Files.{HoldsFile, FilesFailed}
use Rattle.hipe_base.specs.Reading.{IsLonger}
use Rattle.hipe_base.specs.Sink.{Seen}
use Rattle.hipe_core.specs.Checking.{ok_lines}
use Rattle.hipe_core.specs.declared.ending.Ending.{Ending}
use Rattle.hipe_core.specs.declared.ending.Ending.TheVariants.{Said, Usage, ArgsRefused, ImageRefused, NotExported, ArgsDoNotFit, CannotRead, CannotWrite, NoMemory, TooLong, NotBuilt}
use Rattle.hipe_core.specs.Files.{AreChecked, Course, FilesEnd}
use Rattle.hipe_core.specs.Image.{IsImageOf}
use Rattle.hipe_core.specs.Saying.{Says}
use Rattle.hipe_core.specs.Words.{Asked, Nothing, Check, Compile, Run}
use Rattle.image_format.specs.declared.limits.TheConstants.{MOST_IMAGE_BYTES}
use Rattle.mode_switch.specs.Call.{IsCallOf, call_of}
use Rattle.mode_switch.specs.Machine.{DoNotFit}
use Rattle.mode_switch.specs.declared.text.TheConstants.{NOT_BUILT_STATUS}
use Rattle.native_link.specs.Checking.{Linked}
use Rattle.native_link.specs.declared.refusal.ImageRefusal.{ImageRefusal}
use Rattle.native_link.specs.declared.refusal.ImageRefusal.TheVariants as image
use Rattle.native_link.specs.Image.{Answers}
use Rattle.term_tree.specs.declared.term.Term.{Term}
use Rattle.trivial_code.specs.Trivial.{are_trivial}

-- what files and standard output tell before a command and after it
pub record Effects : Type 0 where
  pub files : Course
  pub out : Seen
  pub out_after : Seen

abbrev pub effects : Course → Seen → Seen → Effects
effects files out out_after = record { files = files; out = out; out_after = out_after }

-- nothing was written
abbrev pub IsUntouched : Effects → Type 0
IsUntouched x = x.out_after ≡ x.out

-- no file was opened
abbrev pub IsUnread : Effects → Type 0
IsUnread x = x.files.after ≡ x.files.before

-- ---- check

-- the lines of the modules were written, all of them or, where that failed, a prefix
pub record WritesLines (whole : Bool) (names : List (List ℕ)) (x : Effects) : Type 0 where
  pub modules : List Module
  pub checked : AreChecked x.files names modules
  pub said : Says whole (ok_lines modules) x.out x.out_after

abbrev pub Checks : Ending → List (List ℕ) → Effects → Type 0
Checks (Said status) names x = (status ≡ 0) × WritesLines true names x
Checks CannotWrite names x = WritesLines false names x
Checks e names x = FilesEnd e names x.files × IsUntouched x

-- ---- compile

-- the image of the modules was written, all of it or a prefix
pub record WritesImage (whole : Bool) (names : List (List ℕ)) (x : Effects) : Type 0 where
  pub modules : List Module
  pub checked : AreChecked x.files names modules
  pub trivial : are_trivial modules ≡ true
  pub image : List ℕ
  pub is : IsImageOf modules image
  pub said : Says whole image x.out x.out_after

-- some function of the modules is not trivial
pub record IsNotTrivial (names : List (List ℕ)) (file : List ℕ) (x : Effects) : Type 0 where
  pub modules : List Module
  pub checked : AreChecked x.files names modules
  pub other : are_trivial modules ≡ false
  pub first : slice_get names 0 ≡ Some file

abbrev pub Compiles : Ending → List (List ℕ) → Effects → Type 0
Compiles (Said status) names x = (status ≡ 0) × WritesImage true names x
Compiles CannotWrite names x = WritesImage false names x
Compiles (NotBuilt file) names x = IsNotTrivial names file.now x × IsUntouched x
Compiles e names x = FilesEnd e names x.files × IsUntouched x

-- ---- run

-- a call: the word of its image, its entry with the names of its module and its function, its arguments and its limits
pub record Called : Type 0 where
  pub file : List ℕ
  pub entry : List ℕ
  pub owner : List ℕ
  pub name : List ℕ
  pub args : List Term
  pub limits : Limits

-- the function that is called, if it is exported
abbrev pub function_of : Linked → Called → Option ℕ
function_of l c = exported_number l.modules c.owner c.name (length c.args)

-- the bytes are an image that exports the function
pub record IsExported (bytes : List ℕ) (c : Called) : Type 0 where
  pub image : Linked
  pub read : Answers bytes (Ok image)
  pub function : ℕ
  pub exported : function_of image c ≡ Some function

-- the arguments fit, and the run of the call has this line, with its status
pub record RunsTo (bytes : List ℕ) (c : Called) (line : List ℕ × ℕ) : Type 0 where
  pub exported : IsExported bytes c
  pub call : IsCallOf exported.image.modules (call_of exported.function c.args c.limits [])
  pub is : IsPrinted exported.image.modules exported.image.parts (call_of exported.function c.args c.limits []) line

-- whether an outcome is printed today
abbrev pub is_printed : List ℕ × ℕ → Bool
is_printed line = not (nat_eq line.1 NOT_BUILT_STATUS)

-- the line of the outcome was written, all of it or a prefix
pub record WritesOutcome (whole : Bool) (status : ℕ) (bytes : List ℕ) (c : Called) (before after : Seen) : Type 0 where
  pub line : List ℕ × ℕ
  pub runs : RunsTo bytes c line
  pub printed : is_printed line ≡ true
  pub status_is : whole ≡ true → status ≡ line.1
  pub said : Says whole line.0 before after

-- what this stage does not do: an outcome that is not printed yet
abbrev pub IsNotBuilt : List ℕ → Called → Type 0
IsNotBuilt bytes c = (line : List ℕ × ℕ) × RunsTo bytes c line × (is_printed line ≡ false)

-- no such function is exported
abbrev pub IsNotExported : List ℕ → Called → Type 0
IsNotExported bytes c = (l : Linked) × Answers bytes (Ok l) × (function_of l c ≡ None)

-- the function is exported, and the words of the arguments pass the limit of the heap
abbrev pub IsUnfit : List ℕ → Called → Type 0
IsUnfit bytes c = (l : Linked) × Answers bytes (Ok l) × DoNotFit l.modules c.owner c.name c.args c.limits

-- the image is refused for a cause of its own
abbrev pub IsImageRefused : List ℕ → ImageRefusal → Type 0
IsImageRefused bytes (image.Memory e) = ⊥
IsImageRefused bytes e = Answers bytes (Err e)

-- how a run on these bytes may end, and what was written
abbrev pub RunsBytes : Ending → List ℕ → Called → Seen → Seen → Type 0
RunsBytes (Said status) bytes c before after = WritesOutcome true status bytes c before after
RunsBytes CannotWrite bytes c before after = WritesOutcome false 0 bytes c before after
RunsBytes (ImageRefused file e) bytes c before after = (file.now ≡ c.file) × IsImageRefused bytes e × (after ≡ before)
RunsBytes (NotExported entry count) bytes c before after = (entry.now ≡ c.entry) × (count ≡ length c.args) × IsNotExported bytes c × (after ≡ before)
RunsBytes ArgsDoNotFit bytes c before after = IsUnfit bytes c × (after ≡ before)
RunsBytes (NotBuilt file) bytes c before after = (file.now ≡ c.file) × IsNotBuilt bytes c × (after ≡ before)
RunsBytes NoMemory bytes c before after = after ≡ before
RunsBytes e bytes c before after = ⊥

-- the file holds these bytes, which led to that
abbrev pub RunsHeld : Ending → Called → Effects → Type 0
RunsHeld e c x =
    (bytes : List ℕ) × HoldsFile x.files.before.held c.file bytes × (length bytes ≤ MOST_IMAGE_BYTES) × RunsBytes e bytes c x.out x.out_after

abbrev pub RunsFile : Ending → Called → Effects → Type 0
RunsFile (CannotRead file) c x =
    (file.now ≡ c.file) × FilesFailed x.files.before.faults x.files.after.faults x.files.before.held c.file × IsUntouched x
RunsFile (TooLong file) c x =
    (file.now ≡ c.file) × IsLonger x.files.before.held c.file MOST_IMAGE_BYTES
    × RoseBy x.files.before.taken MOST_IMAGE_BYTES x.files.after.taken × IsUntouched x
RunsFile NoMemory c x = IsUntouched x
RunsFile e c x = RunsHeld e c x

-- the arguments are refused
abbrev pub AreRefused : List ℕ → TextRefusal → Type 0
AreRefused args (text.Memory e) = ⊥
AreRefused args e = arguments args ≡ Err e

-- the arguments come first: they are refused before a file is opened, or the call is run with them
abbrev pub RunsWith : Ending → List ℕ → List ℕ → List ℕ × List ℕ → List ℕ → Limits → Effects → Type 0
RunsWith (ArgsRefused e) file entry names args limits x = AreRefused args e × IsUnread x × IsUntouched x
RunsWith NoMemory file entry names args limits x = IsUntouched x
RunsWith e file entry names args limits x =
    (terms : List Term) × (arguments args ≡ Ok terms)
    × RunsFile e (record { file = file; entry = entry; owner = names.0; name = names.1; args = terms; limits = limits }) x

abbrev pub RunsEntry : Ending → List ℕ → List ℕ → Option (List ℕ × List ℕ) → List ℕ → Limits → Effects → Type 0
RunsEntry e file entry None args limits x = ⊥
RunsEntry e file entry (Some names) args limits x = RunsWith e file entry names args limits x

-- ---- the whole

-- how a command may end
abbrev pub Ends : Asked → Ending → Effects → Type 0
Ends Nothing e x = (e ≡ Usage) × IsUnread x × IsUntouched x
Ends (Check names) e x = Checks e names x
Ends (Compile chosen names) e x = Compiles e names x
Ends (Run file entry args limits) e x = RunsEntry e file entry (entry_of entry) args limits x
