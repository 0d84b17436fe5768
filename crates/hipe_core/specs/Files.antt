-- Texts that are read from files one after the other, their bytes counted together (docs/COMMANDS.md, Files).
use Rattle.std.specs.Prelude.{ℕ, ◌≡◌, ◌+◌, ◌-◌, ◌≤◌, List, [], ◌∷◌, ◌++◌, Some, Result, Ok, Err, length, take, slice_get}
use Rattle.beam_code.specs.declared.module.Module.{Module}
use Rattle.beam_code.specs.declared.module.TheConstants.{MOST_TEXT_BYTES}
use Rattle.beam_profile.specs.declared.refusal.ModuleRefusal.{ModuleRefusal}
use Rattle.hipe_base.specs.Count.{RoseBy, counted}
use Rattle.hipe_base.specs.Files.{Held, Told, HoldsFile, FilesFailed}
use Rattle.hipe_base.specs.Reading.{IsLonger}
use Rattle.hipe_core.specs.declared.ending.Ending.{Ending}
use Rattle.hipe_core.specs.declared.ending.Ending.TheVariants.{ModuleRefused, CheckRefused, CannotRead, NoMemory, TooLong}
use Rattle.image_format.specs.Fitting.{total_length}
use Rattle.module_check.specs.declared.refusal.CheckRefusal.{CheckRefusal}
use Rattle.module_texts.specs.Texts.{AreOut, AreProfiled, IsUnread}

-- what files tell before a command and after it
pub record Course : Type 0 where
  pub before : Told
  pub after : Told

abbrev pub course : Told → Told → Course
course before after = record { before = before; after = after }

-- what files hold stays, and their counts do not fall
pub record IsQuiet (c : Course) : Type 0 where
  pub held : c.after.held ≡ c.before.held
  pub faults : c.before.faults ≤ c.after.faults
  pub taken : c.before.taken ≤ c.after.taken

-- the files hold these texts, in order, where they tell their bytes
abbrev pub AreHeld : Held → List (List ℕ) → List (List ℕ) → Type 0
AreHeld held [] [] = Unit {0}
AreHeld held [] (t ∷ ts) = ⊥
AreHeld held (f ∷ fs) [] = ⊥
AreHeld held (f ∷ fs) (t ∷ ts) = HoldsFile held f t × AreHeld held fs ts

-- the files hold these texts, which are no longer together than the limit
pub record AreTexts (held : Held) (names texts : List (List ℕ)) : Type 0 where
  pub held_so : AreHeld held names texts
  pub few : total_length texts ≤ MOST_TEXT_BYTES

-- one of these files, with the texts of those before it
pub record IsReached (held : Held) (names : List (List ℕ)) (file : List ℕ) : Type 0 where
  pub index : ℕ
  pub is : slice_get names index ≡ Some file
  pub texts : List (List ℕ)
  pub before : AreTexts held (take index names) texts

-- a failure was counted when it was read, or it is told that there is none
pub record IsUnreadable (c : Course) (names : List (List ℕ)) (file : List ℕ) : Type 0 where
  pub reached : IsReached c.before.held names file
  pub failed : FilesFailed c.before.faults c.after.faults c.before.held file

-- the files up to it hold more bytes together than the limit, and more were taken
pub record IsTooLong (c : Course) (names : List (List ℕ)) (file : List ℕ) : Type 0 where
  pub reached : IsReached c.before.held names file
  pub longer : IsLonger c.before.held file (MOST_TEXT_BYTES - total_length reached.texts)
  pub taken : RoseBy c.before.taken MOST_TEXT_BYTES c.after.taken

-- the text of one file is none of a module, and those before it are
pub record IsNoModule (c : Course) (names : List (List ℕ)) (file : List ℕ) (e : ModuleRefusal) : Type 0 where
  pub texts : List (List ℕ)
  pub read : AreTexts c.before.held names texts
  pub index : ℕ
  pub is : slice_get names index ≡ Some file
  pub unread : IsUnread texts index e

-- the texts are those of modules that are out of the profile
pub record AreOutside (c : Course) (names : List (List ℕ)) (r : CheckRefusal) : Type 0 where
  pub texts : List (List ℕ)
  pub read : AreTexts c.before.held names texts
  pub out : AreOut texts r

-- the texts are those of these modules in the profile
pub record AreChecked (c : Course) (names : List (List ℕ)) (ms : List Module) : Type 0 where
  pub texts : List (List ℕ)
  pub read : AreTexts c.before.held names texts
  pub profiled : AreProfiled texts ms

-- how a command on files of texts may end before it has their modules: the files in order, then each text in order, then
-- the modules together
abbrev pub FilesEnd : Ending → List (List ℕ) → Course → Type 0
FilesEnd (CannotRead file) names c = IsUnreadable c names file.now
FilesEnd (TooLong file) names c = IsTooLong c names file.now
FilesEnd (ModuleRefused file e) names c = IsNoModule c names file.now e
FilesEnd (CheckRefused r) names c = AreOutside c names r
FilesEnd NoMemory names c = Unit {0}
FilesEnd e names c = ⊥

-- the bytes of one file, or how its reading ended
pub record IsFileText (c : Course) (file : List ℕ) (room : ℕ) (text : List ℕ) : Type 0 where
  pub holds : HoldsFile c.before.held file text
  pub fits : length text ≤ room
  pub taken : c.after.taken ≡ counted c.before.taken (length text)

abbrev pub ReadsFile : Result (List ℕ) Ending → List ℕ → ℕ → Course → Type 0
ReadsFile (Ok text) file room c = IsFileText c file room text
ReadsFile (Err (CannotRead name)) file room c = (name.now ≡ file) × FilesFailed c.before.faults c.after.faults c.before.held file
ReadsFile (Err (TooLong name)) file room c = (name.now ≡ file) × IsLonger c.before.held file room × RoseBy c.before.taken room c.after.taken
ReadsFile (Err NoMemory) file room c = Unit {0}
ReadsFile (Err e) file room c = ⊥

-- the text of the file is one more of the texts, and this is the room behind it
pub record IsOneMore (before after : List (List ℕ)) (file : List ℕ) (room left : ℕ) (c : Course) : Type 0 where
  pub text : List ℕ
  pub read : IsFileText c file room text
  pub pushed : after ≡ before ++ text ∷ []
  pub sum : left + length text ≡ room

abbrev pub AddsText : Result ℕ Ending → List (List ℕ) → List (List ℕ) → List ℕ → ℕ → Course → Type 0
AddsText (Ok left) before after file room c = IsOneMore before after file room left c
AddsText (Err e) before after file room c = ReadsFile (Err e) file room c

-- the text at a place is none of a module, and this is how that is told
abbrev pub IsRefusal : Ending → List (List ℕ) → ℕ → ModuleRefusal → Type 0
IsRefusal (ModuleRefused file e) names index refusal = (slice_get names index ≡ Some file.now) × (e ≡ refusal)
IsRefusal e names index refusal = ⊥

-- the texts, or how their reading ended
abbrev pub ReadsTexts : Result (List (List ℕ)) Ending → List (List ℕ) → Course → Type 0
ReadsTexts (Ok texts) names c = AreTexts c.before.held names texts
ReadsTexts (Err e) names c = FilesEnd e names c

-- the modules, or how the command ended
abbrev pub ReadsModules : Result (List Module) Ending → List (List ℕ) → Course → Type 0
ReadsModules (Ok ms) names c = AreChecked c names ms
ReadsModules (Err e) names c = FilesEnd e names c
