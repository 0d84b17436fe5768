-- The answer of the program: each status with its cause, what standard output and standard error got, and what stays
-- untouched (docs/COMMANDS.md, Statuses).
use Rattle.std.specs.Prelude.{ℕ, ◌≡◌, ◌≤◌}
use Rattle.beam_profile.specs.declared.refusal.ModuleRefusal.TheVariants as unread
use Rattle.hipe_base.specs.Sink.{Seen}
use Rattle.hipe_core.specs.Command.{Effects, Ends}
use Rattle.hipe_core.specs.declared.ending.Ending.{Ending}
use Rattle.hipe_core.specs.declared.ending.Ending.TheVariants.{Said, Usage, ArgsRefused, ModuleRefused, CheckRefused, ImageRefused, NotExported, ArgsDoNotFit, CannotRead, CannotWrite, NoMemory, TooLong, NotBuilt}
use Rattle.hipe_core.specs.Files.{IsQuiet}
use Rattle.hipe_core.specs.Lines.{IsTold}
use Rattle.hipe_core.specs.Words.{Asked}

-- ---- which endings a status stands for

abbrev pub IsOfText : Ending → Type 0
IsOfText (ArgsRefused e) = Unit {0}
IsOfText (ModuleRefused file (unread.Text e)) = Unit {0}
IsOfText e = ⊥

abbrev pub IsOfModules : Ending → Type 0
IsOfModules (ModuleRefused file (unread.Text e)) = ⊥
IsOfModules (ModuleRefused file e) = Unit {0}
IsOfModules (CheckRefused r) = Unit {0}
IsOfModules e = ⊥

abbrev pub IsOfImage : Ending → Type 0
IsOfImage (ImageRefused file e) = Unit {0}
IsOfImage e = ⊥

abbrev pub IsOfWords : Ending → Type 0
IsOfWords Usage = Unit {0}
IsOfWords (NotExported entry count) = Unit {0}
IsOfWords ArgsDoNotFit = Unit {0}
IsOfWords e = ⊥

abbrev pub IsOfReading : Ending → Type 0
IsOfReading (CannotRead file) = Unit {0}
IsOfReading e = ⊥

abbrev pub IsOfLength : Ending → Type 0
IsOfLength (TooLong file) = Unit {0}
IsOfLength e = ⊥

abbrev pub IsOfStage : Ending → Type 0
IsOfStage (NotBuilt file) = Unit {0}
IsOfStage e = ⊥

-- ---- the whole

-- what a command asks, what files and standard output told before it and after it, and what standard error did
pub record Case : Type 0 where
  pub asks : Asked
  pub effects : Effects
  pub before : Seen
  pub after : Seen

abbrev pub case : Asked → Effects → Seen → Seen → Case
case q x before after = record { asks = q; effects = x; before = before; after = after }

-- the command ended so for its cause, and standard error got what tells it
pub record EndedSo (c : Case) (e : Ending) : Type 0 where
  pub cause : Ends c.asks e c.effects
  pub told : IsTold e c.before c.after

-- the same of some ending of a kind
pub record EndedBy (Kind : Ending → Type 0) (c : Case) : Type 0 where
  pub ending : Ending
  pub kind : Kind ending
  pub so : EndedSo c ending

pub record IsAnswer (c : Case) (status : ℕ) : Type 0 where
  -- the output was written, and nothing to standard error: all is done, or the run gave a value; the run gave an
  -- exception; or it came to another end
  pub done : status ≡ 0 → EndedSo c (Said 0)
  pub raised : status ≡ 1 → EndedSo c (Said 1)
  pub ended : status ≡ 2 → EndedSo c (Said 2)
  -- a text or the arguments are refused; a module or the modules together are; the image is
  pub texts : status ≡ 3 → EndedBy IsOfText c
  pub modules : status ≡ 4 → EndedBy IsOfModules c
  pub image : status ≡ 5 → EndedBy IsOfImage c
  -- the words are no command, or no such function is exported, or the arguments do not fit the heap
  pub words : status ≡ 6 → EndedBy IsOfWords c
  -- a file could not be read; the output could not be written; there was not enough memory; files are too long
  pub unreadable : status ≡ 7 → EndedBy IsOfReading c
  pub unwritable : status ≡ 8 → EndedSo c CannotWrite
  pub wanting : status ≡ 9 → EndedSo c NoMemory
  pub long : status ≡ 10 → EndedBy IsOfLength c
  -- this stage of the program does not do it
  pub unbuilt : status ≡ 11 → EndedBy IsOfStage c
  -- there is no other status; what files hold stays, and their counts do not fall
  pub known : status ≤ 11
  pub quiet : IsQuiet c.effects.files
