-- From the run of a call to how a run on its bytes ended.
use Rattle.std.proofs.Common.{◌≡◌, ℕ, List, [], Option, Some, None, Ok, Err, refl, sym, subst}
use Rattle.faithful_image.specs.Line.{IsLineOf}
use Rattle.hipe_base.specs.Sink.{Seen}
use Rattle.hipe_core.specs.Command.{Called, IsExported, IsImageRefused, RunsBytes, function_of}
use Rattle.hipe_core.specs.declared.ending.Ending.{Ending}
use Rattle.hipe_core.specs.declared.ending.Ending.TheVariants.{Said, ImageRefused, NotExported, ArgsDoNotFit, CannotWrite, NoMemory, NotBuilt}
use Rattle.hipe_core.specs.Running.{EndsImage, RunsFunction, RunsNumber, RunsOpened, SaysLine, SaysRun}
use Rattle.mode_switch.specs.Call.{IsCallOf, call_of}
use Rattle.mode_switch.specs.Machine.{DoNotFit, IsOpened, Progress, Ran, opened as opened_for, ran}
use Rattle.native_link.specs.Checking.{Linked}
use Rattle.native_link.specs.declared.refusal.ImageRefusal.{ImageRefusal}
use Rattle.native_link.specs.declared.refusal.ImageRefusal.TheVariants as image
use Rattle.native_link.specs.Image.{Answers}

-- the endings of a run of a function that is there are those of its line
at_number : (e : Ending) (l : Linked) (c : Called) (function : ℕ) (s t : Seen) → IsCallOf l.modules (call_of function c.args c.limits [])
    → SaysRun e c.file (ran (opened_for l.modules l.parts (call_of function c.args c.limits []))) s t → RunsNumber e l c (Some function) s t
at_number NoMemory l c function s t call says = says
at_number ArgsDoNotFit l c function s t call says = absurd says.2
at_number other l c function s t call says = (call, says)

-- a line of the run was said
pub says_run : (e : Ending) (file : List ℕ) (r : Ran) (line : List ℕ × ℕ) (s t : Seen) → IsLineOf r line → SaysLine e file line s t → SaysRun e file r s t
says_run NoMemory file r line s t is says = absurd says
says_run other file r line s t is says = (line, is, says)

-- the run of the function that was opened
pub runs_opened : (e : Ending) (l : Linked) (c : Called) (junk : List ℕ) (p : Progress) (s t : Seen) → junk ≡ [] → IsOpened l.modules l.parts c.owner c.name c.args c.limits junk p → SaysRun e c.file (ran p) s t → RunsOpened e l c s t
runs_opened e l c junk p s t none opened says =
    subst (λ number. RunsNumber e l c number s t) (sym opened.exported)
    (at_number e l c opened.function s t (subst (λ j. IsCallOf l.modules (call_of opened.function c.args c.limits j)) none opened.call)
    (subst (λ j. SaysRun e c.file (ran (opened_for l.modules l.parts (call_of opened.function c.args c.limits j))) s t) none
    (subst (λ q. SaysRun e c.file (ran q) s t) opened.is says)))

-- the arguments do not fit
pub unfit : (l : Linked) (c : Called) (s : Seen) → DoNotFit l.modules c.owner c.name c.args c.limits → RunsOpened ArgsDoNotFit l c s s
unfit l c s h = subst (λ number. RunsNumber ArgsDoNotFit l c number s s) (sym h.exported) (h, refl)

abbrev exported_by : (bytes : List ℕ) (c : Called) (l : Linked) (function : ℕ) → Answers bytes (Ok l) → function_of l c ≡ Some function → IsExported bytes c
exported_by bytes c l function read is = record { image = l; read = read; function = function; exported = is }

-- a function that is exported was run
function_by : (e : Ending) (bytes : List ℕ) (c : Called) (l : Linked) (function : ℕ) (s t : Seen) → Answers bytes (Ok l) → function_of l c ≡ Some function → RunsFunction e l c function s t → RunsBytes e bytes c s t
function_by ArgsDoNotFit bytes c l function s t read is h = ((l, read, h.0), h.1)
function_by (Said status) bytes c l function s t read is h =
    record {
      line = h.1.0;
      runs = record { exported = exported_by bytes c l function read is; call = h.0; is = h.1.1 };
      printed = h.1.2.0;
      status_is = λ w. h.1.2.1;
      said = h.1.2.2;
    }
function_by CannotWrite bytes c l function s t read is h =
    record {
      line = h.1.0;
      runs = record { exported = exported_by bytes c l function read is; call = h.0; is = h.1.1 };
      printed = h.1.2.0;
      status_is = λ w. absurd cc;
      said = h.1.2.1;
    }
function_by (NotBuilt name) bytes c l function s t read is h =
    (h.1.2.0, (h.1.0, record { exported = exported_by bytes c l function read is; call = h.0; is = h.1.1 }, h.1.2.1), h.1.2.2)
function_by other bytes c l function s t read is h = absurd h.1.2

number_by : (e : Ending) (bytes : List ℕ) (c : Called) (l : Linked) (number : Option ℕ) (s t : Seen) → Answers bytes (Ok l) → function_of l c ≡ number → RunsNumber e l c number s t → RunsBytes e bytes c s t
number_by (NotExported entry count) bytes c l None s t read is runs = (runs.0, runs.1, (l, read, is), runs.2)
number_by NoMemory bytes c l number s t read is runs = runs
number_by other bytes c l None s t read is runs = absurd runs
number_by other bytes c l (Some function) s t read is runs = function_by other bytes c l function s t read is runs

pub runs_bytes : (e : Ending) (bytes : List ℕ) (c : Called) (l : Linked) (s t : Seen) → Answers bytes (Ok l) → RunsOpened e l c s t → RunsBytes e bytes c s t
runs_bytes e bytes c l s t read runs = number_by e bytes c l (function_of l c) s t read refl runs

-- the image was refused
pub refused_bytes : (refusal : ImageRefusal) (e : Ending) (bytes : List ℕ) (c : Called) (s : Seen) → Answers bytes (Err refusal) → EndsImage refusal c.file e → RunsBytes e bytes c s s
refused_bytes (image.Memory m) NoMemory bytes c s read ends = refl
refused_bytes (image.Memory m) other bytes c s read ends = absurd ends
refused_bytes (image.Field flaw at) (ImageRefused name r) bytes c s read ends = (ends.0, subst (IsImageRefused bytes) (sym ends.1) read, refl)
refused_bytes (image.Field flaw at) other bytes c s read ends = absurd ends
refused_bytes (image.Module index m) (ImageRefused name r) bytes c s read ends = (ends.0, subst (IsImageRefused bytes) (sym ends.1) read, refl)
refused_bytes (image.Module index m) other bytes c s read ends = absurd ends
refused_bytes (image.Check k) (ImageRefused name r) bytes c s read ends = (ends.0, subst (IsImageRefused bytes) (sym ends.1) read, refl)
refused_bytes (image.Check k) other bytes c s read ends = absurd ends
