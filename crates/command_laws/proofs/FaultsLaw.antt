-- Where no fault came in, none is answered.
use Rattle.std.proofs.Common.{◌≡◌, ℕ, zero, suc, ◌+◌, ◌≤◌, inl, inr, min, false, Option, Some, None, IsSome, List, [], ◌∷◌, length, slice_get, refl, sym, subst, arith, true≢false}
use Rattle.asm_text.specs.Entry.{entry_of}
use Rattle.beam_code.specs.declared.call.Limits.{Limits}
use Rattle.command_laws.specs.Faults.{AreThere, HasNoFault, HasRoom, IsStill, IsThere}
use Rattle.command_laws.specs.Output.{IsEntryLine, IsOutputOf, files_of}
use Rattle.hipe_base.specs.Count.{Rose, most}
use Rattle.hipe_base.specs.Files.{FilesFailed, Held, Lacks}
use Rattle.hipe_base.specs.Sink.{IsShort, Seen, SinkFailed}
use Rattle.hipe_core.specs.Answer.{Case, EndedBy, IsAnswer, IsOfReading}
use Rattle.hipe_core.specs.Command.{Effects, Ends, RunsEntry}
use Rattle.hipe_core.specs.declared.ending.Ending.{Ending}
use Rattle.hipe_core.specs.declared.ending.Ending.TheVariants.{CannotRead, CannotWrite}
use Rattle.hipe_core.specs.Files.{Course, IsUnreadable}
use Rattle.hipe_core.specs.Saying.{Says}
use Rattle.hipe_core.specs.Words.{Asked, Nothing, Check, Compile, Run}

not_rose : (before after : ℕ) → IsStill before after → Rose before after → ⊥
not_rose before after still rose = let r : min (before + 1) most ≤ after = rose in omega (arith, still.below, still.same)

not_lacking : (held : Held) (name : List ℕ) → IsThere held name → Lacks held name → ⊥
not_lacking None name there lacks = lacks
not_lacking (Some file) name there lacks = true≢false (sym (subst IsSome lacks there))

not_failed : (before after : ℕ) (held : Held) (name : List ℕ) → IsStill before after → IsThere held name → FilesFailed before after held name → ⊥
not_failed before after held name still there (inl rose) = not_rose before after still rose
not_failed before after held name still there (inr lacks) = not_lacking held name there lacks

there_at : (held : Held) (names : List (List ℕ)) (index : ℕ) (file : List ℕ) → AreThere held names → slice_get names index ≡ Some file → IsThere held file
there_at held [] index file there is = absurd cc
there_at held (f ∷ fs) zero file there is = let same : f ≡ file = cc in subst (IsThere held) same there.0
there_at held (f ∷ fs) (suc index) file there is = there_at held fs index file there.1 is

all_read : (c : Course) (names : List (List ℕ)) (file : List ℕ) → IsStill c.before.faults c.after.faults → AreThere c.before.held names → IsUnreadable c names file → ⊥
all_read c names file still there un =
    not_failed c.before.faults c.after.faults c.before.held file still (there_at c.before.held names un.reached.index file there un.reached.is) un.failed

run_read : (file entry args : List ℕ) (names : Option (List ℕ × List ℕ)) (limits : Limits) (x : Effects) (e : Ending) → IsStill x.files.before.faults x.files.after.faults →
    IsThere x.files.before.held file → IsOfReading e → RunsEntry e file entry names args limits x → ⊥
run_read file entry args None limits x e still there kind r = r
run_read file entry args (Some names) limits x (CannotRead word) still there kind r = not_failed _ _ x.files.before.held file still there r.2.1
run_read file entry args (Some names) limits x other still there kind r = kind

read_so : (q : Asked) (x : Effects) (e : Ending) → IsStill x.files.before.faults x.files.after.faults → AreThere x.files.before.held (files_of q) → IsOfReading e → Ends q e x → ⊥
read_so Nothing x e still there kind ends = subst IsOfReading ends.0 kind
read_so (Check names) x (CannotRead file) still there kind ends = all_read x.files names _ still there ends.0
read_so (Check names) x other still there kind ends = kind
read_so (Compile chosen names) x (CannotRead file) still there kind ends = all_read x.files names _ still there ends.0
read_so (Compile chosen names) x other still there kind ends = kind
read_so (Run file entry args limits) x e still there kind ends = run_read file entry args (entry_of entry) limits x e still there.0 kind ends

-- ---- the output

not_short : (room : Option ℕ) (n : ℕ) → HasRoom room n → IsShort room n → ⊥
not_short None n has short = short
not_short (Some room) n has short = omega (arith, has, short)

not_unwritten : (before after : ℕ) (room : Option ℕ) (n : ℕ) → IsStill before after → HasRoom room n → SinkFailed before after room n → ⊥
not_unwritten before after room n still has (inl rose) = not_rose before after still rose
not_unwritten before after room n still has (inr short) = not_short room n has short

all_said : (text : List ℕ) (before after : Seen) → IsStill before.faults after.faults → HasRoom before.room (length text) → Says false text before after → ⊥
all_said text before after still has said = not_unwritten before.faults after.faults before.room (length text) still has (said.failed refl)

-- there is room for each of these outputs
abbrev Fit : (List ℕ → Type 0) → Effects → Type 0
Fit Output x = (text : List ℕ) → Output text → HasRoom x.out.room (length text)

run_written : (file entry args : List ℕ) (names : Option (List ℕ × List ℕ)) (limits : Limits) (x : Effects) → IsStill x.out.faults x.out_after.faults →
    Fit (IsEntryLine x.files.before.held file entry names args limits) x → RunsEntry CannotWrite file entry names args limits x → ⊥
run_written file entry args None limits x still fit r = r
run_written file entry args (Some names) limits x still fit r =
    let held = r.2 in
    let w = held.3 in
    all_said w.line.0 x.out x.out_after still
    (fit w.line.0 (record { terms = r.0; read = r.1; bytes = held.0; holds = held.1; line = w.line; runs = w.runs; printed = w.printed; is = refl })) w.said

written_so : (q : Asked) (x : Effects) → IsStill x.out.faults x.out_after.faults → Fit (IsOutputOf q x.files) x → Ends q CannotWrite x → ⊥
written_so Nothing x still fit ends = absurd cc
written_so (Check names) x still fit ends = all_said _ x.out x.out_after still (fit _ (record { modules = ends.modules; checked = ends.checked; is = refl })) ends.said
written_so (Compile chosen names) x still fit ends =
    all_said ends.image x.out x.out_after still (fit ends.image (record { modules = ends.modules; checked = ends.checked; trivial = ends.trivial; is = ends.is })) ends.said
written_so (Run file entry args limits) x still fit ends = run_written file entry args (entry_of entry) limits x still fit ends

-- ---- the whole

pub faults_have_their_cause : (c : Case) (status : ℕ) → IsAnswer c status → HasNoFault c → (status ≡ 7 → ⊥) × (status ≡ 8 → ⊥)
faults_have_their_cause c status a h = (
  λ is. (let by : EndedBy IsOfReading c = a.unreadable is in read_so c.asks c.effects by.ending h.files h.there by.kind by.so.cause),
  λ is. written_so c.asks c.effects h.out h.room (a.unwritable is).cause,
)
