-- From how a command ended to its answer.
use Rattle.std.proofs.Common.{◌≡◌, ℕ, ◌<◌, ◌≤◌, inl, inr, true, is_some, Option, Some, None, List, [], refl, sym, ap, subst, ◌∙◌, arith}
use Rattle.asm_text.specs.Entry.{entry_of}
use Rattle.beam_code.specs.declared.call.Limits.{Limits}
use Rattle.beam_profile.specs.declared.refusal.ModuleRefusal.TheVariants as unread
use Rattle.hipe_base.specs.Sink.{Seen}
use Rattle.hipe_core.specs.Answer.{Case, EndedSo, IsAnswer, IsOfImage, IsOfLength, IsOfModules, IsOfReading, IsOfStage, IsOfText, IsOfWords}
use Rattle.hipe_core.specs.Command.{Called, Effects, Ends, IsUntouched, RunsEntry, RunsFile, RunsWith, WritesOutcome, is_printed}
use Rattle.hipe_core.specs.declared.ending.Ending.{Ending}
use Rattle.hipe_core.specs.declared.ending.Ending.TheVariants.{Said, Usage, ArgsRefused, ModuleRefused, CheckRefused, ImageRefused, NotExported, ArgsDoNotFit, CannotRead, CannotWrite, NoMemory, TooLong, NotBuilt}
use Rattle.hipe_core.specs.Files.{IsQuiet}
use Rattle.hipe_core.specs.Lines.{status_of}
use Rattle.hipe_core.specs.Telling.{CanWant, Finishes, IsSayable}
use Rattle.hipe_core.specs.Words.{Asked, Nothing, Check, Compile, Run}
use Rattle.mode_switch.specs.Call.{call_of}
use Rattle.mode_switch.specs.Machine.{Ran, opened, ran}
use Rattle.mode_switch.specs.declared.outcome.End.{End}
use Rattle.mode_switch.specs.declared.outcome.End.TheVariants as end
use Rattle.mode_switch.specs.declared.outcome.Outcome.{Outcome}
use Rattle.mode_switch.specs.declared.outcome.Outcome.TheVariants.{Returned, Raised, Ended}
use Rattle.mode_switch.specs.declared.text.TheConstants.{MOST_PRINTED, RAISE_STATUS, VALUE_STATUS}
use Rattle.mode_switch.specs.Store.{store_of}
use Rattle.mode_switch.specs.Text.{IsLineIn, end_text, raise_head, term_line, value_head}
use Rattle.tagged_words.specs.Store.{Store}
use Rattle.word_walks.specs.Spelt.{Large, Meets, Spelling, Text, spelt}

-- ---- an output that was written has the status 0, 1 or 2

abbrev IsLow : ℕ → Type 0
IsLow status = status ≤ 2

abbrev LowIf : List ℕ × ℕ → Type 0
LowIf line = is_printed line ≡ true → IsLow line.1

term_low : (head : List ℕ) (status : ℕ) (s : Spelling) → status ≤ 2 → LowIf (term_line head status s)
term_low head status (Text text nodes) low e = low
term_low head status Large low e = low
term_low head status (Meets w) low e = omega arith

end_low : (names : List (List ℕ)) (e : End) → LowIf (end_text names e)
end_low names (end.NotBuilt at) h = absurd cc
end_low names other h = omega arith

line_low : (store : Store) (names : List (List ℕ)) (o : Outcome) (line : List ℕ × ℕ) → IsLineIn store names o line → LowIf line
line_low store names (Returned w) line says = subst LowIf says.2 (term_low value_head VALUE_STATUS (spelt MOST_PRINTED says.0) (omega arith))
line_low store names (Raised class w) line says = subst LowIf says.2 (term_low (raise_head class) RAISE_STATUS (spelt MOST_PRINTED says.0) (omega arith))
line_low store names (Ended e) line says = subst LowIf says (end_low names e)

written_low : (status : ℕ) (bytes : List ℕ) (c : Called) (before after : Seen) → WritesOutcome true status bytes c before after → IsLow status
written_low status bytes c before after w =
    let x = w.runs.exported in
    let r : Ran = ran (opened x.image.modules x.image.parts (call_of x.function c.args c.limits [])) in
    let low : IsLow w.line.1 = line_low (store_of r.progress.loaded r.progress.state) r.progress.loaded.names r.answer w.line w.runs.is w.printed in
    subst IsLow (sym (w.status_is refl)) low

file_low : (status : ℕ) (c : Called) (x : Effects) → RunsFile (Said status) c x → IsLow status
file_low status c x r = written_low status r.0 c x.out x.out_after r.3

entry_low : (status : ℕ) (file entry args : List ℕ) (names : Option (List ℕ × List ℕ)) (limits : Limits) (x : Effects) → RunsEntry (Said status) file entry names args limits x → IsLow status
entry_low status file entry args None limits x r = absurd r
entry_low status file entry args (Some names) limits x r = file_low status _ x r.2

ends_low : (q : Asked) (status : ℕ) (x : Effects) → Ends q (Said status) x → IsLow status
ends_low Nothing status x e = absurd cc
ends_low (Check names) status x e = subst IsLow (sym e.0) (omega arith)
ends_low (Compile chosen names) status x e = subst IsLow (sym e.0) (omega arith)
ends_low (Run file entry args limits) status x e = entry_low status file entry args (entry_of entry) limits x e

-- ---- what stays as it was where the line wants memory

file_untouched : (e : Ending) (c : Called) (x : Effects) → CanWant e → RunsFile e c x → IsUntouched x
file_untouched (Said status) c x w r = absurd w
file_untouched ArgsDoNotFit c x w r = absurd w
file_untouched CannotWrite c x w r = absurd w
file_untouched NoMemory c x w r = absurd w
file_untouched (CannotRead file) c x w r = r.2
file_untouched (TooLong file) c x w r = r.3
file_untouched (ImageRefused file e) c x w r = r.3.2
file_untouched (NotExported entry count) c x w r = r.3.3
file_untouched (NotBuilt file) c x w r = r.3.2
file_untouched other c x w r = absurd r.3

with_untouched : (e : Ending) (file entry args : List ℕ) (names : List ℕ × List ℕ) (limits : Limits) (x : Effects) → CanWant e → RunsWith e file entry names args limits x → IsUntouched x
with_untouched (ArgsRefused e) file entry args names limits x w r = r.2
with_untouched NoMemory file entry args names limits x w r = absurd w
with_untouched other file entry args names limits x w r = file_untouched other (record { file = file; entry = entry; owner = names.0; name = names.1; args = r.0; limits = limits }) x w r.2

wants_entry : (e : Ending) (file entry args : List ℕ) (names : Option (List ℕ × List ℕ)) (limits : Limits) (x : Effects) → CanWant e → RunsEntry e file entry names args limits x → RunsEntry NoMemory file entry names args limits x
wants_entry e file entry args None limits x w r = r
wants_entry e file entry args (Some names) limits x w r = with_untouched e file entry args names limits x w r

wants_check : (e : Ending) (names : List (List ℕ)) (x : Effects) → CanWant e → Ends (Check names) e x → Ends (Check names) NoMemory x
wants_check (Said status) names x w r = absurd w
wants_check CannotWrite names x w r = absurd w
wants_check other names x w r = (tt, r.1)

-- a command whose line wants memory may end for want of it
wants : (q : Asked) (e : Ending) (x : Effects) → CanWant e → Ends q e x → Ends q NoMemory x
wants Nothing e x w r = absurd (subst CanWant r.0 w)
wants (Check names) e x w r = wants_check e names x w r
wants (Compile chosen names) (Said status) x w r = absurd w
wants (Compile chosen names) CannotWrite x w r = absurd w
wants (Compile chosen names) other x w r = (tt, r.1)
wants (Run file entry args limits) e x w r = wants_entry e file entry args (entry_of entry) limits x w r

-- ---- which ending a status stands for

-- the status of what was written is one of these
abbrev IsKnown : Ending → Type 0
IsKnown (Said status) = IsLow status
IsKnown other = Unit {0}

known_by : (q : Asked) (e : Ending) (x : Effects) → Ends q e x → IsKnown e
known_by q (Said status) x r = ends_low q status x r
known_by q other x r = tt

never : {A : Type 0} (n status : ℕ) → 2 < n → IsLow status → status ≡ n → A
never n status high low is = absurd (omega (arith, is))

of_text : (e : Ending) → IsKnown e → status_of e ≡ 3 → IsOfText e
of_text (Said status) known is = never 3 status (omega arith) known is
of_text (ArgsRefused e) known is = tt
of_text (ModuleRefused file (unread.Text e)) known is = tt
of_text other known is = absurd cc

of_modules : (e : Ending) → IsKnown e → status_of e ≡ 4 → IsOfModules e
of_modules (Said status) known is = never 4 status (omega arith) known is
of_modules (ModuleRefused file (unread.Text e)) known is = absurd cc
of_modules (ModuleRefused file e) known is = tt
of_modules (CheckRefused r) known is = tt
of_modules other known is = absurd cc

of_image : (e : Ending) → IsKnown e → status_of e ≡ 5 → IsOfImage e
of_image (Said status) known is = never 5 status (omega arith) known is
of_image (ImageRefused file e) known is = tt
of_image (ModuleRefused file (unread.Text e)) known is = absurd cc
of_image other known is = absurd cc

of_words : (e : Ending) → IsKnown e → status_of e ≡ 6 → IsOfWords e
of_words (Said status) known is = never 6 status (omega arith) known is
of_words Usage known is = tt
of_words (NotExported entry count) known is = tt
of_words ArgsDoNotFit known is = tt
of_words (ModuleRefused file (unread.Text e)) known is = absurd cc
of_words other known is = absurd cc

of_reading : (e : Ending) → IsKnown e → status_of e ≡ 7 → IsOfReading e
of_reading (Said status) known is = never 7 status (omega arith) known is
of_reading (CannotRead file) known is = tt
of_reading (ModuleRefused file (unread.Text e)) known is = absurd cc
of_reading other known is = absurd cc

of_length : (e : Ending) → IsKnown e → status_of e ≡ 10 → IsOfLength e
of_length (Said status) known is = never 10 status (omega arith) known is
of_length (TooLong file) known is = tt
of_length (ModuleRefused file (unread.Text e)) known is = absurd cc
of_length other known is = absurd cc

of_stage : (e : Ending) → IsKnown e → status_of e ≡ 11 → IsOfStage e
of_stage (Said status) known is = never 11 status (omega arith) known is
of_stage (NotBuilt file) known is = tt
of_stage (ModuleRefused file (unread.Text e)) known is = absurd cc
of_stage other known is = absurd cc

of_output : (e : Ending) (n : ℕ) → n ≤ 2 → status_of e ≡ n → e ≡ Said n
of_output (Said status) n low is = ap Said is
of_output (ModuleRefused file (unread.Text e)) n low is = absurd (omega (arith, is))
of_output (ModuleRefused file e) n low is = absurd (omega (arith, is))
of_output other n low is = absurd (omega (arith, is))

of_writing : (e : Ending) → IsKnown e → status_of e ≡ 8 → e ≡ CannotWrite
of_writing (Said status) known is = never 8 status (omega arith) known is
of_writing CannotWrite known is = refl
of_writing (ModuleRefused file (unread.Text e)) known is = absurd cc
of_writing other known is = absurd cc

of_memory : (e : Ending) → IsKnown e → status_of e ≡ 9 → e ≡ NoMemory
of_memory (Said status) known is = never 9 status (omega arith) known is
of_memory NoMemory known is = refl
of_memory (ModuleRefused file (unread.Text e)) known is = absurd cc
of_memory other known is = absurd cc

low_status : (e : Ending) → IsKnown e → status_of e ≤ 11
low_status (Said status) known = omega arith
low_status (ModuleRefused file (unread.Text e)) known = omega arith
low_status (ModuleRefused file e) known = omega arith
low_status other known = omega arith

answer_by : (c : Case) (e : Ending) (status : ℕ) → EndedSo c e → IsKnown e → status ≡ status_of e → IsQuiet c.effects.files → IsAnswer c status
answer_by c e status so known is quiet =
    record {
      done = λ n. subst (EndedSo c) (of_output e 0 (omega arith) (sym is ∙ n)) so;
      raised = λ n. subst (EndedSo c) (of_output e 1 (omega arith) (sym is ∙ n)) so;
      ended = λ n. subst (EndedSo c) (of_output e 2 (omega arith) (sym is ∙ n)) so;
      texts = λ n. record { ending = e; kind = of_text e known (sym is ∙ n); so = so };
      modules = λ n. record { ending = e; kind = of_modules e known (sym is ∙ n); so = so };
      image = λ n. record { ending = e; kind = of_image e known (sym is ∙ n); so = so };
      words = λ n. record { ending = e; kind = of_words e known (sym is ∙ n); so = so };
      unreadable = λ n. record { ending = e; kind = of_reading e known (sym is ∙ n); so = so };
      unwritable = λ n. subst (EndedSo c) (of_writing e known (sym is ∙ n)) so;
      wanting = λ n. subst (EndedSo c) (of_memory e known (sym is ∙ n)) so;
      long = λ n. record { ending = e; kind = of_length e known (sym is ∙ n); so = so };
      unbuilt = λ n. record { ending = e; kind = of_stage e known (sym is ∙ n); so = so };
      known = omega (arith, is, low_status e known);
      quiet = quiet;
    }

-- the answer, from how the command ended and how that was told
pub answer_is : (c : Case) (e : Ending) (status : ℕ) → Ends c.asks e c.effects → Finishes e status c.before c.after → IsQuiet c.effects.files → IsAnswer c status
answer_is c e status ends finishes quiet =
    elim finishes [
      | inl it ↦ answer_by c e status (record { cause = ends; told = it.told }) (known_by c.asks e c.effects ends) it.status_is quiet
      | inr w ↦ answer_by c NoMemory status (record { cause = wants c.asks e c.effects w.0 ends; told = w.1.told }) tt w.1.status_is quiet
    ]

-- ---- an entry that is named is one

sayable_by : (entry : List ℕ) (e : Ending) (names : Option (List ℕ × List ℕ)) (file args : List ℕ) (limits : Limits) (x : Effects) → entry_of entry ≡ names → RunsEntry e file entry names args limits x → IsSayable e
sayable_by entry e None file args limits x is r = absurd r
sayable_by entry (NotExported word count) (Some names) file args limits x is r =
    let same : word.now ≡ entry = r.2.3.0 in
    ap (λ w. is_some (entry_of w)) same ∙ ap is_some is
sayable_by entry other (Some names) file args limits x is r = tt

pub sayable : (q : Asked) (e : Ending) (x : Effects) → Ends q e x → IsSayable e
sayable Nothing e x r = subst IsSayable (sym r.0) tt
sayable (Check names) (NotExported word count) x r = absurd r.0
sayable (Check names) other x r = tt
sayable (Compile chosen names) (NotExported word count) x r = absurd r.0
sayable (Compile chosen names) other x r = tt
sayable (Run file entry args limits) e x r = sayable_by entry e (entry_of entry) file args limits x refl r
