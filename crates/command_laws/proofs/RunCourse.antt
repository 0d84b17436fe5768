-- How a run on bytes that are told goes, whatever its arguments. Its status is one.
use Rattle.std.proofs.Common.{◌≡◌, ℕ, ◌<◌, ◌≤◌, ◌⊎◌, inl, inr, if◌then◌else◌, Option, Some, None, List, [], length, map, Result, Ok, Err, refl, sym, ap, subst, ◌∙◌, arith}
use Rattle.asm_text.specs.Reading.{arguments}
use Rattle.beam_code.specs.declared.call.Limits.{Limits}
use Rattle.beam_code.specs.declared.module.Module.{Module}
use Rattle.beam_code.specs.Meaning.{words_in}
use Rattle.command_laws.proofs.Course.{End, Inside, OfTexts, Outside, Refused, inside, modules_told, one_of_texts, outside, refused, some_and}
use Rattle.command_laws.proofs.Endings.{IsFound}
use Rattle.command_laws.specs.Output.{called}
use Rattle.faithful_image.specs.Line.{IsLineOf, IsPrinted}
use Rattle.hipe_base.specs.Files.{Held, HoldsFile}
use Rattle.hipe_base.specs.Reading.{IsLonger}
use Rattle.hipe_base.specs.Sink.{Seen}
use Rattle.hipe_core.specs.Command.{AreRefused, Called, Effects, IsImageRefused, IsNotBuilt, IsUnfit, RunsBytes, RunsEntry, RunsFile, RunsHeld, RunsTo, RunsWith, function_of, is_printed}
use Rattle.hipe_core.specs.declared.ending.Ending.{Ending}
use Rattle.hipe_core.specs.declared.ending.Ending.TheVariants.{Said, ArgsRefused, ImageRefused, NotExported, ArgsDoNotFit, CannotRead, CannotWrite, NoMemory, TooLong, NotBuilt}
use Rattle.hipe_core.specs.Lines.{status_of}
use Rattle.image_format.specs.Cursor.{FieldFault}
use Rattle.image_format.specs.declared.limits.TheConstants.{MOST_IMAGE_BYTES}
use Rattle.image_format.specs.declared.parts.Parts.{Parts}
use Rattle.image_format.specs.Reading.{reading}
use Rattle.mode_switch.proofs.Lines.{one_line}
use Rattle.mode_switch.specs.Call.{Call, IsCallOf, call_of}
use Rattle.mode_switch.specs.Machine.{DoNotFit, Ran, opened, ran}
use Rattle.native_link.specs.Checking.{Linked, checking, linked}
use Rattle.native_link.specs.declared.refusal.ImageRefusal.{ImageRefusal}
use Rattle.native_link.specs.declared.refusal.ImageRefusal.TheVariants as image
use Rattle.native_link.specs.Image.{Answers}
use Rattle.term_tree.specs.declared.term.Term.{Term}
use Rattle.term_tree.specs.Term.{tree_of}
use Rattle.text_forms.specs.declared.refusal.TextRefusal.{TextRefusal}
use Rattle.text_forms.specs.declared.refusal.TextRefusal.TheVariants as text

-- ---- the status of a run, from the parts on

abbrev line_status : List ℕ × ℕ → ℕ
line_status line = if is_printed line then line.1 else 11

-- the arguments fit, and a line of the run stands for this status
record LineGoes (l : Linked) (call : Call) (status : ℕ) : Type 0 where
  pub fits : IsCallOf l.modules call
  pub line : List ℕ × ℕ
  pub printed : IsPrinted l.modules l.parts call line
  pub status_is : status ≡ line_status line

-- or they do not fit
abbrev FunctionGoes : Linked → Called → ℕ → ℕ → Type 0
FunctionGoes l c function s =
    (DoNotFit l.modules c.owner c.name c.args c.limits × (s ≡ 6)) ⊎ LineGoes l (call_of function c.args c.limits []) s

abbrev NumberGoes : Option ℕ → Linked → Called → ℕ → Type 0
NumberGoes None l c s = s ≡ 6
NumberGoes (Some function) l c s = FunctionGoes l c function s

abbrev CheckedGoes : Result (Unit {0}) FieldFault → Linked → Called → ℕ → Type 0
CheckedGoes (Err f) l c s = s ≡ 5
CheckedGoes (Ok done) l c s = NumberGoes (function_of l c) l c s

abbrev EndGoes : End → Parts → Called → ℕ → Type 0
EndGoes (Inside ms) p c s = CheckedGoes (checking p ms) (linked p ms) c s
EndGoes other p c s = s ≡ 5

record TextsGo (p : Parts) (c : Called) (status : ℕ) : Type 0 where
  pub end : End
  pub so : OfTexts (modules_told p.texts) end
  pub goes : EndGoes end p c status

abbrev OfReading : Result Parts FieldFault → Called → ℕ → Type 0
OfReading (Err f) c s = s ≡ 5
OfReading (Ok p) c s = TextsGo p c s

-- a run has one line
one_line_of : (r : Ran) (a b : List ℕ × ℕ) → IsLineOf r a → IsLineOf r b → a ≡ b
one_line_of r a b g h = one_line r.progress.loaded r.progress.state r.answer a b g h

one_of_line : (l : Linked) (call : Call) (s t : ℕ) → LineGoes l call s → LineGoes l call t → s ≡ t
one_of_line l call s t g h =
    g.status_is ∙ ap line_status (one_line_of (ran (opened l.modules l.parts call)) g.line h.line g.printed h.printed) ∙ sym h.status_is

-- arguments that fit are not too long
fit_or_not : (ms : List Module) (function : ℕ) (c : Called) → DoNotFit ms c.owner c.name c.args c.limits → IsCallOf ms (call_of function c.args c.limits []) → ⊥
fit_or_not ms function c unfit call =
    let few : words_in (map tree_of c.args) ≤ c.limits.heap = call.heap in
    omega (arith, unfit.more, few)

one_of_function : (l : Linked) (c : Called) (function s t : ℕ) → FunctionGoes l c function s → FunctionGoes l c function t → s ≡ t
one_of_function l c function s t (inl g) (inl h) = g.1 ∙ sym h.1
one_of_function l c function s t (inl g) (inr h) = absurd (fit_or_not l.modules function c g.0 h.fits)
one_of_function l c function s t (inr g) (inl h) = absurd (fit_or_not l.modules function c h.0 g.fits)
one_of_function l c function s t (inr g) (inr h) = one_of_line l (call_of function c.args c.limits []) s t g h

one_of_number : (number : Option ℕ) (l : Linked) (c : Called) (s t : ℕ) → NumberGoes number l c s → NumberGoes number l c t → s ≡ t
one_of_number None l c s t g h = g ∙ sym h
one_of_number (Some function) l c s t g h = one_of_function l c function s t g h

one_of_checked : (r : Result (Unit {0}) FieldFault) (l : Linked) (c : Called) (s t : ℕ) → CheckedGoes r l c s → CheckedGoes r l c t → s ≡ t
one_of_checked (Err f) l c s t g h = g ∙ sym h
one_of_checked (Ok done) l c s t g h = one_of_number (function_of l c) l c s t g h

one_of_end : (end : End) (p : Parts) (c : Called) (s t : ℕ) → EndGoes end p c s → EndGoes end p c t → s ≡ t
one_of_end (Inside ms) p c s t g h = one_of_checked (checking p ms) (linked p ms) c s t g h
one_of_end other p c s t g h = g ∙ sym h

one_of_reading : (r : Result Parts FieldFault) (c : Called) (s t : ℕ) → OfReading r c s → OfReading r c t → s ≡ t
one_of_reading (Err f) c s t g h = g ∙ sym h
one_of_reading (Ok p) c s t g h =
    let same = one_of_texts (modules_told p.texts) g.end h.end g.so h.so in
    one_of_end h.end p c s t (subst (λ end. EndGoes end p c s) same g.goes) h.goes

-- ---- from how a run ended to its status

module _ (bytes : List ℕ) (c : Called) where
  abbrev Goes : ℕ → Type 0
  Goes s = OfReading (reading bytes) c s

  with_parts : (p : Parts) (s : ℕ) → reading bytes ≡ Ok p → TextsGo p c s → Goes s
  with_parts p s has go = subst (λ r. OfReading r c s) (sym has) go

  image_read : (l : Linked) (s : ℕ) → Answers bytes (Ok l) → NumberGoes (function_of l c) l c s → Goes s
  image_read l s a goes =
      with_parts l.parts s a.0.parts (record {
        end = Inside l.modules;
        so = inside l.parts.texts l.modules a.0.profiled.read a.0.profiled.profile;
        goes = subst (λ r. CheckedGoes r l c s) (sym a.1) goes;
      })

  image_refused : (r : ImageRefusal) → IsImageRefused bytes r → Goes 5
  image_refused (image.Memory e) h = absurd h
  image_refused (image.Field flaw at) (inl first) = subst (λ r. OfReading r c 5) (sym first) refl
  image_refused (image.Field flaw at) (inr v) =
      with_parts v.parts 5 v.read.parts (record {
        end = Inside v.modules;
        so = inside v.parts.texts v.modules v.read.profiled.read v.read.profiled.profile;
        goes = subst (λ r. CheckedGoes r (linked v.parts v.modules) c 5) (sym v.is) refl;
      })
  image_refused (image.Module index e) h = with_parts h.0 5 h.1 (record { end = Refused e; so = refused h.0.texts index e h.2; goes = refl })
  image_refused (image.Check r) h = with_parts h.0 5 h.1 (record { end = Outside; so = outside h.0.texts h.2.modules r h.2.read h.2.out; goes = refl })

  -- a function that is exported
  function_runs : (l : Linked) (function s : ℕ) → Answers bytes (Ok l) → function_of l c ≡ Some function → FunctionGoes l c function s → Goes s
  function_runs l function s a exported goes = image_read l s a (subst (λ number. NumberGoes number l c s) (sym exported) goes)

  line_printed : (line : List ℕ × ℕ) (s : ℕ) → RunsTo bytes c line → s ≡ line_status line → Goes s
  line_printed line s runs is =
      let x = runs.exported in
      function_runs x.image x.function s x.read x.exported (inr (record { fits = runs.call; line = line; printed = runs.is; status_is = is }))

  do_not_fit : IsUnfit bytes c → Goes 6
  do_not_fit h = function_runs h.0 h.2.function 6 h.1 h.2.exported (inl (h.2, refl))

  not_built : IsNotBuilt bytes c → Goes 11
  not_built h = line_printed h.0 11 h.1 (sym (ap (λ b. if b then h.0.1 else 11) h.2))

  runs_go : (e : Ending) (s t : Seen) → IsFound e → RunsBytes e bytes c s t → Goes (status_of e)
  runs_go (Said status) s t found w = line_printed w.line status w.runs (w.status_is refl ∙ sym (ap (λ b. if b then w.line.1 else 11) w.printed))
  runs_go (ImageRefused file e) s t found h = image_refused e h.1
  runs_go (NotExported entry count) s t found h =
      let l = h.2.0 in
      image_read l 6 h.2.1 (subst (λ number. NumberGoes number l c 6) (sym h.2.2) refl)
  runs_go ArgsDoNotFit s t found h = do_not_fit h.0
  runs_go (NotBuilt file) s t found h = not_built h.1
  runs_go CannotWrite s t found h = absurd found
  runs_go NoMemory s t found h = absurd found
  runs_go other s t found h = absurd h

-- ---- the bytes of the file

abbrev OfBytes : List ℕ → Called → ℕ → Type 0
OfBytes bytes c s = ((MOST_IMAGE_BYTES < length bytes) × (s ≡ 10)) ⊎ ((length bytes ≤ MOST_IMAGE_BYTES) × OfReading (reading bytes) c s)

one_of_bytes : (bytes : List ℕ) (c : Called) (s t : ℕ) → OfBytes bytes c s → OfBytes bytes c t → s ≡ t
one_of_bytes bytes c s t (inl g) (inl h) = g.1 ∙ sym h.1
one_of_bytes bytes c s t (inl g) (inr h) = absurd (omega (arith, g.0, h.0))
one_of_bytes bytes c s t (inr g) (inl h) = absurd (omega (arith, g.0, h.0))
one_of_bytes bytes c s t (inr g) (inr h) = one_of_reading (reading bytes) c s t g.1 h.1

abbrev OfFile : Option (List ℕ) → Called → ℕ → Type 0
OfFile None c s = ⊥
OfFile (Some bytes) c s = OfBytes bytes c s

one_of_file : (told : Option (List ℕ)) (c : Called) (s t : ℕ) → OfFile told c s → OfFile told c t → s ≡ t
one_of_file None c s t g h = absurd g
one_of_file (Some bytes) c s t g h = one_of_bytes bytes c s t g h

module _ (file : List ℕ → Option (List ℕ)) where
  held_goes : (e : Ending) (c : Called) (x : Effects) → x.files.before.held ≡ Some file → IsFound e → RunsHeld e c x → OfFile (file c.file) c (status_of e)
  held_goes e c x told found h =
      let holds : file c.file ≡ Some h.0 = subst (λ (held : Held). HoldsFile held c.file h.0) told h.1 in
      subst (λ o. OfFile o c (status_of e)) (sym holds) (inr (h.2, runs_go h.0 c e x.out x.out_after found h.3))

  file_goes : (e : Ending) (c : Called) (x : Effects) → x.files.before.held ≡ Some file → IsFound e → RunsFile e c x → OfFile (file c.file) c (status_of e)
  file_goes (TooLong name) c x told found h =
      let longer : IsLonger (Some file) c.file MOST_IMAGE_BYTES = subst (λ (held : Held). IsLonger held c.file MOST_IMAGE_BYTES) told h.1 in
      let more = some_and (file c.file) (λ bytes. MOST_IMAGE_BYTES < length bytes) longer in
      subst (λ o. OfFile o c 10) (sym more.1) (inl (more.2, refl))
  file_goes (CannotRead name) c x told found h = absurd found
  file_goes NoMemory c x told found h = absurd found
  file_goes other c x told found h = held_goes other c x told found h

  -- ---- the arguments

  abbrev OfArgs : Result (List Term) TextRefusal → List ℕ → List ℕ → List ℕ × List ℕ → Limits → ℕ → Type 0
  OfArgs (Err e) word entry names limits s = s ≡ 3
  OfArgs (Ok terms) word entry names limits s = OfFile (file word) (called word entry names terms limits) s

  one_of_args : (r : Result (List Term) TextRefusal) (word entry : List ℕ) (names : List ℕ × List ℕ) (limits : Limits) (s t : ℕ) →
      OfArgs r word entry names limits s → OfArgs r word entry names limits t → s ≡ t
  one_of_args (Err e) word entry names limits s t g h = g ∙ sym h
  one_of_args (Ok terms) word entry names limits s t g h = one_of_file (file word) (called word entry names terms limits) s t g h

  args_refused : (args : List ℕ) (e : TextRefusal) → AreRefused args e → arguments args ≡ Err e
  args_refused args (text.Memory e) h = absurd h
  args_refused args other h = h

  args_go : (e : Ending) (word entry args : List ℕ) (names : List ℕ × List ℕ) (limits : Limits) (x : Effects) → x.files.before.held ≡ Some file → IsFound e →
      RunsWith e word entry names args limits x → OfArgs (arguments args) word entry names limits (status_of e)
  args_go (ArgsRefused e) word entry args names limits x told found h =
      subst (λ r. OfArgs r word entry names limits 3) (sym (args_refused args e h.0)) refl
  args_go NoMemory word entry args names limits x told found h = absurd found
  args_go other word entry args names limits x told found h =
      subst (λ r. OfArgs r word entry names limits (status_of other)) (sym h.1) (file_goes other (called word entry names h.0 limits) x told found h.2)

  pub entry_course : (word entry : List ℕ) (names : Option (List ℕ × List ℕ)) (args : List ℕ) (limits : Limits) (e f : Ending) (x y : Effects) →
      x.files.before.held ≡ Some file → y.files.before.held ≡ Some file → IsFound e → IsFound f →
      RunsEntry e word entry names args limits x → RunsEntry f word entry names args limits y → status_of e ≡ status_of f
  entry_course word entry None args limits e f x y told said a b p q = absurd p
  entry_course word entry (Some names) args limits e f x y told said a b p q =
      one_of_args (arguments args) word entry names limits (status_of e) (status_of f) (args_go e word entry args names limits x told a p) (args_go f word entry args names limits y said b q)
