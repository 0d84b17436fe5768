-- What a command asks and its files hold settle its status.
use Rattle.std.proofs.Common.{◌≡◌, ℕ, if◌then◌else◌, Option, Some, List, refl, sym, ap, subst, ◌∙◌}
use Rattle.asm_text.specs.Entry.{entry_of}
use Rattle.beam_code.specs.declared.module.Module.{Module}
use Rattle.command_laws.proofs.Course.{End, Inside, IsEndOf, Long, Outside, Refused, inside, one_end, outside, refused}
use Rattle.command_laws.proofs.Endings.{IsFound, found_of}
use Rattle.command_laws.proofs.RunCourse.{entry_course}
use Rattle.command_laws.specs.Settled.{AreAlike, IsSettled}
use Rattle.hipe_base.specs.Files.{Held}
use Rattle.hipe_core.specs.Answer.{Case, IsAnswer}
use Rattle.hipe_core.specs.Command.{Checks, Compiles, Effects, Ends}
use Rattle.hipe_core.specs.declared.ending.Ending.{Ending}
use Rattle.hipe_core.specs.declared.ending.Ending.TheVariants.{Said, ModuleRefused, CheckRefused, CannotRead, CannotWrite, NoMemory, TooLong, NotBuilt}
use Rattle.hipe_core.specs.Files.{AreChecked, Course, FilesEnd}
use Rattle.hipe_core.specs.Lines.{module_status, status_of}
use Rattle.hipe_core.specs.Words.{Asked, Nothing, Check, Compile, Run}
use Rattle.trivial_code.specs.Trivial.{are_trivial}

-- the status of each end of texts, by that of modules in the profile
abbrev end_status : (List Module → ℕ) → End → ℕ
end_status good Long = 10
end_status good (Refused e) = module_status e
end_status good Outside = 4
end_status good (Inside ms) = good ms

record Goes (good : List Module → ℕ) (held : Held) (names : List (List ℕ)) (status : ℕ) : Type 0 where
  pub end : End
  pub is : IsEndOf held names end
  pub status_is : status ≡ end_status good end

one_status : (good : List Module → ℕ) (file : List ℕ → Option (List ℕ)) (names : List (List ℕ)) (s t : ℕ) → Goes good (Some file) names s → Goes good (Some file) names t → s ≡ t
one_status good file names s t p q = p.status_is ∙ ap (end_status good) (one_end file names p.end q.end p.is q.is) ∙ sym q.status_is

files_go : (good : List Module → ℕ) (e : Ending) (names : List (List ℕ)) (c : Course) → IsFound e → FilesEnd e names c → Goes good c.before.held names (status_of e)
files_go good (TooLong file) names c found h =
    record { end = Long; is = record { file = file.now; reached = h.reached; longer = h.longer }; status_is = refl }
files_go good (ModuleRefused file e) names c found h =
    record { end = Refused e; is = record { texts = h.texts; read = h.read; so = refused h.texts h.index e h.unread }; status_is = refl }
files_go good (CheckRefused r) names c found h =
    record { end = Outside; is = record { texts = h.texts; read = h.read; so = outside h.texts h.out.modules r h.out.read h.out.out }; status_is = refl }
files_go good (CannotRead file) names c found h = absurd found
files_go good NoMemory names c found h = absurd found
files_go good other names c found h = absurd h

-- modules in the profile
good_go : (good : List Module → ℕ) (status : ℕ) (names : List (List ℕ)) (c : Course) (ms : List Module) → AreChecked c names ms → status ≡ good ms → Goes good c.before.held names status
good_go good status names c ms h is =
    record { end = Inside ms; is = record { texts = h.texts; read = h.read; so = inside h.texts ms h.profiled.read h.profiled.profile }; status_is = is }

abbrev check_good : List Module → ℕ
check_good ms = 0

check_goes : (e : Ending) (names : List (List ℕ)) (x : Effects) → IsFound e → Checks e names x → Goes check_good x.files.before.held names (status_of e)
check_goes (Said status) names x found h = good_go check_good status names x.files h.1.modules h.1.checked h.0
check_goes CannotWrite names x found h = absurd found
check_goes other names x found h = files_go check_good other names x.files found h.0

abbrev compile_good : List Module → ℕ
compile_good ms = if are_trivial ms then 0 else 11

compile_goes : (e : Ending) (names : List (List ℕ)) (x : Effects) → IsFound e → Compiles e names x → Goes compile_good x.files.before.held names (status_of e)
compile_goes (Said status) names x found h =
    good_go compile_good status names x.files h.1.modules h.1.checked (h.0 ∙ sym (ap (λ b. if b then 0 else 11) h.1.trivial))
compile_goes (NotBuilt file) names x found h =
    good_go compile_good 11 names x.files h.0.modules h.0.checked (sym (ap (λ b. if b then 0 else 11) h.0.other))
compile_goes CannotWrite names x found h = absurd found
compile_goes other names x found h = files_go compile_good other names x.files found h.0

-- ---- the whole

one_of_files : (good : List Module → ℕ) (file : List ℕ → Option (List ℕ)) (names : List (List ℕ)) (a b : Held) (s t : ℕ) → a ≡ Some file → b ≡ Some file →
    Goes good a names s → Goes good b names t → s ≡ t
one_of_files good file names a b s t p q g h =
    one_status good file names s t (subst (λ (held : Held). Goes good held names s) p g) (subst (λ (held : Held). Goes good held names t) q h)

one_cause : (q : Asked) (file : List ℕ → Option (List ℕ)) (e f : Ending) (x y : Effects) → x.files.before.held ≡ Some file → y.files.before.held ≡ Some file →
    IsFound e → IsFound f → Ends q e x → Ends q f y → status_of e ≡ status_of f
one_cause Nothing file e f x y told said a b p r = ap status_of (p.0 ∙ sym r.0)
one_cause (Check names) file e f x y told said a b p r =
    one_of_files check_good file names x.files.before.held y.files.before.held (status_of e) (status_of f) told said (check_goes e names x a p) (check_goes f names y b r)
one_cause (Compile chosen names) file e f x y told said a b p r =
    one_of_files compile_good file names x.files.before.held y.files.before.held (status_of e) (status_of f) told said (compile_goes e names x a p) (compile_goes f names y b r)
one_cause (Run word entry args limits) file e f x y told said a b p r =
    entry_course file word entry (entry_of entry) args limits e f x y told said a b p r

pub the_status_is_that_of_the_cause : (c d : Case) (s t : ℕ) → AreAlike c d → IsAnswer c s → IsAnswer d t → IsSettled s → IsSettled t → s ≡ t
the_status_is_that_of_the_cause c d s t alike a b settled also =
    let p = found_of c s a settled in
    let q = found_of d t b also in
    let cause : Ends d.asks p.ending c.effects = subst (λ (asks : Asked). Ends asks p.ending c.effects) alike.asks p.cause in
    p.status_is ∙ one_cause d.asks alike.file p.ending q.ending c.effects d.effects alike.first alike.second p.found q.found cause q.cause ∙ sym q.status_is
