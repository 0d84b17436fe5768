-- How texts that are told go: too long, one that is none of a module, modules that are out of the profile, or modules in
-- it. Bytes have one such course.
use Rattle.std.proofs.Common.{◌≡◌, ℕ, zero, suc, ◌+◌, ◌-◌, ◌<◌, ◌≤◌, Option, Some, None, IsSomeAnd, List, [], ◌∷◌, length, take, slice_get, Result, Ok, Err, refl, sym, ap, subst, ◌∙◌, arith}
use Rattle.beam_code.specs.declared.module.Module.{Module}
use Rattle.beam_code.specs.declared.module.TheConstants.{MOST_TEXT_BYTES}
use Rattle.beam_profile.proofs.Modules.{read-back}
use Rattle.beam_profile.specs.declared.module.TheConstants.{LAST_INDEX}
use Rattle.beam_profile.specs.declared.refusal.ModuleRefusal.{ModuleRefusal}
use Rattle.beam_profile.specs.declared.refusal.ModuleRefusal.TheVariants as unread
use Rattle.beam_profile.specs.Module.{module_of_text}
use Rattle.hipe_base.specs.Files.{Held}
use Rattle.hipe_base.specs.Reading.{IsLonger}
use Rattle.hipe_core.specs.Files.{AreHeld, AreTexts, IsReached}
use Rattle.image_format.specs.Fitting.{total_length}
use Rattle.module_check.proofs.Refusing.{only_memory}
use Rattle.module_check.specs.declared.refusal.CheckRefusal.{CheckRefusal}
use Rattle.module_check.specs.declared.refusal.CheckRefusal.TheVariants as check
use Rattle.module_texts.specs.Texts.{AreModulesOf, IsCauseOf, IsOutBy, IsUnread}
use Rattle.path_rules.specs.Profile.{InProfile}

-- ---- the modules of texts

abbrev pub with_module : Result Module ModuleRefusal → Result (List Module) ModuleRefusal → Result (List Module) ModuleRefusal
with_module (Err e) rest = Err e
with_module (Ok m) (Err e) = Err e
with_module (Ok m) (Ok ms) = Ok (m ∷ ms)

-- the modules of texts, or why the first that has none has none
abbrev pub modules_told : List (List ℕ) → Result (List Module) ModuleRefusal
modules_told [] = Ok []
modules_told (t ∷ ts) = with_module (module_of_text LAST_INDEX t) (modules_told ts)

pub modules_are : (ts : List (List ℕ)) (ms : List Module) → AreModulesOf ts ms → modules_told ts ≡ Ok ms
modules_are [] [] h = refl
modules_are [] (m ∷ ms) h = absurd h
modules_are (t ∷ ts) [] h = absurd h
modules_are (t ∷ ts) (m ∷ ms) h =
    ap (λ r. with_module r (modules_told ts)) (read-back LAST_INDEX t m h.0) ∙ ap (with_module (Ok m)) (modules_are ts ms h.1)

cause_is : (t : List ℕ) (e : ModuleRefusal) → IsCauseOf t e → module_of_text LAST_INDEX t ≡ Err e
cause_is t (unread.Memory e) h = absurd h
cause_is t (unread.Text e) h = h
cause_is t other h = h

unread_at : (ts : List (List ℕ)) (index : ℕ) (e : ModuleRefusal) (ms : List Module) (t : List ℕ) → AreModulesOf (take index ts) ms → slice_get ts index ≡ Some t →
    IsCauseOf t e → modules_told ts ≡ Err e
unread_at [] index e ms t read is cause = absurd cc
unread_at (u ∷ us) zero e ms t read is cause =
    let same : u ≡ t = cc in
    ap (λ r. with_module r (modules_told us)) (ap (module_of_text LAST_INDEX) same ∙ cause_is t e cause)
unread_at (u ∷ us) (suc index) e [] t read is cause = absurd read
unread_at (u ∷ us) (suc index) e (m ∷ ms) t read is cause =
    ap (λ r. with_module r (modules_told us)) (read-back LAST_INDEX u m read.0) ∙ ap (with_module (Ok m)) (unread_at us index e ms t read.1 is cause)

pub unread_is : (ts : List (List ℕ)) (index : ℕ) (e : ModuleRefusal) → IsUnread ts index e → modules_told ts ≡ Err e
unread_is ts index e un = unread_at ts index e un.before un.text un.read un.is un.refused

-- modules in the profile are not refused
none_out : (ms : List Module) (r : CheckRefusal) → InProfile ms → IsOutBy ms r → ⊥
none_out ms (check.Memory e) profile out = out
none_out ms (check.Duplicate name) profile out = only_memory ms (check.Duplicate name) out profile
none_out ms check.TooMany profile out = only_memory ms check.TooMany out profile
none_out ms (check.Broken rule m f a k) profile out = only_memory ms (check.Broken rule m f a k) out profile

pub data End : Type 0 where
  Long : End
  Refused : ModuleRefusal → End
  Outside : End
  Inside : List Module → End

-- texts with these modules go so
abbrev pub OfTexts : Result (List Module) ModuleRefusal → End → Type 0
OfTexts r Long = ⊥
OfTexts (Err e) (Refused f) = e ≡ f
OfTexts (Err e) Outside = ⊥
OfTexts (Err e) (Inside ns) = ⊥
OfTexts (Ok ms) (Refused f) = ⊥
OfTexts (Ok ms) Outside = (r : CheckRefusal) × IsOutBy ms r
OfTexts (Ok ms) (Inside ns) = (ms ≡ ns) × InProfile ms

pub one_of_texts : (r : Result (List Module) ModuleRefusal) (a b : End) → OfTexts r a → OfTexts r b → a ≡ b
one_of_texts r Long b p q = absurd p
one_of_texts r a Long p q = absurd q
one_of_texts (Err e) (Refused f) (Refused g) p q = ap Refused (sym p ∙ q)
one_of_texts (Ok ms) Outside Outside p q = refl
one_of_texts (Ok ms) Outside (Inside ns) p q = absurd (none_out ms p.0 q.1 p.1)
one_of_texts (Ok ms) (Inside ns) Outside p q = absurd (none_out ms q.0 p.1 q.1)
one_of_texts (Ok ms) (Inside ns) (Inside ks) p q = ap Inside (sym p.0 ∙ q.0)
one_of_texts (Err e) (Refused f) Outside p q = absurd q
one_of_texts (Err e) (Refused f) (Inside ns) p q = absurd q
one_of_texts (Err e) Outside b p q = absurd p
one_of_texts (Err e) (Inside ns) b p q = absurd p
one_of_texts (Ok ms) (Refused f) b p q = absurd p
one_of_texts (Ok ms) Outside (Refused f) p q = absurd q
one_of_texts (Ok ms) (Inside ns) (Refused f) p q = absurd q

pub outside : (ts : List (List ℕ)) (ms : List Module) (r : CheckRefusal) → AreModulesOf ts ms → IsOutBy ms r → OfTexts (modules_told ts) Outside
outside ts ms r read out = subst (λ told. OfTexts told Outside) (sym (modules_are ts ms read)) (r, out)

pub inside : (ts : List (List ℕ)) (ms : List Module) → AreModulesOf ts ms → InProfile ms → OfTexts (modules_told ts) (Inside ms)
inside ts ms read profile = subst (λ told. OfTexts told (Inside ms)) (sym (modules_are ts ms read)) (refl, profile)

pub refused : (ts : List (List ℕ)) (index : ℕ) (e : ModuleRefusal) → IsUnread ts index e → OfTexts (modules_told ts) (Refused e)
refused ts index e un = subst (λ told. OfTexts told (Refused e)) (sym (unread_is ts index e un)) refl

-- ---- the texts of files

pub some_and : {A : Type 0} (o : Option A) (P : A → Type 0) → IsSomeAnd o P → (x : A) × (o ≡ Some x) × P x
some_and None P h = absurd h
some_and (Some x) P h = (x, refl, h)

one_text : (o : Option (List ℕ)) (t u : List ℕ) → o ≡ Some t → o ≡ Some u → t ≡ u
one_text o t u p q = cc

module _ (file : List ℕ → Option (List ℕ)) where
  texts_same : (names ts us : List (List ℕ)) → AreHeld (Some file) names ts → AreHeld (Some file) names us → ts ≡ us
  texts_same [] [] [] p q = refl
  texts_same [] (t ∷ ts) us p q = absurd p
  texts_same [] [] (u ∷ us) p q = absurd q
  texts_same (f ∷ fs) [] us p q = absurd p
  texts_same (f ∷ fs) (t ∷ ts) [] p q = absurd q
  texts_same (f ∷ fs) (t ∷ ts) (u ∷ us) p q =
      ap (λ x. x ∷ ts) (one_text (file f) t u p.0 q.0) ∙ ap (λ (xs : List (List ℕ)). u ∷ xs) (texts_same fs ts us p.1 q.1)

  -- the texts up to a file are no longer than all
  together : (names : List (List ℕ)) (index : ℕ) (name bytes : List ℕ) (ts us : List (List ℕ)) → slice_get names index ≡ Some name → file name ≡ Some bytes →
      AreHeld (Some file) (take index names) ts → AreHeld (Some file) names us → total_length ts + length bytes ≤ total_length us
  together [] index name bytes ts us is told p q = absurd cc
  together (f ∷ fs) index name bytes ts [] is told p q = absurd q
  together (f ∷ fs) zero name bytes (t ∷ ts) (u ∷ us) is told p q = absurd p
  together (f ∷ fs) zero name bytes [] (u ∷ us) is told p q =
      let same : f ≡ name = cc in
      let one : u ≡ bytes = one_text (file f) u bytes q.0 (ap file same ∙ told) in
      let long : length u ≡ length bytes = ap length one in
      omega (arith, long)
  together (f ∷ fs) (suc index) name bytes [] (u ∷ us) is told p q = absurd p
  together (f ∷ fs) (suc index) name bytes (t ∷ ts) (u ∷ us) is told p q =
      let more = together fs index name bytes ts us is told p.1 q.1 in
      let long : length t ≡ length u = ap length (one_text (file f) t u p.0 q.0) in
      omega (arith, more, long)

-- the files up to this one are too long
pub record IsTooLongAt (held : Held) (names : List (List ℕ)) : Type 0 where
  pub file : List ℕ
  pub reached : IsReached held names file
  pub longer : IsLonger held file (MOST_TEXT_BYTES - total_length reached.texts)

-- the texts of the files go so
pub record AreTextsThat (held : Held) (names : List (List ℕ)) (end : End) : Type 0 where
  pub texts : List (List ℕ)
  pub read : AreTexts held names texts
  pub so : OfTexts (modules_told texts) end

abbrev pub IsEndOf : Held → List (List ℕ) → End → Type 0
IsEndOf held names Long = IsTooLongAt held names
IsEndOf held names other = AreTextsThat held names other

not_long : (file : List ℕ → Option (List ℕ)) (names : List (List ℕ)) (end : End) → IsTooLongAt (Some file) names → AreTextsThat (Some file) names end → ⊥
not_long file names end p q =
    let r = p.reached in
    let more = some_and (file p.file) (λ bytes. MOST_TEXT_BYTES - total_length r.texts < length bytes) p.longer in
    let all = together file names r.index p.file more.0 r.texts q.texts r.is more.1 r.before.held_so q.read.held_so in
    omega (arith, all, more.2, q.read.few)

one_that : (file : List ℕ → Option (List ℕ)) (names : List (List ℕ)) (a b : End) → AreTextsThat (Some file) names a → AreTextsThat (Some file) names b → a ≡ b
one_that file names a b p q =
    let same : p.texts ≡ q.texts = texts_same file names p.texts q.texts p.read.held_so q.read.held_so in
    one_of_texts (modules_told q.texts) a b (subst (λ (ts : List (List ℕ)). OfTexts (modules_told ts) a) same p.so) q.so

pub one_end : (file : List ℕ → Option (List ℕ)) (names : List (List ℕ)) (a b : End) → IsEndOf (Some file) names a → IsEndOf (Some file) names b → a ≡ b
one_end file names Long Long p q = refl
one_end file names Long other p q = absurd (not_long file names other p q)
one_end file names other Long p q = absurd (not_long file names other q p)
one_end file names a b p q = one_that file names a b p q
