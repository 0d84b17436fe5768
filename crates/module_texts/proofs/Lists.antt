-- Texts are read one after the other.
use Rattle.std.proofs.Common.{◌≡◌, ℕ, zero, suc, ◌+◌, ◌<◌, List, [], ◌∷◌, ◌++◌, length, get_or, take, slice_get, Some, Err, refl, sym, ap, subst, ◌∙◌, arith, inl, inr}
use Rattle.std.proofs.lemmas.List.{take_more}
use Rattle.paths.proofs.Tests.{first_or_later}
use Rattle.beam_check.specs.Texts.{AreOfTheirTexts}
use Rattle.beam_code.specs.declared.module.Module.{Module}
use Rattle.beam_profile.proofs.Modules.{read-back}
use Rattle.beam_profile.specs.declared.module.TheConstants.{LAST_INDEX}
use Rattle.beam_profile.specs.declared.refusal.ModuleRefusal.{ModuleRefusal}
use Rattle.beam_profile.specs.declared.refusal.ModuleRefusal.TheVariants as refusal
use Rattle.beam_profile.specs.Whole.{IsModuleOf}
use Rattle.module_texts.specs.Texts.{AreModulesOf, AreRead, AreRefusedBy, IsCauseOf, IsMemory, IsUnread, as_texts}
use Rattle.module_check.specs.declared.refusal.CheckRefusal.{CheckRefusal}
use Rattle.module_check.specs.declared.refusal.CheckRefusal.TheVariants as check
use Rattle.module_check.specs.Refusals.{IsMemory as IsWant, IsRefusedBy}
use Rattle.module_texts.specs.declared.refusal.TextsRefusal.{TextsRefusal}
use Rattle.module_texts.specs.declared.refusal.TextsRefusal.TheVariants as texts

-- a text has one module
pub one_module : (t : List ℕ) (m n : Module) → IsModuleOf LAST_INDEX t m → IsModuleOf LAST_INDEX t n → m ≡ n
one_module t m n a b = let x = read-back LAST_INDEX t m a in let y = read-back LAST_INDEX t n b in cc

-- texts have one list of modules
pub one_list : (ts : List (List ℕ)) (ms ns : List Module) → AreModulesOf ts ms → AreModulesOf ts ns → ms ≡ ns
one_list [] [] [] a b = refl
one_list [] (m ∷ ms) ns a b = absurd a
one_list [] [] (n ∷ ns) a b = absurd b
one_list (t ∷ ts) [] ns a b = absurd a
one_list (t ∷ ts) (m ∷ ms) [] a b = absurd b
one_list (t ∷ ts) (m ∷ ms) (n ∷ ns) a b =
    ap (λ k. k ∷ ms) (one_module t m n a.0 b.0) ∙ ap (λ (ks : List Module). n ∷ ks) (one_list ts ms ns a.1 b.1)

push : (ts : List (List ℕ)) (ms : List Module) (t : List ℕ) (m : Module) → AreModulesOf ts ms → IsModuleOf LAST_INDEX t m → AreModulesOf (ts ++ t ∷ []) (ms ++ m ∷ [])
push [] [] t m h r = (r, tt)
push [] (n ∷ ms) t m h r = absurd h
push (s ∷ ts) [] t m h r = absurd h
push (s ∷ ts) (n ∷ ms) t m h r = (h.0, push ts ms t m h.1 r)

-- one more
pub one_more : (ts : List (List ℕ)) (ms after : List Module) (i : ℕ) (t : List ℕ) (m : Module) → i < length ts → t ≡ get_or ts i t → AreModulesOf (take i ts) ms → IsModuleOf LAST_INDEX t m → after ≡ ms ++ m ∷ [] → AreModulesOf (take (i + 1) ts) after
one_more ts ms after i t m lt e h r pushed =
    let more : take (i + 1) ts ≡ take i ts ++ t ∷ [] = take_more ts i t lt ∙ ap (λ y. take i ts ++ y ∷ []) (sym e) in
    subst (λ a. AreModulesOf (take (i + 1) ts) a) (sym pushed) (subst (λ l. AreModulesOf l (ms ++ m ∷ [])) (sym more) (push (take i ts) ms t m h r))

of_its_own : (t : List ℕ) (m : Module) → IsModuleOf LAST_INDEX t m → IsModuleOf LAST_INDEX m.text m
of_its_own t m of = subst (λ (s : List ℕ). IsModuleOf LAST_INDEX s m) (sym of.kept) of

-- so each module is that of its own text
pub are_of_their_texts : (ts : List (List ℕ)) (ms : List Module) → AreModulesOf ts ms → AreOfTheirTexts ms
are_of_their_texts [] [] h n c = absurd (omega (arith, c.1))
are_of_their_texts [] (m ∷ ms) h n c = absurd h
are_of_their_texts (t ∷ ts) [] h n c = absurd h
are_of_their_texts (t ∷ ts) (m ∷ ms) h n c =
    elim (first_or_later m ms n c) [
      | inl same ↦ subst (λ (k : Module). IsModuleOf LAST_INDEX k.text k) same (of_its_own t m h.0)
      | inr later ↦ are_of_their_texts ts ms h.1 n later
    ]

-- ---- texts of modules are not refused

module_at : (ts : List (List ℕ)) (ms : List Module) (i : ℕ) (t : List ℕ) → AreModulesOf ts ms → slice_get ts i ≡ Some t → (m : Module) × IsModuleOf LAST_INDEX t m
module_at [] ms i t h e = absurd cc
module_at (s ∷ ts) [] i t h e = absurd h
module_at (s ∷ ts) (m ∷ ms) zero t h e = (m, let same : s ≡ t = cc in subst (λ (x : List ℕ). IsModuleOf LAST_INDEX x m) same h.0)
module_at (s ∷ ts) (m ∷ ms) (suc i) t h e = module_at ts ms i t h.1 e

no_cause : (t : List ℕ) (m : Module) (e : ModuleRefusal) → IsModuleOf LAST_INDEX t m → IsCauseOf t e → ⊥
no_cause t m (refusal.Memory e) of cause = cause
no_cause t m (refusal.Text e) of cause = let ok = read-back LAST_INDEX t m of in cc
no_cause t m other of cause = let ok = read-back LAST_INDEX t m of in cc

pub none_unread : (ts : List (List ℕ)) (ms : List Module) (i : ℕ) (e : ModuleRefusal) → AreModulesOf ts ms → IsUnread ts i e → ⊥
none_unread ts ms i e are un = let m = module_at ts ms i un.text are un.is in no_cause un.text m.0 e m.1 un.refused

pub memory_alone : (ts : List (List ℕ)) (ms : List Module) (r : TextsRefusal) → AreModulesOf ts ms → AreRead ts (Err r) → IsMemory r
memory_alone ts ms (texts.Module i e) are h = absurd (none_unread ts ms i e are h)
memory_alone ts ms (texts.Check r) are h = absurd h
memory_alone ts ms (texts.Memory e) are h = tt

-- ---- modules that are refused

pub refused_by : (ts : List (List ℕ)) (ms : List Module) (r : CheckRefusal) → AreModulesOf ts ms → IsRefusedBy ms r → AreRefusedBy ts (as_texts r)
refused_by ts ms (check.Memory e) are h = tt
refused_by ts ms (check.Duplicate name) are h = record { modules = ms; read = are; out = h }
refused_by ts ms other are h = record { modules = ms; read = are; out = h }

pub want_by : (r : CheckRefusal) → IsWant r → IsMemory (as_texts r)
want_by (check.Memory e) h = tt
want_by (check.Duplicate name) h = absurd h
want_by other h = absurd h
