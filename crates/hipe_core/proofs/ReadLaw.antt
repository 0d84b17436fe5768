-- What is compiled of texts is read, as an image of their modules.
use Rattle.std.proofs.Common.{◌≡◌, ℕ, List, [], ◌∷◌, map, Result, Ok, Err, refl, sym, ap, subst, ◌∙◌}
use Rattle.std.specs.declared.alloc.AllocError.{AllocError}
use Rattle.beam_code.specs.declared.module.Module.{Module}
use Rattle.hipe_core.specs.Meaning.{IsCompiled, IsReadAs}
use Rattle.image_format.proofs.Whole.{reading_again}
use Rattle.image_format.specs.declared.parts.Parts.{Parts}
use Rattle.image_format.specs.Reading.{reading}
use Rattle.module_texts.specs.Texts.{AreModulesOf, AreProfiled}
use Rattle.native_link.specs.declared.refusal.ImageRefusal.{ImageRefusal}
use Rattle.native_link.specs.declared.refusal.ImageRefusal.TheVariants as image
use Rattle.native_link.proofs.Second.{parts_read_again}
use Rattle.native_link.specs.Checking.{Linked, linked}
use Rattle.native_link.specs.Image.{Answers, IsReadAs as AsLinked, Readable}
use Rattle.trivial_code.specs.Compiled.{compiled}

-- the texts of modules are those that they are read of
pub texts_are : (ts : List (List ℕ)) (ms : List Module) → AreModulesOf ts ms → map (λ m. m.text) ms ≡ ts
texts_are [] [] h = refl
texts_are [] (m ∷ ms) h = absurd h
texts_are (t ∷ ts) [] h = absurd h
texts_are (t ∷ ts) (m ∷ ms) h = ap (λ x. x ∷ map (λ (n : Module). n.text) ms) h.0.kept ∙ ap (λ (xs : List (List ℕ)). t ∷ xs) (texts_are ts ms h.1)

module _ (texts : List (List ℕ)) (bytes : List ℕ) (made : IsCompiled texts bytes) where
  abbrev ms : List Module
  ms = made.modules

  abbrev parts : Parts
  parts = compiled ms

  parts_read : reading bytes ≡ Ok parts
  parts_read = ap reading made.image.spelled ∙ reading_again parts made.image.is.fitting made.image.sized

  kept : parts.texts ≡ texts
  kept = texts_are texts ms made.profiled.read

  profiled : AreProfiled parts.texts ms
  profiled = subst (λ (ts : List (List ℕ)). AreProfiled ts ms) (sym kept) made.profiled

  readable : Readable bytes parts ms
  readable = record { parts = parts_read; profiled = profiled }

  -- what is answered but for want of memory is these parts and these modules
  again : (answer : Result Linked ImageRefusal) → Answers bytes answer → AsLinked (linked parts ms) answer
  again answer h = parts_read_again parts ms made.image.is.fitting made.image.sized profiled made.image.is.checked answer (subst (λ (bs : List ℕ). Answers bs answer) made.image.spelled h)

  pub what_is_read : (l : Linked) → Answers bytes (Ok l) → l ≡ linked parts ms
  what_is_read l h = again (Ok l) h

  only_memory : (e : ImageRefusal) → Answers bytes (Err e) → (want : AllocError) × (e ≡ image.Memory want)
  only_memory e h = want_of e (again (Err e) h)
    where
      want_of : (r : ImageRefusal) → AsLinked (linked parts ms) (Err r) → (want : AllocError) × (r ≡ image.Memory want)
      want_of (image.Memory want) w = (want, refl)
      want_of (image.Field flaw at) w = absurd w
      want_of (image.Module index m) w = absurd w
      want_of (image.Check r) w = absurd w

  pub image_is_read : IsReadAs ms bytes
  image_is_read = record { linked = linked parts ms; read = (readable, made.image.is.checked); modules = refl; refused = only_memory }
