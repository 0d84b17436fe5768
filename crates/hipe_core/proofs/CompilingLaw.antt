-- From modules that are checked to the image that is written of them.
use Rattle.std.proofs.Common.{◌≡◌, ℕ, ◌<◌, ◌≤◌, true, List, [], ◌∷◌, length, sym, subst, arith}
use Rattle.beam_code.specs.declared.module.Module.{Module}
use Rattle.beam_code.specs.declared.module.TheConstants.{MOST_TEXT_BYTES}
use Rattle.hipe_base.specs.Sink.{Seen}
use Rattle.hipe_core.proofs.FilesLaw.{as_many}
use Rattle.hipe_core.proofs.ReadLaw.{texts_are}
use Rattle.hipe_core.specs.Command.{Compiles, effects}
use Rattle.hipe_core.specs.declared.ending.Ending.{Ending}
use Rattle.hipe_core.specs.declared.ending.Ending.TheVariants.{Said, CannotWrite, NoMemory, NotBuilt}
use Rattle.hipe_core.specs.Files.{AreChecked, Course}
use Rattle.hipe_core.specs.Image.{IsCompilable}
use Rattle.hipe_core.specs.Writing.{WritesImageOf}
use Rattle.image_format.specs.Fitting.{total_length}
use Rattle.module_texts.specs.Texts.{AreModulesOf}
use Rattle.trivial_code.specs.Trivial.{are_trivial}

-- a text has a module
modules_long : (ts : List (List ℕ)) (ms : List Module) → AreModulesOf ts ms → length ms ≡ length ts
modules_long [] [] h = omega arith
modules_long [] (m ∷ ms) h = absurd h
modules_long (t ∷ ts) [] h = absurd h
modules_long (t ∷ ts) (m ∷ ms) h = omega (arith, modules_long ts ms h.1)

pub compilable : (c : Course) (names : List (List ℕ)) (ms : List Module) → AreChecked c names ms → 0 < length names → are_trivial ms ≡ true → IsCompilable ms
compilable c names ms h some trivial =
    let long = modules_long h.texts ms h.profiled.read in
    let many = as_many c.before.held names h.texts h.read in
    let few : total_length h.texts ≤ MOST_TEXT_BYTES = h.read.few in
    record {
      some = omega (arith, long, many, some);
      trivial = trivial;
      texts = subst (λ (ts : List (List ℕ)). total_length ts ≤ MOST_TEXT_BYTES) (sym (texts_are h.texts ms h.profiled.read)) few;
    }

pub compiles_image : (e : Ending) (names : List (List ℕ)) (c : Course) (s t : Seen) (ms : List Module) → AreChecked c names ms → are_trivial ms ≡ true → WritesImageOf e ms s t → Compiles e names (effects c s t)
compiles_image (Said status) names c s t ms h trivial w =
    (w.0, record { modules = ms; checked = h; trivial = trivial; image = w.1.0; is = w.1.1; said = w.1.2 })
compiles_image CannotWrite names c s t ms h trivial w =
    record { modules = ms; checked = h; trivial = trivial; image = w.0; is = w.1; said = w.2 }
compiles_image NoMemory names c s t ms h trivial w = (tt, w)
compiles_image (NotBuilt file) names c s t ms h trivial w = absurd w
compiles_image other names c s t ms h trivial w = absurd w
