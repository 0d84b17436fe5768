-- The module of a text, or why it is none (docs/BEAM.md, Forms): the first form out of its rule, and then the labels.
use Rattle.std.specs.Prelude.{ℕ, List, [], ◌∷◌, Option, Some, None, Result, Ok, Err}
use Rattle.text_forms.specs.declared.form.Form.{Form}
use Rattle.text_forms.specs.declared.refusal.TextRefusal.{TextRefusal}
use Rattle.asm_text.specs.Reading.{reading}
use Rattle.beam_code.specs.declared.module.Function.{Function}
use Rattle.beam_code.specs.declared.module.Module.{Module}
use Rattle.beam_profile.specs.declared.module.Outline.{Outline}
use Rattle.beam_profile.specs.declared.refusal.ModuleRefusal.{ModuleRefusal}
use Rattle.beam_profile.specs.declared.refusal.ModuleRefusal.TheVariants as refusal
use Rattle.beam_profile.specs.Header.{Key, declared, module_of, exported, attributes_of, labels_of}
use Rattle.beam_profile.specs.Labels.{first_broken}
use Rattle.beam_profile.specs.Sequence.{with, functions}

-- ---- the four forms in front, in order, and the functions behind them

abbrev pub outlined : List ℕ → List Key → Result (List Function) ModuleRefusal → Result Outline ModuleRefusal
outlined name exports (Err e) = Err e
outlined name exports (Ok fs) = Ok (record { name = name; exports = exports; functions = fs })

-- before the form of labels, where the form before it has this line
abbrev pub at_labels : ℕ → List ℕ → List Key → ℕ → List Form → Result Outline ModuleRefusal
at_labels last name exports line [] = Err (refusal.Shape line)
at_labels last name exports line (f ∷ fs) = with f.line (labels_of f.term) (λ n. outlined name exports (functions last name fs))

abbrev pub at_attributes : ℕ → List ℕ → List Key → ℕ → List Form → Result Outline ModuleRefusal
at_attributes last name exports line [] = Err (refusal.Shape line)
at_attributes last name exports line (f ∷ fs) = with f.line (attributes_of f.term) (λ about. at_labels last name exports f.line fs)

abbrev pub at_exports : ℕ → List Key → List ℕ → ℕ → List Form → Result Outline ModuleRefusal
at_exports last there name line [] = Err (refusal.Shape line)
at_exports last there name line (f ∷ fs) = with f.line (exported there f.term) (λ exports. at_attributes last name exports f.line fs)

abbrev pub at_module : ℕ → List Key → List Form → Result Outline ModuleRefusal
at_module last there [] = Err (refusal.Shape 1)
at_module last there (f ∷ fs) = with f.line (module_of f.term) (λ name. at_exports last there name f.line fs)

abbrev pub outline : ℕ → List Form → Result Outline ModuleRefusal
outline last forms = at_module last (declared forms) forms

-- ---- the labels, and the whole

abbrev pub module_from : List ℕ → Outline → Module
module_from text o = record { name = o.name; exports = o.exports; functions = o.functions; text = text }

abbrev pub unless_broken : List ℕ → Outline → Option ℕ → Result Module ModuleRefusal
unless_broken text o None = Ok (module_from text o)
unless_broken text o (Some line) = Err (refusal.Label line)

abbrev pub checked : List ℕ → Result Outline ModuleRefusal → Result Module ModuleRefusal
checked text (Err e) = Err e
checked text (Ok o) = unless_broken text o (first_broken [] o.functions)

-- the module of these forms; `last` is the greatest index of a register
abbrev pub module_with : ℕ → List ℕ → List Form → Result Module ModuleRefusal
module_with last text forms = checked text (outline last forms)

abbrev pub module_in : ℕ → List ℕ → Result (List Form) TextRefusal → Result Module ModuleRefusal
module_in last text (Err e) = Err (refusal.Text e)
module_in last text (Ok forms) = module_with last text forms

abbrev pub module_of_text : ℕ → List ℕ → Result Module ModuleRefusal
module_of_text last text = module_in last text (reading text)
