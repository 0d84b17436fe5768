-- A module that is read is that of its text's forms, and the other way.
use Rattle.std.proofs.Common.{◌≡◌, ℕ, Bool, true, false, if◌then◌else◌, List, [], ◌∷◌, Option, Some, None, Result, Ok, Err, refl, sym, ap, subst, ◌∙◌}
use Rattle.std.specs.Prelude.{option_and_then, IfOk}
use Rattle.std.specs.List.{list_all}
use Rattle.term_tree.specs.declared.term.Term.{Term}
use Rattle.text_forms.specs.declared.form.Form.{Form}
use Rattle.text_forms.specs.declared.refusal.TextRefusal.{TextRefusal}
use Rattle.asm_text.specs.Reading.{reading}
use Rattle.beam_code.specs.declared.module.Function.{Function}
use Rattle.beam_code.specs.declared.module.Module.{Module}
use Rattle.beam_profile.specs.declared.module.Outline.{Outline}
use Rattle.beam_profile.specs.declared.refusal.ModuleRefusal.{ModuleRefusal}
use Rattle.beam_profile.specs.Header.{Key, declared, is_declared, all_declared, exported, module_of, exports_of, attributes_of, labels_of}
use Rattle.beam_profile.specs.Labels.{first_broken}
use Rattle.beam_profile.specs.Sequence.{with, functions, Meets}
use Rattle.beam_profile.specs.Forms.{AreFunctions}
use Rattle.beam_profile.specs.Module.{outlined, at_labels, at_attributes, at_exports, at_module, outline, module_from, unless_broken, checked, module_with, module_in, module_of_text}
use Rattle.beam_profile.specs.Whole.{IsModule, IsModuleOf}
use Rattle.beam_profile.proofs.Functions.{with-is, functions-forth, functions-back}

chained : {A B : Type 0} (f : A → Option B) (o : Option A) (y : B) → option_and_then f o ≡ Some y → (x : A) × (o ≡ Some x) × (f x ≡ Some y)
chained f None y e = absurd cc
chained f (Some x) y e = (x, refl, e)

chosen : {A : Type 0} (b : Bool) (x y : A) → (if b then Some x else None) ≡ Some y → (b ≡ true) × (x ≡ y)
chosen true x y e = (refl, cc)
chosen false x y e = absurd cc

module _ (last : ℕ) where
  -- what the forms in front and those of the functions say of an outline
  record Labelled (name : List ℕ) (exports : List Key) (forms : List Form) (o : Outline) : Type 0 where
    d : Form
    rest : List Form
    count : ℕ
    spelled : forms ≡ d ∷ rest
    labels_are : labels_of d.term ≡ Some count
    name_is : name ≡ o.name
    exports_are : exports ≡ o.exports
    functions_are : AreFunctions last name [] rest o.functions

  outlined-is : (name : List ℕ) (exports : List Key) (r : Result (List Function) ModuleRefusal) (o : Outline) → outlined name exports r ≡ Ok o → (r ≡ Ok o.functions) × (name ≡ o.name) × (exports ≡ o.exports)
  outlined-is name exports (Err e) o h = absurd cc
  outlined-is name exports (Ok fs) o h =
      let made : Outline = record { name = name; exports = exports; functions = fs } in
      let same : made ≡ o = cc in
      (ap (λ (p : Outline). Ok p.functions) same, ap (λ (p : Outline). p.name) same, ap (λ (p : Outline). p.exports) same)

  labels-forth : (name : List ℕ) (exports : List Key) (line : ℕ) (forms : List Form) (o : Outline) → at_labels last name exports line forms ≡ Ok o → Labelled name exports forms o
  labels-forth name exports line [] o e = absurd cc
  labels-forth name exports line (f ∷ fs) o e =
      let w = with-is f.line (labels_of f.term) (λ n. outlined name exports (functions last name fs)) o e in
      let is = outlined-is name exports (functions last name fs) o w.2 in
      record { d = f; rest = fs; count = w.0; spelled = refl; labels_are = w.1; name_is = is.1; exports_are = is.2; functions_are = functions-forth last name fs o.functions is.0 }

  record Attributed (name : List ℕ) (exports : List Key) (forms : List Form) (o : Outline) : Type 0 where
    c : Form
    behind : List Form
    about : Term
    spelled : forms ≡ c ∷ behind
    attributes_are : attributes_of c.term ≡ Some about
    labelled : Labelled name exports behind o

  attributes-forth : (name : List ℕ) (exports : List Key) (line : ℕ) (forms : List Form) (o : Outline) → at_attributes last name exports line forms ≡ Ok o → Attributed name exports forms o
  attributes-forth name exports line [] o e = absurd cc
  attributes-forth name exports line (f ∷ fs) o e =
      let w = with-is f.line (attributes_of f.term) (λ about. at_labels last name exports f.line fs) o e in
      record { c = f; behind = fs; about = w.0; spelled = refl; attributes_are = w.1; labelled = labels-forth name exports f.line fs o w.2 }

  record Exported (there : List Key) (name : List ℕ) (forms : List Form) (o : Outline) : Type 0 where
    b : Form
    behind : List Form
    exports : List Key
    spelled : forms ≡ b ∷ behind
    exports_are : exports_of b.term ≡ Some exports
    are_there : list_all (is_declared there) exports ≡ true
    attributed : Attributed name exports behind o

  exports-forth : (there : List Key) (name : List ℕ) (line : ℕ) (forms : List Form) (o : Outline) → at_exports last there name line forms ≡ Ok o → Exported there name forms o
  exports-forth there name line [] o e = absurd cc
  exports-forth there name line (f ∷ fs) o e =
      let w = with-is f.line (exported there f.term) (λ exports. at_attributes last name exports f.line fs) o e in
      let x = chained (all_declared there) (exports_of f.term) w.0 w.1 in
      let y = chosen (list_all (is_declared there) x.0) x.0 w.0 x.2 in
      record { b = f; behind = fs; exports = w.0; spelled = refl; exports_are = x.1 ∙ ap (λ z. Some z) y.1; are_there = sym (ap (list_all (is_declared there)) y.1) ∙ y.0; attributed = attributes-forth name w.0 f.line fs o w.2 }

  sub-name : (a b : List ℕ) (rest : List Form) (fs : List Function) → a ≡ b → AreFunctions last a [] rest fs → AreFunctions last b [] rest fs
  sub-name a b rest fs e are = subst (λ (n : List ℕ). AreFunctions last n [] rest fs) e are

  module-forth : (text : List ℕ) (forms fs : List Form) (f : Form) (o : Outline) → forms ≡ f ∷ fs → at_module last (declared forms) (f ∷ fs) ≡ Ok o → first_broken [] o.functions ≡ None → IsModule last forms (module_from text o)
  module-forth text forms fs f o is e none =
      let w = with-is f.line (module_of f.term) (λ name. at_exports last (declared forms) name f.line fs) o e in
      let x = exports-forth (declared forms) w.0 f.line fs o w.2 in
      let y = x.attributed in
      let z = y.labelled in
      record {
        a = f;
        b = x.b;
        c = y.c;
        d = z.d;
        rest = z.rest;
        about = y.about;
        count = z.count;
        spelled = is ∙ ap (λ zs. f ∷ zs) x.spelled ∙ ap (λ zs. f ∷ x.b ∷ zs) y.spelled ∙ ap (λ zs. f ∷ x.b ∷ y.c ∷ zs) z.spelled;
        name_is = w.1 ∙ ap (λ n. Some n) z.name_is;
        exports_are = x.exports_are ∙ ap (λ es. Some es) z.exports_are;
        are_there = sym (ap (list_all (is_declared (declared forms))) z.exports_are) ∙ x.are_there;
        attributes_are = y.attributes_are;
        labels_are = z.labels_are;
        functions_are = sub-name w.0 o.name z.rest o.functions z.name_is z.functions_are;
        none_broken = none;
      }

  unbroken-is : (text : List ℕ) (o : Outline) (broken : Option ℕ) (m : Module) → unless_broken text o broken ≡ Ok m → (broken ≡ None) × (module_from text o ≡ m)
  unbroken-is text o None m e = (refl, cc)
  unbroken-is text o (Some line) m e = absurd cc

  checked-is : (text : List ℕ) (r : Result Outline ModuleRefusal) (m : Module) → checked text r ≡ Ok m → (o : Outline) × (r ≡ Ok o) × (first_broken [] o.functions ≡ None) × (module_from text o ≡ m)
  checked-is text (Err e) m h = absurd cc
  checked-is text (Ok o) m h = let u = unbroken-is text o (first_broken [] o.functions) m h in (o, refl, u.0, u.1)

  outline-forth : (text : List ℕ) (forms : List Form) (o : Outline) (left : List Form) → forms ≡ left → at_module last (declared forms) left ≡ Ok o → first_broken [] o.functions ≡ None → IsModule last forms (module_from text o)
  outline-forth text forms o [] is e none = absurd cc
  outline-forth text forms o (f ∷ fs) is e none = module-forth text forms fs f o is e none

  with-forth : (text : List ℕ) (forms : List Form) (m : Module) → module_with last text forms ≡ Ok m → IsModule last forms m × (m.text ≡ text)
  with-forth text forms m e =
      let c = checked-is text (outline last forms) m e in
      let is = outline-forth text forms c.0 forms refl c.1 c.2 in
      (subst (λ (n : Module). IsModule last forms n) c.3 is, sym (ap (λ (n : Module). n.text) c.3))

  in-forth : (text : List ℕ) (r : Result (List Form) TextRefusal) (m : Module) → reading text ≡ r → module_in last text r ≡ Ok m → IsModuleOf last text m
  in-forth text (Err e) m is h = absurd cc
  in-forth text (Ok forms) m is h = let w = with-forth text forms m h in record { forms = forms; read = is; is = w.0; kept = w.1 }

  -- a module that is read is that of its text
  pub read-forth : (text : List ℕ) (m : Module) → module_of_text last text ≡ Ok m → IsModuleOf last text m
  read-forth text m e = in-forth text (reading text) m refl e

  outlined-back : (forms : List Form) (m : Module) → IsModule last forms m → outline last forms ≡ Ok (record { name = m.name; exports = m.exports; functions = m.functions })
  outlined-back forms m p =
      let there = declared forms in
      let found : exported there p.b.term ≡ Some m.exports = ap (option_and_then (all_declared there)) p.exports_are ∙ ap (λ b. if b then Some m.exports else None) p.are_there in
      ap (at_module last there) p.spelled
      ∙ ap (λ o. with p.a.line o (λ name. at_exports last there name p.a.line (p.b ∷ p.c ∷ p.d ∷ p.rest))) p.name_is
      ∙ ap (λ o. with p.b.line o (λ exports. at_attributes last m.name exports p.b.line (p.c ∷ p.d ∷ p.rest))) found
      ∙ ap (λ o. with p.c.line o (λ about. at_labels last m.name m.exports p.c.line (p.d ∷ p.rest))) p.attributes_are
      ∙ ap (λ o. with p.d.line o (λ n. outlined m.name m.exports (functions last m.name p.rest))) p.labels_are
      ∙ ap (outlined m.name m.exports) (functions-back last m.name p.rest m.functions p.functions_are)

  -- the module of a text is read
  pub read-back : (text : List ℕ) (m : Module) → IsModuleOf last text m → module_of_text last text ≡ Ok m
  read-back text m p =
      let o : Outline = record { name = m.name; exports = m.exports; functions = m.functions } in
      ap (module_in last text) p.read
      ∙ ap (checked text) (outlined-back p.forms m p.is)
      ∙ ap (unless_broken text o) p.is.none_broken
      ∙ ap (λ kept. Ok (record { name = m.name; exports = m.exports; functions = m.functions; text = kept })) (sym p.kept)

-- the same of an answer that may want memory
pub written_is : (last : ℕ) (text : List ℕ) (r : Result Module ModuleRefusal) → Meets r (module_of_text last text) → IfOk r (λ m. IsModuleOf last text m)
written_is last text (Ok m) e = read-forth last text m e
written_is last text (Err refusal) e = tt

pub back_is : (last : ℕ) (text : List ℕ) (r : Result Module ModuleRefusal) → Meets r (module_of_text last text) → (m : Module) → IsModuleOf last text m → Meets r (Ok m)
back_is last text (Ok a) e m p = sym (read-back last text m p) ∙ e
back_is last text (Err refusal) e m p = λ cause. sym (read-back last text m p) ∙ e cause
