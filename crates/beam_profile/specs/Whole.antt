-- A module and its forms in the words of the rule (docs/BEAM.md, Forms).
use Rattle.std.specs.Prelude.{◌≡◌, ℕ, true, List, [], ◌∷◌, Some, None, Ok}
use Rattle.std.specs.List.{list_all}
use Rattle.term_tree.specs.declared.term.Term.{Term}
use Rattle.text_forms.specs.declared.form.Form.{Form}
use Rattle.asm_text.specs.Reading.{reading}
use Rattle.beam_code.specs.declared.module.Module.{Module}
use Rattle.beam_profile.specs.Header.{declared, is_declared, module_of, exports_of, attributes_of, labels_of}
use Rattle.beam_profile.specs.Labels.{first_broken}
use Rattle.beam_profile.specs.Forms.{AreFunctions}

-- the four forms in front, exports that are there, the forms of the functions, and no item that breaks the labels
pub record IsModule (last : ℕ) (forms : List Form) (m : Module) : Type 0 where
  pub a : Form
  pub b : Form
  pub c : Form
  pub d : Form
  pub rest : List Form
  pub about : Term
  pub count : ℕ
  pub spelled : forms ≡ a ∷ b ∷ c ∷ d ∷ rest
  pub name_is : module_of a.term ≡ Some m.name
  pub exports_are : exports_of b.term ≡ Some m.exports
  pub are_there : list_all (is_declared (declared forms)) m.exports ≡ true
  pub attributes_are : attributes_of c.term ≡ Some about
  pub labels_are : labels_of d.term ≡ Some count
  pub functions_are : AreFunctions last m.name [] rest m.functions
  pub none_broken : first_broken [] m.functions ≡ None

-- the text has these forms, and the module keeps it
pub record IsModuleOf (last : ℕ) (text : List ℕ) (m : Module) : Type 0 where
  pub forms : List Form
  pub read : reading text ≡ Ok forms
  pub is : IsModule last forms m
  pub kept : m.text ≡ text
