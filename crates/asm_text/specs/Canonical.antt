-- Forms of canonical terms (docs/TEXT.md).
use Rattle.std.specs.Prelude.{Bool}
use Rattle.term_tree.specs.Term.{is_canonical}
use Rattle.text_forms.specs.declared.form.Form.{Form}

-- the term of a form is canonical
abbrev pub has_canonical : Form → Bool
has_canonical form = is_canonical form.term
