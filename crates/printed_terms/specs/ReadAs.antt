-- What a text is read as, where it is that of one term (docs/TEXT.md).
use Rattle.std.specs.Prelude.{ℕ, ◌≡◌, List, [], ◌∷◌, ◌++◌, Ok, codes}
use Rattle.asm_text.specs.Reading.{arguments, reading}
use Rattle.term_tree.specs.declared.term.Term.{Term}
use Rattle.text_forms.specs.declared.form.Form.{Form}

-- in the brackets of arguments, as the one argument
abbrev pub IsReadAsArgument : List ℕ → Term → Type 0
IsReadAsArgument text x = arguments (codes "[" ++ text ++ codes "]") ≡ Ok (x ∷ [])

-- before a dot, as the one form, in the first line
abbrev pub IsReadAsForm : List ℕ → Term → Type 0
IsReadAsForm text x = let one : Form = record { line = 1; term = x } in reading (text ++ codes ".") ≡ Ok (one ∷ [])
