-- The reading of a text: the one answer that the rules of refusals give to its tokens (docs/TEXT.md).
use Rattle.std.specs.Prelude.{ℕ, ◌≡◌, List, Result, Ok, Err}
use Rattle.term_tree.specs.declared.term.Term.{Term}
use Rattle.text_tokens.specs.Tokens.{Stop, Lined, lined, tokens}
use Rattle.text_forms.specs.declared.form.Form.{Form}
use Rattle.text_forms.specs.declared.refusal.TextRefusal.{TextRefusal}
use Rattle.text_forms.specs.declared.refusal.TextRefusal.TheVariants.{Memory}
use Rattle.text_forms.specs.Spelling.{AreForms, AreArguments}
use Rattle.text_forms.specs.Refusals.{Makes, IsReading, Meets}
use Rattle.text_forms.proofs.Readings.{forms_read, arguments_read}

-- the forms of a text, or the arguments, or its refusal: what the tokens are read as. That there is one such answer, and
-- that there is no other, is proved of the relation IsReading; nothing else is known of the two
unfoldable pub reading : List ℕ → Result (List Form) TextRefusal
reading text = (forms_read (tokens text)).answer

unfoldable pub arguments : List ℕ → Result (List Term) TextRefusal
arguments text = (arguments_read (tokens text)).answer

-- the text is that of these forms, or of these arguments
abbrev pub IsTextOf : List ℕ → List Form → Type 0
IsTextOf text forms = (ts : List Lined) × (line : ℕ) × (tokens text ≡ lined ts (Stop line)) × Makes AreForms forms ts

abbrev pub IsTextOfArguments : List ℕ → List Term → Type 0
IsTextOfArguments text terms = (ts : List Lined) × (line : ℕ) × (tokens text ≡ lined ts (Stop line)) × Makes AreArguments terms ts

-- whatever the text is that of, the answer is it; but for want of memory
abbrev pub ReadsForms : List ℕ → Result (List Form) TextRefusal → Type 0
ReadsForms text answer = (forms : List Form) → IsTextOf text forms → Meets answer (Ok forms)

abbrev pub ReadsArguments : List ℕ → Result (List Term) TextRefusal → Type 0
ReadsArguments text answer = (terms : List Term) → IsTextOfArguments text terms → Meets answer (Ok terms)

-- whatever refusal the answer is, it is the one of the tokens; but for want of memory
abbrev pub Refuses : {A : Type 0} → (A → List Lined → Type 0) → List ℕ → Result A TextRefusal → Type 0
Refuses Are text (Ok all) = Unit {0}
Refuses Are text (Err (Memory e)) = Unit {0}
Refuses Are text (Err refusal) = IsReading Are (tokens text) (Err refusal)
