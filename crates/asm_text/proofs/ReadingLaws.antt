-- Readings by their relation.
use Rattle.std.proofs.Common.{◌≡◌, ℕ, Bool, true, List, [], Option, Result, Ok, Err, ◌∙◌, sym, subst}
use Rattle.std.specs.Prelude.{IfOk}
use Rattle.std.specs.List.{list_all}
use Rattle.term_tree.specs.declared.term.Term.{Term}
use Rattle.text_tokens.specs.Tokens.{Stop, Lined, tokens}
use Rattle.text_tokens.proofs.CanonicalTokens.{in_lined, tokens_canonical}
use Rattle.text_forms.specs.declared.form.Form.{Form}
use Rattle.text_forms.specs.declared.place.Stand.{Stand}
use Rattle.text_forms.specs.declared.refusal.TextRefusal.{TextRefusal}
use Rattle.text_forms.specs.declared.refusal.TextRefusal.TheVariants.{Syntax, Wide, Kind, Deep, Memory}
use Rattle.text_forms.specs.Spelling.{AreForms, AreArguments}
use Rattle.text_forms.specs.Refusals.{IsReading, Meets}
use Rattle.text_forms.specs.Steps.{before, run, outcome}
use Rattle.text_forms.proofs.Reached.{root}
use Rattle.text_forms.proofs.Roots.{Root}
use Rattle.text_forms.proofs.Readings.{exists, one_reading, forms_read, arguments_read, one_reading_of_forms, one_reading_of_arguments}
use Rattle.asm_text.specs.Reading.{reading, arguments, IsTextOf, IsTextOfArguments, Refuses}

pub reading-is : (text : List ℕ) → IsReading AreForms (tokens text) (reading text)
unfolding reading
reading-is text = (forms_read (tokens text)).is

pub arguments-is : (text : List ℕ) → IsReading AreArguments (tokens text) (arguments text)
unfolding arguments
arguments-is text = (arguments_read (tokens text)).is

pub reading-one : (text : List ℕ) (r : Result (List Form) TextRefusal) → IsReading AreForms (tokens text) r → reading text ≡ r
reading-one text r is = one_reading_of_forms (tokens text) (reading text) r (reading-is text) is

pub arguments-one : (text : List ℕ) (r : Result (List Term) TextRefusal) → IsReading AreArguments (tokens text) r → arguments text ≡ r
arguments-one text r is = one_reading_of_arguments (tokens text) (arguments text) r (arguments-is text) is

pub reading-spelled : (text : List ℕ) (forms : List Form) → reading text ≡ Ok forms → IsTextOf text forms
reading-spelled text forms e = let P : Result (List Form) TextRefusal → Type 0 = λ r. IsReading AreForms (tokens text) r in subst P e (reading-is text)

-- two lists that a text is that of
pub one_list_of_forms : (text : List ℕ) (f g : List Form) → IsTextOf text f → IsTextOf text g → f ≡ g
one_list_of_forms text f g first second = let same : Ok f ≡ Ok g = sym (reading-one text (Ok f) first) ∙ reading-one text (Ok g) second in cc

pub one_list_of_arguments : (text : List ℕ) (f g : List Term) → IsTextOfArguments text f → IsTextOfArguments text g → f ≡ g
one_list_of_arguments text f g first second = let same : Ok f ≡ Ok g = sym (arguments-one text (Ok f) first) ∙ arguments-one text (Ok g) second in cc

-- ---- an answer that is a reading but for want of memory

pub record Answered {A : Type 0} (Are : A → List Lined → Type 0) (Fine : A → Type 0) (text : List ℕ) (answer wanted : Result A TextRefusal) : Type 0 where
  pub meets : Meets answer wanted
  pub written : (all : A) → IsReading Are (tokens text) (Ok all) → Meets answer (Ok all)
  pub spelled : IfOk answer (λ all. IsReading Are (tokens text) (Ok all))
  pub refused : Refuses Are text answer
  pub canonical : IfOk answer Fine

-- what the code comes to, where what canonical tokens spell is fine
pub answered : {A : Type 0} (Are : A → List Lined → Type 0) (arguments : Bool) (whole : Stand → Option A) → Root Are arguments whole → (Fine : A → Type 0) →
    ((all : A) (ts : List Lined) → Are all ts → list_all in_lined ts ≡ true → Fine all) → (text : List ℕ) (answer wanted : Result A TextRefusal) → IsReading Are (tokens text) wanted →
    Meets answer (outcome whole (run (before (root arguments) []) (tokens text))) → Answered Are Fine text answer wanted
answered {A = A} Are arguments whole r Fine fine text answer wanted is h =
    record { meets = meets; written = (λ all written. met answer wanted (Ok all) meets (one wanted (Ok all) is written)); spelled = spelled answer meets; refused = refused answer meets; canonical = canonical answer meets }
  where
    one : (a b : Result A TextRefusal) → IsReading Are (tokens text) a → IsReading Are (tokens text) b → a ≡ b
    one = one_reading Are arguments whole r (tokens text)

    met : (answer a b : Result A TextRefusal) → Meets answer a → a ≡ b → Meets answer b
    met answer a b m e = let P : Result A TextRefusal → Type 0 = λ x. Meets answer x in subst P e m

    meets : Meets answer wanted
    meets = met answer (outcome whole (run (before (root arguments) []) (tokens text))) wanted h (one _ wanted (exists Are arguments whole r (tokens text)) is)

    read : (a : Result A TextRefusal) → wanted ≡ a → IsReading Are (tokens text) a
    read a e = let P : Result A TextRefusal → Type 0 = λ x. IsReading Are (tokens text) x in subst P e is

    spelled : (answer : Result A TextRefusal) → Meets answer wanted → IfOk answer (λ all. IsReading Are (tokens text) (Ok all))
    spelled (Ok all) e = read (Ok all) e
    spelled (Err refusal) e = tt

    refused : (answer : Result A TextRefusal) → Meets answer wanted → Refuses Are text answer
    refused (Ok all) e = tt
    refused (Err (Memory m)) e = tt
    refused (Err (Syntax line)) e = read (Err (Syntax line)) e
    refused (Err (Wide line)) e = read (Err (Wide line)) e
    refused (Err (Kind line kind)) e = read (Err (Kind line kind)) e
    refused (Err (Deep line)) e = read (Err (Deep line)) e

    canonical : (answer : Result A TextRefusal) → Meets answer wanted → IfOk answer Fine
    canonical (Ok all) e = let s = read (Ok all) e in fine all s.0 s.3.0 (tokens_canonical text s.0 (Stop s.1) s.2)
    canonical (Err refusal) e = tt
