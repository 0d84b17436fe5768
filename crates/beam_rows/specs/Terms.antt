-- What built-ins give: terms of terms, with the heap words and the failures of the table (docs/BEAM.md, Built-ins).
use Rattle.std.specs.Prelude.{ℕ, ◌≡◌, ◌≤◌, List, Some, slice_get, length, codes}
use Rattle.beam_code.specs.declared.call.RaiseClass.{RaiseClass}
use Rattle.beam_code.specs.declared.call.RaiseClass.TheVariants.{Error}
use Rattle.beam_code.specs.BuiltIns.{Gives, Fails, BuiltIn, Failure, NoFailure, Badarith, Badarg, First, Making, ATuple, built_ins, builtin, elements_at, first_of, words_made}
use Rattle.term_tree.specs.IsTerm.{IsTerm, AreTerms, most_elements}
use Rattle.term_tree.specs.Tree.{Tree, Atom, trees_of}

-- how many elements a new tuple has
abbrev pub tuple_made : Making → List Tree → ℕ
tuple_made (ATuple at) vs = elements_at (slice_get vs at)
tuple_made _ vs = 0

-- a value of terms is a term, where a header can say the size of a tuple that is made
abbrev pub BuiltInsGiveTerms : Type 0
BuiltInsGiveTerms =
    (k : ℕ) (b : BuiltIn) (vs : List Tree) (v : Tree) (words : ℕ)
    → slice_get built_ins k ≡ Some b → AreTerms (trees_of vs) → tuple_made b.making vs ≤ most_elements → builtin k vs ≡ Gives v words → IsTerm v

-- a value makes the words of its row
abbrev pub BuiltInsMakeTheirWords : Type 0
BuiltInsMakeTheirWords =
    (k : ℕ) (b : BuiltIn) (vs : List Tree) (v : Tree) (words : ℕ)
    → slice_get built_ins k ≡ Some b → builtin k vs ≡ Gives v words → words ≡ words_made b.making vs

-- an exception of a row: an error with one of two reasons, or the first argument with a class
abbrev pub IsFailure : Failure → List Tree → RaiseClass → Tree → Type 0
IsFailure NoFailure vs class reason = ⊥
IsFailure Badarith vs class reason = (class ≡ Error) × (reason ≡ Atom (codes "badarith"))
IsFailure Badarg vs class reason = (class ≡ Error) × (reason ≡ Atom (codes "badarg"))
IsFailure (First c) vs class reason = (class ≡ c) × (reason ≡ first_of vs)

abbrev pub BuiltInsFailByTheirRows : Type 0
BuiltInsFailByTheirRows =
    (k : ℕ) (b : BuiltIn) (vs : List Tree) (class : RaiseClass) (reason : Tree)
    → slice_get built_ins k ≡ Some b → length vs ≡ b.arity → builtin k vs ≡ Fails class reason → IsFailure b.failure vs class reason
