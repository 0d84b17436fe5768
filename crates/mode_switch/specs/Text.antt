-- The line that an outcome is printed as, and the status that goes with it (docs/MACHINE.md, Outcomes).
use Rattle.std.specs.Prelude.{ℕ, ◌≡◌, ◌<◌, ◌/◌, ◌%◌, true, List, [], ◌∷◌, ◌++◌, codes, decimal, length, slice_get}
use Rattle.std.specs.Fmt.{digit_glyph}
use Rattle.std.specs.Option.{unwrap_or}
use Rattle.beam_code.specs.Raise.{class_name}
use Rattle.beam_code.specs.declared.call.RaiseClass.{RaiseClass}
use Rattle.mode_switch.specs.declared.outcome.End.{End}
use Rattle.mode_switch.specs.declared.outcome.End.TheVariants as e
use Rattle.mode_switch.specs.declared.outcome.FaultKind.{FaultKind}
use Rattle.mode_switch.specs.declared.outcome.FaultKind.TheVariants as kinds
use Rattle.mode_switch.specs.declared.outcome.Outcome.{Outcome}
use Rattle.mode_switch.specs.declared.outcome.Outcome.TheVariants.{Returned, Raised, Ended}
use Rattle.mode_switch.specs.declared.outcome.Step.{Step}
use Rattle.mode_switch.specs.declared.outcome.Step.TheVariants as answer
use Rattle.mode_switch.specs.declared.text.TheConstants.{VALUE_STATUS, RAISE_STATUS, END_STATUS, NOT_BUILT_STATUS, MOST_PRINTED}
use Rattle.mode_switch.specs.State.{Loaded, MixedState}
use Rattle.mode_switch.specs.Store.{store_of}
use Rattle.tagged_words.specs.Look.{address_end}
use Rattle.tagged_words.specs.Seen.{Seen, Sees}
use Rattle.tagged_words.specs.Store.{Store}
use Rattle.term_tree.specs.Text.{text_of}
use Rattle.term_tree.specs.Tree as t
use Rattle.word_walks.specs.Spelt.{Spelling, Text, Large, Meets, spelt}

-- a word is written with eight upper-case hexadecimal digits
abbrev pub byte_text : ℕ → List ℕ
byte_text b = digit_glyph true (b / 16) ∷ digit_glyph true (b % 16) ∷ []

abbrev pub half_text : ℕ → List ℕ
half_text h = byte_text (h / 256) ++ byte_text (h % 256)

abbrev pub word_text : ℕ → List ℕ
word_text w = half_text (w / 65536) ++ half_text (w % 65536)

abbrev pub kind_name : FaultKind → List ℕ
kind_name kinds.Illegal = codes "illegal"
kind_name kinds.Unaligned = codes "unaligned"
kind_name kinds.Range = codes "range"
kind_name kinds.Fetch = codes "fetch"
kind_name kinds.Term = codes "term"
kind_name kinds.Frame = codes "frame"

-- what is not printed yet
abbrev pub not_built : List ℕ × ℕ
not_built = ([], NOT_BUILT_STATUS)

abbrev pub end_line : List ℕ → List ℕ × ℕ
end_line name = (codes "end " ++ name ++ codes "\n", END_STATUS)

-- the name of the end of a call to a function that is not provided
abbrev pub not_provided : List ℕ → List ℕ → ℕ → List ℕ
not_provided m f arity = codes "not_provided " ++ text_of (t.Atom m) ++ codes ":" ++ text_of (t.Atom f) ++ codes "/" ++ decimal arity

-- that of a fault, at an address or about a word
abbrev pub machine_fault : FaultKind → ℕ → List ℕ
machine_fault kind at = codes "machine_fault " ++ kind_name kind ++ codes " " ++ word_text at

-- the name of the atom with a number
abbrev pub name_at : List (List ℕ) → ℕ → List ℕ
name_at names n = unwrap_or (slice_get names n) []

-- the line of an end
abbrev pub end_text : List (List ℕ) → End → List ℕ × ℕ
end_text names e.Bignum = end_line (codes "bignum")
end_text names e.HeapFull = end_line (codes "heap_full")
end_text names e.StackFull = end_line (codes "stack_full")
end_text names e.OutOfReductions = end_line (codes "out_of_reductions")
end_text names e.BadOperand = end_line (codes "bad_operand")
end_text names (e.NotProvided m f arity) = end_line (not_provided (name_at names m) (name_at names f) arity)
end_text names (e.MachineFault kind at) = end_line (machine_fault kind at)
end_text names e.StepsSpent = end_line (codes "steps_spent")
end_text names (e.NotBuilt at) = not_built

-- the line of a term behind a head, where its text is spelt, is too large, or a word that stands for no term is met
abbrev pub term_line : List ℕ → ℕ → Spelling → List ℕ × ℕ
term_line head status (Text text nodes) = (head ++ text ++ codes "\n", status)
term_line head status Large = (head ++ codes "..." ++ codes "\n", status)
term_line head status (Meets w) = end_line (machine_fault kinds.Term w)

-- the line of what is seen from a word
abbrev pub IsTermLine : Store → List (List ℕ) → List ℕ → ℕ → ℕ → List ℕ × ℕ → Type 0
IsTermLine store names head status w line = (v : Seen) × Sees store names address_end w v × (term_line head status (spelt MOST_PRINTED v) ≡ line)

-- the heads of a value and of an exception
abbrev pub value_head : List ℕ
value_head = codes "return "

abbrev pub raise_head : RaiseClass → List ℕ
raise_head class = codes "raise " ++ class_name class ++ codes " "

-- the line of an outcome and its status, where words are looked up in a store
abbrev pub IsLineIn : Store → List (List ℕ) → Outcome → List ℕ × ℕ → Type 0
IsLineIn store names (Returned w) line = IsTermLine store names value_head VALUE_STATUS w line
IsLineIn store names (Raised class w) line = IsTermLine store names (raise_head class) RAISE_STATUS w line
IsLineIn store names (Ended end) line = end_text names end ≡ line

-- that of how a run ended, given the state that it came to
abbrev pub Says : Loaded → MixedState → Outcome → List ℕ × ℕ → Type 0
Says g s o line = IsLineIn (store_of g s) g.names o line

-- the atoms that an end and an outcome name are in the table
abbrev pub IsEndAtoms : List (List ℕ) → End → Type 0
IsEndAtoms names (e.NotProvided m f arity) = (m < length names) × (f < length names)
IsEndAtoms names other = Unit {0}

abbrev pub IsAtomsOf : List (List ℕ) → Outcome → Type 0
IsAtomsOf names (Ended end) = IsEndAtoms names end
IsAtomsOf names other = Unit {0}

-- those of what a step leads to
abbrev pub IsStepAtoms : List (List ℕ) → Step → Type 0
IsStepAtoms names answer.Still = Unit {0}
IsStepAtoms names (answer.Done o) = IsAtomsOf names o

-- one line alone is said of an outcome
abbrev pub OneLineIsSaid : Type 0
OneLineIsSaid = (g : Loaded) (s : MixedState) (o : Outcome) (a b : List ℕ × ℕ) → Says g s o a → Says g s o b → a ≡ b
