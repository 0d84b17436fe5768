-- What a built-in answers on words, and the cells that it makes (docs/MACHINE.md, Built-ins on words).
use Rattle.std.specs.Prelude.{ℕ, zero, suc, ◌+◌, Bool, true, false, List, [], ◌∷◌, ◌++◌, length, Option, Some, None, nat_lt, if◌then◌else◌}
use Rattle.beam_code.specs.Answer as a
use Rattle.beam_code.specs.BuiltIns.{Failure, NoFailure, Badarith, Badarg, First}
use Rattle.beam_code.specs.declared.call.RaiseClass.{RaiseClass}
use Rattle.beam_code.specs.declared.call.RaiseClass.TheVariants.{Error, Exit, Throw}
use Rattle.tagged_words.specs.Laid.{atom_number}
use Rattle.tagged_words.specs.Atoms.{first_atoms}
use Rattle.tagged_words.specs.Seen.{Seen}
use Rattle.tagged_words.specs.Store.{Store, word_of}
use Rattle.tagged_words.specs.Word.{small_word, atom_word, header_word}
use Rattle.term_tree.specs.Tree as t
use Rattle.std.specs.Prelude.{codes}

-- a word, with the words that are pushed on the heap before it is given; a raise with the number of its class and the word
-- of its reason; an integer that is too wide; no room on the heap; a word that was looked at and stands for no term
pub data Reply : Type 0 where
  Value : ℕ → List ℕ → Reply
  Raise : ℕ → ℕ → Reply
  Bignum : Reply
  HeapFull : Reply
  Fault : ℕ → Reply

-- an argument: its word, and what is seen from it
pub record Argument : Type 0 where
  pub word : ℕ
  pub seen : Seen

-- the word of one of the atoms that the machine itself makes
abbrev pub own_atom : List ℕ → ℕ
own_atom name = atom_word (atom_number first_atoms name)

abbrev pub truth_word : Bool → ℕ
truth_word true = own_atom (codes "true")
truth_word false = own_atom (codes "false")

abbrev pub says : Bool → Reply
says b = Value (truth_word b) []

-- the classes by the numbers of their atoms
abbrev pub class_number : RaiseClass → ℕ
class_number Error = 0
class_number Exit = 1
class_number Throw = 2

-- what a failure raises; the first argument is raised as it is
abbrev pub raised : Failure → ℕ → Reply
raised NoFailure first = Raise 0 (own_atom (codes "badarg"))
raised Badarith first = Raise 0 (own_atom (codes "badarith"))
raised Badarg first = Raise 0 (own_atom (codes "badarg"))
raised (First class) first = Raise (class_number class) first

-- the word of a value that has no cell
abbrev pub immediate : t.Tree → Reply
immediate (t.Int i) = Value (small_word i) []
immediate (t.Atom name) = Value (own_atom name) []
immediate other = Bignum

abbrev pub valued : Failure → ℕ → a.Value → Reply
valued why first (a.Is v) = immediate v
valued why first a.Fails = raised why first
valued why first a.TooWide = Bignum

-- cells of a list, each on the one before: the first lies on the top of the heap, and its tail is a word that is given
abbrev pub cells : ℕ → List ℕ → ℕ → List ℕ
cells top [] end = []
cells top (head ∷ heads) end = head ∷ end ∷ cells (top + 8) heads (top + 1)

abbrev pub last_cell : ℕ → List ℕ → ℕ → ℕ
last_cell top [] end = end
last_cell top (head ∷ heads) end = last_cell (top + 8) heads (top + 1)

-- made where there is room for its words
abbrev pub made : ℕ → List ℕ → ℕ → Reply
made room words value = if nat_lt room (length words) then HeapFull else Value value words

abbrev pub list_made : ℕ → ℕ → List ℕ → ℕ → Reply
list_made room top heads end = made room (cells top heads end) (last_cell top heads end)

abbrev pub tuple_made : ℕ → ℕ → List ℕ → Reply
tuple_made room top elements = made room (header_word (length elements) ∷ elements) (top + 2)

-- the store with what an answer pushes
abbrev pub pushed : Store → List ℕ → Store
pushed s ws = record s { heap = s.heap ++ ws }

abbrev pub words_of_answer : Reply → List ℕ
words_of_answer (Value w ws) = ws
words_of_answer other = []

-- the word at an address, where there is one
abbrev pub word_or_none : Option ℕ → ℕ
word_or_none None = 0
word_or_none (Some w) = w

abbrev pub read : Store → ℕ → ℕ
read s at = word_or_none (word_of s at)

-- so many words from an address up
abbrev pub reads : Store → ℕ → ℕ → List ℕ
reads s at zero = []
reads s at (suc n) = read s at ∷ reads s (at + 4) n
