-- How terms are laid out as words (docs/MACHINE.md, Words): elements first, left to right, then a list's tail, then its cells from the last to the first.
use Rattle.std.specs.Prelude.{ℕ, ◌+◌, ◌-◌, ◌*◌, List, [], ◌∷◌, ◌++◌, if◌then◌else◌}
use Rattle.std.specs.List.{list_any}
use Rattle.term_tree.specs.Name.{same_name}
use Rattle.term_tree.specs.Size.{size_of, words_of}
use Rattle.term_tree.specs.Tree as t
use Rattle.tagged_words.specs.Word.{small_word, atom_word, nil_word, header_word}

-- the number of an atom that is there, counted from a number on
abbrev pub number_from : ℕ → List (List ℕ) → List ℕ → ℕ
number_from at [] a = 0
number_from at (n ∷ ns) a = if same_name a n then at else number_from (at + 1) ns a

abbrev pub atom_number : List (List ℕ) → List ℕ → ℕ
atom_number names a = number_from 0 names a

-- the word of a term whose cells end at an address
abbrev pub word_for : List (List ℕ) → ℕ → t.Tree → ℕ
word_for names end (t.Int i) = small_word i
word_for names end (t.Atom a) = atom_word (atom_number names a)
word_for names end t.Nil = nil_word
word_for names end (t.Cons head tail) = end - 7
word_for names end (t.Tuple vs) = end - 4 * size_of vs - 2

-- the words of the elements of a tuple, whose own cells are laid from an address on
abbrev pub element_words : List (List ℕ) → ℕ → t.Trees → List ℕ
element_words names at t.No = []
element_words names at (t.More v vs) = word_for names (at + 4 * words_of v) v ∷ element_words names (at + 4 * words_of v) vs

-- the words of the cells of a term that is laid from an address on
abbrev mutual
  pub laid : List (List ℕ) → ℕ → t.Tree → List ℕ
  laid names at (t.Int i) = []
  laid names at (t.Atom a) = []
  laid names at t.Nil = []
  laid names at (t.Cons head tail) =
      laid names at head ++ laid names (at + 4 * words_of head) tail
      ++ word_for names (at + 4 * words_of head) head ∷ word_for names (at + 4 * words_of head + 4 * words_of tail) tail ∷ []
  laid names at (t.Tuple vs) = laid_all names at vs ++ header_word (size_of vs) ∷ element_words names at vs

  pub laid_all : List (List ℕ) → ℕ → t.Trees → List ℕ
  laid_all names at t.No = []
  laid_all names at (t.More v vs) = laid names at v ++ laid_all names (at + 4 * words_of v) vs

-- terms that are laid one after the other: their cells, and their words
abbrev pub laid_in_turn : List (List ℕ) → ℕ → List t.Tree → List ℕ
laid_in_turn names at [] = []
laid_in_turn names at (v ∷ vs) = laid names at v ++ laid_in_turn names (at + 4 * words_of v) vs

abbrev pub words_in_turn : List (List ℕ) → ℕ → List t.Tree → List ℕ
words_in_turn names at [] = []
words_in_turn names at (v ∷ vs) = word_for names (at + 4 * words_of v) v ∷ words_in_turn names (at + 4 * words_of v) vs

-- an atom table with an atom behind the others, unless it is there
abbrev pub with_atom : List (List ℕ) → List ℕ → List (List ℕ)
with_atom names a = if list_any (same_name a) names then names else names ++ a ∷ []

-- with these names, and with all atoms of a term, from left to right
abbrev pub with_names : List (List ℕ) → List (List ℕ) → List (List ℕ)
with_names names [] = names
with_names names (a ∷ more) = with_names (with_atom names a) more

abbrev mutual
  pub with_atoms : List (List ℕ) → t.Tree → List (List ℕ)
  with_atoms names (t.Int i) = names
  with_atoms names (t.Atom a) = with_atom names a
  with_atoms names t.Nil = names
  with_atoms names (t.Cons head tail) = with_atoms (with_atoms names head) tail
  with_atoms names (t.Tuple vs) = with_all_atoms names vs

  pub with_all_atoms : List (List ℕ) → t.Trees → List (List ℕ)
  with_all_atoms names t.No = names
  with_all_atoms names (t.More v vs) = with_all_atoms (with_atoms names v) vs

abbrev pub with_atoms_of : List (List ℕ) → List t.Tree → List (List ℕ)
with_atoms_of names [] = names
with_atoms_of names (v ∷ vs) = with_atoms_of (with_atoms names v) vs
