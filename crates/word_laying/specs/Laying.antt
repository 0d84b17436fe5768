-- What it takes to lay a term, and the cells of a list from the last to the first (docs/MACHINE.md, Words).
use Rattle.std.specs.Prelude.{ℕ, ◌≡◌, ◌≤◌, ◌+◌, ◌-◌, ◌*◌, ◌%◌, true, List, [], ◌∷◌, length}
use Rattle.tagged_words.specs.Atoms.{is_among}
use Rattle.tagged_words.specs.Laid.{word_for}
use Rattle.tagged_words.specs.Region.{Region}
use Rattle.term_tree.specs.declared.term.Term.{Term}
use Rattle.term_tree.specs.IsTerm.{most_elements}
use Rattle.term_tree.specs.Size.{size_of, words_of}
use Rattle.term_tree.specs.Small.{IsSmall}
use Rattle.term_tree.specs.Term.{tree_of}
use Rattle.term_tree.specs.Tree as t

-- the address behind the last word of a region
abbrev pub region_end : Region → ℕ
region_end r = r.start + 4 * length r.words

-- the address behind the cells of a term that is laid from an address on
abbrev pub end_at : ℕ → t.Tree → ℕ
end_at at v = at + 4 * words_of v

-- the address of a word of the region, or the one behind the last
pub record IsPlace (r : Region) (at : ℕ) : Type 0 where
  pub whole : at % 4 ≡ 0
  pub above : r.start ≤ at
  pub below : at ≤ region_end r

-- at every depth: small integers, atoms that are in the table, tuples of a size that a header can say
abbrev mutual
  pub CanBeLaid : List (List ℕ) → t.Tree → Type 0
  CanBeLaid names (t.Int i) = IsSmall i
  CanBeLaid names (t.Atom a) = is_among a names ≡ true
  CanBeLaid names t.Nil = Unit {0}
  CanBeLaid names (t.Cons head tail) = CanBeLaid names head × CanBeLaid names tail
  CanBeLaid names (t.Tuple vs) = (size_of vs ≤ most_elements) × AllCanBeLaid names vs

  pub AllCanBeLaid : List (List ℕ) → t.Trees → Type 0
  AllCanBeLaid names t.No = Unit {0}
  AllCanBeLaid names (t.More v vs) = CanBeLaid names v × AllCanBeLaid names vs

-- the same of a term of the code
abbrev pub Fits : List (List ℕ) → Term → Type 0
Fits names x = CanBeLaid names (tree_of x)

-- The cells of a list, from the last element to the first: where the cells of the last element end, the address of the
-- list's last cell, and the word of what stands behind that one.
abbrev pub cells : List (List ℕ) → ℕ → ℕ → ℕ → List t.Tree → List ℕ
cells names end at rest [] = []
cells names end at rest (v ∷ before) = word_for names end v ∷ rest ∷ cells names (end - 4 * words_of v) (at + 8) (at + 1) before
