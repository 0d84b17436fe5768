-- The constants of modules (docs/FORMAT.md, Atoms, Literals): a table of atoms, the words of the literal operands, and the word that stands for each.
use Rattle.std.specs.Prelude.{ℕ, ◌≡◌, true, List, [], ◌∷◌, length, Some, slice_get}
use Rattle.beam_code.specs.declared.module.Module.{Module}
use Rattle.ir_code.specs.Mentions.{Mention, Named, Literal, literals_of, mentions_of}
use Rattle.laid_terms.specs.Named.{IsNamed}
use Rattle.tagged_words.specs.Atoms.{IsTable, first_atoms, is_among}
use Rattle.tagged_words.specs.Laid.{laid_in_turn, words_in_turn, with_atom, with_atoms}
use Rattle.tagged_words.specs.Seen.{IsTreeOf}
use Rattle.tagged_words.specs.declared.addresses.TheConstants.{LITERAL_START}
use Rattle.term_tree.specs.Tree.{Tree}
use Rattle.word_terms.specs.Literals.{literal_store}

pub record Constants : Type 0 where
  pub atoms : List (List ℕ)
  pub literals : List ℕ
  pub roots : List ℕ

-- a table with what is mentioned: each name at its first appearance, those of a literal from left to right
abbrev pub with_mention : List (List ℕ) → Mention → List (List ℕ)
with_mention names (Named a) = with_atom names a
with_mention names (Literal v) = with_atoms names v

abbrev pub with_mentions : List (List ℕ) → List Mention → List (List ℕ)
with_mentions names [] = names
with_mentions names (m ∷ more) = with_mentions (with_mention names m) more

abbrev pub table_of : List Module → List (List ℕ)
table_of ms = with_mentions first_atoms (mentions_of ms)

-- with these names the literals are laid one after the other
abbrev pub with_literals : List (List ℕ) → List Tree → Constants
with_literals names literals =
    record { atoms = names; literals = laid_in_turn names LITERAL_START literals; roots = words_in_turn names LITERAL_START literals }

abbrev pub constants_of : List Module → Constants
constants_of ms = with_literals (table_of ms) (literals_of (mentions_of ms))

-- ---- what is asked of constants, whoever made them

-- what is mentioned has its names in a table
abbrev pub IsKnown : List (List ℕ) → Mention → Type 0
IsKnown names (Named a) = is_among a names ≡ true
IsKnown names (Literal v) = IsNamed names v

pub record ConstantsHold (c : Constants) (ms : List Module) : Type 0 where
  pub table : IsTable c.atoms
  pub known : (k : ℕ) (m : Mention) → slice_get (mentions_of ms) k ≡ Some m → IsKnown c.atoms m
  pub many : length c.roots ≡ length (literals_of (mentions_of ms))
  pub stand : (k w : ℕ) (v : Tree) → slice_get c.roots k ≡ Some w → slice_get (literals_of (mentions_of ms)) k ≡ Some v → IsTreeOf (literal_store c.literals) c.atoms w v
