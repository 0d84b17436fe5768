-- Terms laid in a store, and what their words stand for (docs/MACHINE.md, Words).
use Rattle.std.specs.Prelude.{ℕ, ◌≡◌, ◌+◌, ◌*◌, ◌%◌, ◌<◌, ◌≤◌, List, Some, slice_get}
use Rattle.laid_terms.specs.Named.{IsNamed}
use Rattle.std.specs.List.{AllByRecursion}
use Rattle.tagged_words.specs.declared.addresses.TheConstants.{HEAP_START}
use Rattle.tagged_words.specs.Laid.{laid, word_for, laid_in_turn, words_in_turn, with_atoms_of}
use Rattle.tagged_words.specs.Look.{address_end}
use Rattle.tagged_words.specs.Seen.{IsTreeOf}
use Rattle.tagged_words.specs.Store.{Store, word_of}
use Rattle.term_tree.specs.IsTerm.{IsTerm}
use Rattle.term_tree.specs.Size.{words_of, words_of_all}
use Rattle.term_tree.specs.Tree.{Tree, trees_of}

-- the most words that terms may take here: their addresses stay far below the end of all addresses
abbrev pub most_laid : ℕ
most_laid = 67108864

-- the second list begins with the first
abbrev pub Begins : List ℕ → List ℕ → Type 0
Begins ws all = (j w : ℕ) → slice_get ws j ≡ Some w → slice_get all j ≡ Some w

-- the store has these words from an address on
abbrev pub HasWords : Store → ℕ → List ℕ → Type 0
HasWords s at ws = (j w : ℕ) → slice_get ws j ≡ Some w → word_of s (at + 4 * j) ≡ Some w

-- so many words from an address on don't begin in one region and end in the other
abbrev pub IsInOne : ℕ → ℕ → Type 0
IsInOne at words = at < HEAP_START → at + 4 * words ≤ HEAP_START

-- where a store has the cells of a term, the word that was made for it stands for it
abbrev pub LaidTermStands : Type 0
LaidTermStands =
    (s : Store) (names : List (List ℕ)) (v : Tree) (at : ℕ) → IsTerm v → IsNamed names v → at % 4 ≡ 0 → IsInOne at (words_of v) → at + 4 * words_of v ≤ address_end
    → HasWords s at (laid names at v) → IsTreeOf s names (word_for names (at + 4 * words_of v) v) v

-- where the heap of a store begins with the cells of these terms, the word of each one stands for it; atoms have the
-- numbers of a table that has the names of all
abbrev pub LaidTermsStand : Type 0
LaidTermsStand =
    (table : List (List ℕ)) (terms : List Tree) (s : Store) → AllByRecursion IsTerm terms → words_of_all (trees_of terms) ≤ most_laid
    → Begins (laid_in_turn (with_atoms_of table terms) HEAP_START terms) s.heap → (k w : ℕ) (v : Tree) → slice_get terms k ≡ Some v
    → slice_get (words_in_turn (with_atoms_of table terms) HEAP_START terms) k ≡ Some w → IsTreeOf s (with_atoms_of table terms) w v
