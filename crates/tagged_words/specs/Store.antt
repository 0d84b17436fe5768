-- A store of literals and of the used heap, in which cells lie (docs/MACHINE.md, Words).
use Rattle.std.specs.Prelude.{ℕ, ◌+◌, ◌*◌, Bool, ◌&&◌, List, ◌∷◌, [], ◌++◌, Option, is_some, length, nat_lt, nat_le, if◌then◌else◌}
use Rattle.tagged_words.specs.declared.addresses.TheConstants.{LITERAL_START, HEAP_START}
use Rattle.tagged_words.specs.Region.{Region, word_at as region_word, words_at}

-- the literal words, and the heap words below the heap top
pub record Store : Type 0 where
  pub literals : List ℕ
  pub heap : List ℕ

abbrev pub literal_region : Store → Region
literal_region s = record { start = LITERAL_START; words = s.literals }

abbrev pub heap_region : Store → Region
heap_region s = record { start = HEAP_START; words = s.heap }

-- the word at an address
abbrev pub word_of : Store → ℕ → Option ℕ
word_of s at = if nat_lt at HEAP_START then region_word (literal_region s) at else region_word (heap_region s) at

-- whether all words of a cell, so many from an address up, are in one region
abbrev pub is_whole : Store → ℕ → ℕ → Bool
is_whole s at words =
    if nat_lt at HEAP_START then nat_le (at + 4 * words) HEAP_START && is_some (words_at (literal_region s) at words)
    else is_some (words_at (heap_region s) at words)

-- how many words there are
abbrev pub words_in : Store → ℕ
words_in s = length s.literals + length s.heap

-- the store with one more word at the top of its heap
abbrev pub with_pushed : Store → ℕ → Store
with_pushed s w = record s { heap = s.heap ++ w ∷ [] }
