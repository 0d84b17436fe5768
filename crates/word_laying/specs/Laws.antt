-- What is read after words were written, and how many are laid (docs/MACHINE.md, "Memory" and "Words").
use Rattle.std.specs.Prelude.{ℕ, ◌≡◌, ◌≤◌, ◌+◌, ◌-◌, ◌*◌, ◌/◌, ◌%◌, if◌then◌else◌, List, length, slice_get}
use Rattle.tagged_words.specs.Laid.{laid}
use Rattle.tagged_words.specs.Region.{Region, word_at}
use Rattle.term_tree.specs.Size.{words_of}
use Rattle.term_tree.specs.Tree.{Tree}
use Rattle.word_laying.specs.Written.{written, is_among_words}

-- words that were written in a region are read there, and all other addresses read as before
abbrev pub WrittenWordsAreRead : Type 0
WrittenWordsAreRead =
    (r : Region) (at : ℕ) (ws : List ℕ) (b : ℕ) → at % 4 ≡ 0 → r.start ≤ at → at + 4 * length ws ≤ r.start + 4 * length r.words
    → word_at (written r at ws) b ≡ (if is_among_words at (length ws) b then slice_get ws ((b - at) / 4) else word_at r b)

-- the region keeps its place and its size, whatever is written
abbrev pub RegionsStay : Type 0
RegionsStay = (r : Region) (at : ℕ) (ws : List ℕ) → ((written r at ws).start ≡ r.start) × (length (written r at ws).words ≡ length r.words)

-- as many words are laid as the term takes
abbrev pub AsManyAreLaid : Type 0
AsManyAreLaid = (names : List (List ℕ)) (at : ℕ) (v : Tree) → length (laid names at v) ≡ words_of v
