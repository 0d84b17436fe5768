-- Words that a walk reads: of so many cells from a word on, each at the tail of the one before, and of a tuple from its end.
use Rattle.std.specs.Prelude.{ℕ, zero, suc, ◌≡◌, ◌+◌, ◌-◌, ◌*◌, ◌<◌, true, is_some, nat_eq, if◌then◌else◌, List, [], ◌∷◌, slice_get}
use Rattle.tagged_words.specs.Store.{Store, word_of}
use Rattle.prim_gates.specs.Reply.{read, word_or_none}

-- the words of their heads
abbrev pub heads_by : Store → ℕ → ℕ → List ℕ
heads_by s w zero = []
heads_by s w (suc n) = read s (w - 1) ∷ heads_by s (read s (w + 3)) n

-- their words are there
abbrev pub IsChain : Store → ℕ → ℕ → Type 0
IsChain s w zero = Unit {0}
IsChain s w (suc n) = (0 < w) × (is_some (word_of s (w - 1)) ≡ true) × (is_some (word_of s (w + 3)) ≡ true) × IsChain s (read s (w + 3)) n

-- the elements of a tuple at an address, from the last one down
abbrev pub reads_down : Store → ℕ → ℕ → List ℕ
reads_down s at zero = []
reads_down s at (suc n) = read s (at + 4 * suc n) ∷ reads_down s at n

-- so many elements of a tuple at an address, from a place on, with another one at an index
abbrev pub with_place : Store → ℕ → ℕ → ℕ → ℕ → ℕ → List ℕ
with_place s at k zero index new = []
with_place s at k (suc n) index new = (if nat_eq k index then new else read s (at + 4 * k)) ∷ with_place s at (k + 1) n index new

-- so many words of a list, from the last one down
abbrev pub kept_down : List ℕ → ℕ → List ℕ
kept_down ws zero = []
kept_down ws (suc n) = word_or_none (slice_get ws n) ∷ kept_down ws n
