-- The live slots of a frame as bits (docs/FORMAT.md): slot s is bit s mod 32 of word s / 32.
use Rattle.std.specs.Prelude.{ℕ, zero, suc, ◌+◌, ◌*◌, ◌/◌, ◌%◌, ◌^◌, ◌<◌, ◌≤◌, ◌==◌, ◌&&◌, Bool, not, List, [], ◌∷◌, length, map, slice_index, filter, nat_lt, if◌then◌else◌}
use Rattle.std.specs.List.{list_any}

-- how many words hold the bits of a frame's slots
abbrev pub mask_words : ℕ → ℕ
mask_words frame = (frame + 31) / 32

-- whether bit j of a word is set, counted from the lowest
abbrev pub bit : ℕ → ℕ → Bool
bit word j = word / 2 ^ j % 2 == 1

-- so many numbers, from a first one on
unfoldable pub numbers : ℕ → ℕ → List ℕ
numbers zero first = []
numbers (suc n) first = first ∷ numbers n (first + 1)

-- slot s is live where bit s mod 32 of word s / 32 is set
abbrev pub is_live : List ℕ → ℕ → Bool
is_live words s = bit (slice_index words (s / 32)) (s % 32)

abbrev pub live_slots : List ℕ → List ℕ
live_slots words = filter (is_live words) (numbers (32 * length words) 0)

-- a slot of a frame, but not slot 0
abbrev pub is_slot : ℕ → ℕ → Bool
is_slot frame slot = not (slot == 0) && nat_lt slot frame

-- slots that ascend, from a slot on and below an end
abbrev pub Ascends : ℕ → ℕ → List ℕ → Type 0
Ascends from end [] = Unit {0}
Ascends from end (s ∷ ss) = (from ≤ s) × (s < end) × Ascends (s + 1) end ss

-- whether a slot is among these
abbrev pub has : List ℕ → ℕ → Bool
has slots s = list_any (λ t. t == s) slots

-- the word whose bit j, of so many, is set where the test holds of first + j
unfoldable pub word_of : (ℕ → Bool) → ℕ → ℕ → ℕ
word_of test zero first = 0
word_of test (suc n) first = (if test first then 1 else 0) + 2 * word_of test n (first + 1)

-- the words of a frame whose bits stand for these slots
abbrev pub mask : ℕ → List ℕ → List ℕ
mask frame slots = map (λ k. word_of (has slots) 32 (32 * k)) (numbers (mask_words frame) 0)
