-- Sets of 64 names as words.
use Rattle.std.specs.Prelude.{◌≡◌, ℕ, ◌-◌, ◌*◌, ◌%◌, ◌^◌, ◌&&◌, if◌then◌else◌, List, [], ◌∷◌, nat_le, nat_lt, bit_or, slice_index}
use Rattle.std.specs.Int.{bit_at}

-- a word with the bit of a name, if that is one of the 64 names from `first` on
abbrev pub with_name : ℕ → ℕ → ℕ → ℕ
with_name word first name =
    if nat_le first name && nat_lt (name - first) 64 then bit_or word (1 * 2 ^ (name - first) % 2 ^ 64) else word

abbrev pub word_from : ℕ → ℕ → List ℕ → ℕ
word_from word first [] = word
word_from word first (x ∷ xs) = word_from (with_name word first x) first xs

abbrev pub HasBit : List ℕ → ℕ → ℕ → Type 0
HasBit words node k = bit_at (slice_index words node) k ≡ 1

abbrev pub LacksBit : List ℕ → ℕ → ℕ → Type 0
LacksBit words node k = bit_at (slice_index words node) k ≡ 0
