-- A region of raw words: the address where it begins and the words from there upwards, four bytes
-- apart. It follows docs/MACHINE.md, "Memory".
use Rattle.std.specs.Prelude.{ℕ, ◌+◌, ◌-◌, ◌/◌, ◌%◌, Bool, if◌then◌else◌, Option, Some, None, List, length, take, drop, replicate, slice_get, slice_set, is_some, nat_eq, nat_lt, nat_le, ◌&&◌, ◌||◌}

pub record Region : Type 0 where
  pub start : ℕ
  pub words : List ℕ

-- the region from an address upwards whose words are all 0
abbrev pub zeros_from : ℕ → ℕ → Region
zeros_from start count = record { start = start; words = replicate count 0 }

-- which of a region's words lies at an address, if one does
abbrev pub place_of : Region → ℕ → Option ℕ
place_of r at =
    if nat_eq (at % 4) 0 && (nat_le r.start at && nat_lt ((at - r.start) / 4) (length r.words))
    then Some ((at - r.start) / 4) else None

-- the word at a place, if there is a place
abbrev pub word_in : List ℕ → Option ℕ → Option ℕ
word_in ws None = None
word_in ws (Some place) = slice_get ws place

-- the word at an address; none where the address is no multiple of 4 or not in the region
abbrev pub word_at : Region → ℕ → Option ℕ
word_at r at = word_in r.words (place_of r at)

-- the words with the one at a place changed, if there is a place
abbrev pub changed_in : List ℕ → Option ℕ → ℕ → List ℕ
changed_in ws None w = ws
changed_in ws (Some place) w = slice_set ws place w

-- whether a word lies at an address, and the region with that word changed
abbrev pub has_word : Region → ℕ → Bool
has_word r at = is_some (place_of r at)

abbrev pub with_word : Region → ℕ → ℕ → Region
with_word r at w = record r { words = changed_in r.words (place_of r at) w }

-- the words from an address upwards; none where the address is no multiple of 4 or one of them is
-- not in the region
abbrev pub words_at : Region → ℕ → ℕ → Option (List ℕ)
words_at r at n =
    if nat_eq (at % 4) 0 && (nat_eq n 0 || (nat_le r.start at && nat_le ((at - r.start) / 4 + n) (length r.words)))
    then Some (take n (drop ((at - r.start) / 4) r.words)) else None
