-- The place of a cell among the words of a store: how many of them lie below it.
use Rattle.std.specs.Prelude.{ℕ, ◌+◌, ◌-◌, ◌*◌, ◌/◌, length, min}
use Rattle.tagged_words.specs.declared.addresses.TheConstants.{LITERAL_START, HEAP_START}
use Rattle.tagged_words.specs.Store.{Store}

-- how many words of a region of so many lie below an address
abbrev below : ℕ → ℕ → ℕ → ℕ
below start count at = min (at - start + 3) (4 * count) / 4

-- how many words of a store lie below an address
abbrev pub ordinal : Store → ℕ → ℕ
ordinal s at = below LITERAL_START (length s.literals) at + below HEAP_START (length s.heap) at
