-- A region in which words were written one after the other. It follows docs/MACHINE.md, "Memory".
use Rattle.std.specs.Prelude.{ℕ, ◌+◌, ◌*◌, ◌%◌, List, [], ◌∷◌, Bool, ◌&&◌, nat_eq, nat_le, nat_lt}
use Rattle.tagged_words.specs.Region.{Region, with_word}

-- these words from an address upwards
abbrev pub written : Region → ℕ → List ℕ → Region
written r at [] = r
written r at (w ∷ ws) = written (with_word r at w) (at + 4) ws

-- whether one of so many words from an address upwards lies at an address
abbrev pub is_among_words : ℕ → ℕ → ℕ → Bool
is_among_words at count b = nat_eq (b % 4) 0 && (nat_le at b && nat_lt b (at + 4 * count))
