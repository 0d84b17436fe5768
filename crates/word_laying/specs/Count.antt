-- How many words rows of terms take, and counts that stop at the greatest one (docs/MACHINE.md, Words).
use Rattle.std.specs.Prelude.{ℕ, ◌+◌, ◌-◌, ◌^◌, List, [], ◌∷◌, min}
use Rattle.term_tree.specs.Size.{words_of}
use Rattle.term_tree.specs.Tree.{Tree}

-- a count, or the greatest of 64 bits where it is greater
abbrev pub saturated : ℕ → ℕ
saturated n = min n (2 ^ 64 - 1)

-- the words of the cells of a row of terms, and so many more for each of them
abbrev pub row_words : ℕ → List Tree → ℕ
row_words each [] = 0
row_words each (v ∷ vs) = each + words_of v + row_words each vs
