-- Literal words alone, with no heap beside them (docs/MACHINE.md, Words).
use Rattle.std.specs.Prelude.{ℕ, List, []}
use Rattle.tagged_words.specs.Store.{Store}

abbrev pub literal_store : List ℕ → Store
literal_store words = record { literals = words; heap = [] }
