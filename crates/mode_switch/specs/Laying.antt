-- Regions whose words are 0 but for some of them (docs/MACHINE.md, Runs).
use Rattle.std.specs.Prelude.{ℕ, ◌-◌, ◌++◌, List, length, replicate}
use Rattle.tagged_words.specs.Region.{Region}

-- as many words from an address upwards; these stand behind so many that are 0
abbrev pub region_with : ℕ → ℕ → ℕ → List ℕ → Region
region_with start count before words = record { start = start; words = replicate before 0 ++ words ++ replicate (count - before - length words) 0 }
