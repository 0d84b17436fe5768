-- The memory of the machine: ranges of addresses (docs/MACHINE.md, Memory).
use Rattle.std.specs.Prelude.{ℕ, Bool, false, Option, List, nat_lt, if◌then◌else◌}
use Rattle.tagged_words.specs.Region.{Region, word_at, has_word, with_word}
use Rattle.tagged_words.specs.declared.addresses.TheConstants.{LITERAL_START, HEAP_START}
use Rattle.mode_switch.specs.declared.addresses.TheConstants.{X_START, STACK_FLOOR}
use Rattle.mode_switch.specs.State.{Memory}

-- the literal words in their place
abbrev pub literals_at : List ℕ → Region
literals_at literals = record { start = LITERAL_START; words = literals }

-- what a load finds at an address
abbrev pub load_of : List ℕ → Memory → ℕ → Option ℕ
load_of literals m at =
    if nat_lt at HEAP_START then word_at (literals_at literals) at
    else if nat_lt at X_START then word_at m.heap at
    else if nat_lt at STACK_FLOOR then word_at m.xs at
    else word_at m.stack at

-- whether a store reaches an address
abbrev pub stores_of : Memory → ℕ → Bool
stores_of m at =
    if nat_lt at HEAP_START then false
    else if nat_lt at X_START then has_word m.heap at
    else if nat_lt at STACK_FLOOR then has_word m.xs at
    else has_word m.stack at

-- the memory with a word stored
abbrev pub stored : Memory → ℕ → ℕ → Memory
stored m at w =
    if nat_lt at HEAP_START then m
    else if nat_lt at X_START then record m { heap = with_word m.heap at w }
    else if nat_lt at STACK_FLOOR then record m { xs = with_word m.xs at w }
    else record m { stack = with_word m.stack at w }
