-- What a word shows where it is looked at: itself, and of a cell that it is there, but nothing inside (docs/MACHINE.md,
-- Words).
use Rattle.std.specs.Prelude.{ℕ, ◌+◌, ◌/◌, ◌%◌, ◌&&◌, List, length, Option, Some, None, nat_eq, nat_lt, if◌then◌else◌}
use Rattle.tagged_words.specs.declared.kind.Class.{Class}
use Rattle.tagged_words.specs.declared.kind.Class.TheVariants as class
use Rattle.tagged_words.specs.declared.look.Look.{Look}
use Rattle.tagged_words.specs.declared.look.Look.TheVariants.{Small, Atom, Nil, Cons, Tuple, Bad}
use Rattle.tagged_words.specs.Store.{Store, word_of, is_whole}
use Rattle.tagged_words.specs.Word.{class_of}

-- no cell begins at this address or above: it is the greatest one, and no multiple of 4
abbrev pub address_end : ℕ
address_end = 4294967295

-- an atom is in the table
abbrev pub look_atom : List (List ℕ) → ℕ → Look
look_atom names n = if nat_lt n (length names) then Atom n else Bad

-- a cell begins below the limit, and all its words are in one region
abbrev pub look_cons : Store → ℕ → ℕ → Look
look_cons s limit at = if nat_lt at limit && is_whole s at 2 then Cons at else Bad

-- a tuple begins with a header, whose low six bits are 0 and whose others are the number of elements
abbrev pub look_tuple : Store → ℕ → ℕ → Option ℕ → Look
look_tuple s limit at None = Bad
look_tuple s limit at (Some header) =
    if nat_lt at limit && (nat_eq (header % 64) 0 && is_whole s at (1 + header / 64)) then Tuple at (header / 64) else Bad

abbrev pub look_in : Store → List (List ℕ) → ℕ → Class → Look
look_in s names limit (class.Small i) = Small i
look_in s names limit (class.Atom n) = look_atom names n
look_in s names limit class.Nil = Nil
look_in s names limit (class.Cons at) = look_cons s limit at
look_in s names limit (class.Boxed at) = look_tuple s limit at (word_of s at)
look_in s names limit class.Other = Bad

-- names are the atoms by number; a pointer leads below the limit
abbrev pub look_of : Store → List (List ℕ) → ℕ → ℕ → Look
look_of s names limit w = look_in s names limit (class_of w)
