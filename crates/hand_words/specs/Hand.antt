-- Literals and a heap of which the first words are used (docs/MACHINE.md, Words).
use Rattle.std.specs.Prelude.{ℕ, ◌+◌, ◌*◌, Bool, List, ◌++◌, length, take}
use Rattle.tagged_words.specs.declared.addresses.TheConstants.{HEAP_START}
use Rattle.tagged_words.specs.Laid.{laid}
use Rattle.tagged_words.specs.Region.{Region, has_word, with_word}
use Rattle.tagged_words.specs.Store.{Store}
use Rattle.term_tree.specs.Tree.{Tree}

-- the store of all literals and of so many words of a heap
abbrev pub used_store : Region → Region → ℕ → Store
used_store literals heap used = record { literals = literals.words; heap = take used heap.words }

-- whether a literal lies at an address, and the literals with that word changed
abbrev pub has_literal : Region → ℕ → Bool
has_literal literals at = has_word literals at

abbrev pub with_literal : Region → ℕ → ℕ → Region
with_literal literals at w = with_word literals at w

-- the store with the words of a term at the top of its heap
abbrev pub with_laid : List (List ℕ) → Store → Tree → Store
with_laid names s v = record s { heap = s.heap ++ laid names (HEAP_START + 4 * length s.heap) v }
