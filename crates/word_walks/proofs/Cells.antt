-- Where the words of a cell lie, and what a look at a word says of its cell.
use Rattle.std.proofs.Common.{◌≡◌, ℕ, ◌+◌, ◌*◌, ◌^◌, ◌<◌, ◌≤◌, true, List, length, is_some, arith}
use Rattle.std.proofs.lemmas.Bool.Decides.{nat_tests}
use Rattle.tagged_words.proofs.RegionLaws.{is_some-word_at}
use Rattle.tagged_words.proofs.SeenLaws.{is_there}
use Rattle.tagged_words.specs.Region.{Region, has_word, words_at}
use Rattle.tagged_words.specs.Look.{look_of}
use Rattle.tagged_words.specs.Store.{Store, word_of, is_whole, words_in, literal_region, heap_region}
use Rattle.tagged_words.specs.declared.addresses.TheConstants.{HEAP_START}
use Rattle.tagged_words.specs.declared.look.Look.TheVariants as look

-- what a region has at all places of a stretch, it has at the first one and behind it
stretch_first : (r : Region) (at n : ℕ) → 0 < n → is_some (words_at r at n) ≡ true → has_word r at ≡ true
stretch_first r at n some there = grind (arith, nat_tests)

pub first_word : (s : Store) (at n : ℕ) → 0 < n → is_whole s at n ≡ true → is_some (word_of s at) ≡ true
first_word s at n some there =
    let low = is_some-word_at (literal_region s) at in
    let high = is_some-word_at (heap_region s) at in
    grind (arith, nat_tests, stretch_first)

pub later_words : (s : Store) (at n m : ℕ) → m ≡ n + 1 → 0 < n → is_whole s at m ≡ true → is_whole s (at + 4) n ≡ true
later_words s at n m e some there = grind (arith, nat_tests)

-- a cell has no more words than its store, and ends before the end of all addresses
pub whole_few : (s : Store) (at n : ℕ) → is_whole s at n ≡ true → n ≤ words_in s
whole_few s at n there = grind (arith, nat_tests)

pub whole_end : (s : Store) (at n : ℕ) → HEAP_START + 4 * length s.heap ≤ 2 ^ 32 → 0 < n → is_whole s at n ≡ true → at + 4 * n ≤ 2 ^ 32
whole_end s at n within some there = grind (arith, nat_tests)

-- what shows a cons or a tuple has a cell below the limit
pub record IsCell (s : Store) (limit at n : ℕ) : Type 0 where
  pub low : at < limit
  pub there : is_whole s at n ≡ true

pub cons_shown : (s : Store) (names : List (List ℕ)) (limit w at : ℕ) → look_of s names limit w ≡ look.Cons at → IsCell s limit at 2
cons_shown s names limit w at e = let cell = is_there s names limit w (look.Cons at) e in record { low = cell.below; there = cell.there }

pub tuple_shown : (s : Store) (names : List (List ℕ)) (limit w at n : ℕ) → look_of s names limit w ≡ look.Tuple at n → IsCell s limit at (1 + n)
tuple_shown s names limit w at n e = let cell = is_there s names limit w (look.Tuple at n) e in record { low = cell.below; there = cell.there }

-- the elements of a tuple lie behind its header, at addresses
pub elements_end : (s : Store) (names : List (List ℕ)) (limit w at n : ℕ) → HEAP_START + 4 * length s.heap ≤ 2 ^ 32 → look_of s names limit w ≡ look.Tuple at n → 0 < n → at + 4 < 2 ^ 32
elements_end s names limit w at n within e some =
    let end : at + 4 * (1 + n) ≤ 2 ^ 32 = whole_end s at (1 + n) within (omega arith) (tuple_shown s names limit w at n e).there in
    omega arith
