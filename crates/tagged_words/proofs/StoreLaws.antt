-- What a store has, cell by cell.
use Rattle.std.proofs.Common.{◌≡◌, ℕ, zero, suc, ◌+◌, ◌*◌, ◌-◌, ◌%◌, ◌<◌, ◌≤◌, Bool, true, false, ◌&&◌, ◌||◌, if◌then◌else◌, Option, Some, None, is_some, refl, ap, subst, ◌∙◌, arith}
use Rattle.std.specs.Prelude.{nat_le, nat_lt}
use Rattle.std.proofs.lemmas.Bool.{and_parts}
use Rattle.std.proofs.lemmas.Bool.Decides.{nat_tests}
use Rattle.tagged_words.proofs.RegionLaws.{is_some-word_at}
use Rattle.tagged_words.specs.Region.{Region, word_at, has_word, words_at}
use Rattle.tagged_words.specs.declared.addresses.TheConstants.{HEAP_START}
use Rattle.tagged_words.specs.Seen.{Keeps}
use Rattle.tagged_words.specs.Store.{Store, word_of, is_whole, literal_region, heap_region}

-- a stretch is in a region where its first word and its last one are
stretch_by_ends : (r : Region) (at n last : ℕ) → r.start % 4 ≡ 0 → last ≡ at + 4 * n → is_some (words_at r at (n + 1)) ≡ (has_word r at && has_word r last)
stretch_by_ends r at n last whole e = grind (arith, nat_tests)

-- the last word of a cell, so many words above its first
abbrev pub last_of : ℕ → ℕ → ℕ
last_of at words = at + 4 * (words - 1)

pub whole_by_ends : (s : Store) (at words : ℕ) → 0 < words
    → is_whole s at words ≡ ((nat_le HEAP_START at || nat_lt (last_of at words) HEAP_START) && (is_some (word_of s at) && is_some (word_of s (last_of at words))))
whole_by_ends s at zero room = absurd (omega arith)
whole_by_ends s at (suc n) room =
    let low = stretch_by_ends (literal_region s) at n (at + 4 * n) refl refl in
    let high = stretch_by_ends (heap_region s) at n (at + 4 * n) refl refl in
    let first = is_some-word_at (literal_region s) at in
    let first_high = is_some-word_at (heap_region s) at in
    let end = is_some-word_at (literal_region s) (at + 4 * n) in
    let end_high = is_some-word_at (heap_region s) (at + 4 * n) in
    grind (arith, nat_tests)

-- a cell is there where its first word and its last one are, in one region
pub whole_where : (s : Store) (at words x y : ℕ) → 0 < words → (at < HEAP_START → at + 4 * words ≤ HEAP_START) → word_of s at ≡ Some x → word_of s (last_of at words) ≡ Some y
    → is_whole s at words ≡ true
whole_where s at words x y room in_one first last = whole_by_ends s at words room ∙ rw first (rw last (go (nat_lt at HEAP_START) refl))
  where
    go : (low : Bool) → nat_lt at HEAP_START ≡ low → (nat_le HEAP_START at || nat_lt (last_of at words) HEAP_START) && true ≡ true
    go true low = let end : at + 4 * words ≤ HEAP_START = in_one (grind (arith, nat_tests)) in grind (arith, nat_tests)
    go false high = grind (arith, nat_tests)

-- each word of a cell that is there is there
stretch_word : (r : Region) (at words k : ℕ) → r.start % 4 ≡ 0 → is_some (words_at r at words) ≡ true → k < words → is_some (word_at r (at + 4 * k)) ≡ true
stretch_word r at words k whole there low = is_some-word_at r (at + 4 * k) ∙ (grind (arith, nat_tests))

chosen : (b x y z : Bool) → b ≡ z → (if b then x else y) ≡ true → (if z then x else y) ≡ true
chosen b x y z is holds = subst (λ c. (if c then x else y) ≡ true) is holds

word_within : (s : Store) (at words k : ℕ) → is_whole s at words ≡ true → k < words → is_some (word_of s (at + 4 * k)) ≡ true
word_within s at words k there low = go (nat_lt at HEAP_START) refl
  where
    in_low : Bool
    in_low = nat_le (at + 4 * words) HEAP_START && is_some (words_at (literal_region s) at words)

    in_high : Bool
    in_high = is_some (words_at (heap_region s) at words)

    go : (b : Bool) → nat_lt at HEAP_START ≡ b → is_some (word_of s (at + 4 * k)) ≡ true
    go true is =
        let both = and_parts (nat_le (at + 4 * words) HEAP_START) (is_some (words_at (literal_region s) at words)) (chosen (nat_lt at HEAP_START) in_low in_high true is there) in
        let inside = both.0 in
        let below : nat_lt (at + 4 * k) HEAP_START ≡ true = grind (arith, nat_tests) in
        rw below (stretch_word (literal_region s) at words k refl both.1 low)
    go false is =
        let above : nat_lt (at + 4 * k) HEAP_START ≡ false = grind (arith, nat_tests) in
        rw above (stretch_word (heap_region s) at words k refl (chosen (nat_lt at HEAP_START) in_low in_high false is there) low)

some_of : {A : Type 0} (o : Option A) → is_some o ≡ true → (x : A) × (o ≡ Some x)
some_of (Some x) is = (x, refl)
some_of None is = absurd cc

pub word_inside : (s : Store) (at words k : ℕ) → is_whole s at words ≡ true → k < words → (x : ℕ) × (word_of s (at + 4 * k) ≡ Some x)
word_inside s at words k there low = some_of (word_of s (at + 4 * k)) (word_within s at words k there low)

-- a cell that begins among the literals ends there
pub whole_in_one : (s : Store) (at words : ℕ) → is_whole s at words ≡ true → at < HEAP_START → at + 4 * words ≤ HEAP_START
whole_in_one s at words there low =
    let below : nat_lt at HEAP_START ≡ true = grind (arith, nat_tests) in
    let both = and_parts (nat_le (at + 4 * words) HEAP_START) (is_some (words_at (literal_region s) at words))
    (chosen (nat_lt at HEAP_START) (nat_le (at + 4 * words) HEAP_START && is_some (words_at (literal_region s) at words)) (is_some (words_at (heap_region s) at words)) true below there) in
    let inside = both.0 in
    grind (arith, nat_tests)

-- a cell stays where the words of a store stay
pub whole_kept : (s later : Store) → Keeps s later → (at words : ℕ) → 0 < words → is_whole s at words ≡ true → is_whole later at words ≡ true
whole_kept s later keeps at words room there =
    let first = word_inside s at words 0 there room in
    let last = word_inside s at words (words - 1) there (omega arith) in
    let place : at ≡ at + 4 * 0 = omega arith in
    whole_where later at words first.0 last.0 room (whole_in_one s at words there) (keeps at first.0 (ap (word_of s) place ∙ first.1)) (keeps (last_of at words) last.0 last.1)
