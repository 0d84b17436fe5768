-- The used part of a region: what is read below its top, and what is written there.
use Rattle.std.proofs.Common.{◌≡◌, ℕ, zero, suc, ◌+◌, ◌*◌, ◌%◌, ◌<◌, ◌≤◌, ◌++◌, if◌then◌else◌, Some, None, List, [], ◌∷◌, length, take, slice_get, slice_set, nat_lt, refl, ap, sym, ◌∙◌, arith}
use Rattle.std.proofs.lemmas.Bool.Decides.{nat_tests}
use Rattle.std.proofs.lemmas.List.{length-take}
use Rattle.tagged_words.specs.Region.{Region, place_of, word_at, has_word, with_word}
use Rattle.tagged_words.specs.declared.addresses.TheConstants.{HEAP_START}
use Rattle.tagged_words.specs.Laid.{laid}
use Rattle.tagged_words.proofs.RegionLaws.{length-with_word}
use Rattle.term_tree.specs.Size.{words_of}
use Rattle.term_tree.specs.Tree.{Tree}
use Rattle.laid_terms.proofs.Standing.{length-laid}
use Rattle.word_laying.specs.Written.{written}

-- the part of a region that has its first words
abbrev pub part_of : Region → ℕ → Region
part_of r used = record { start = r.start; words = take used r.words }

get_below : (ws : List ℕ) (used i : ℕ) → i < used → slice_get (take used ws) i ≡ slice_get ws i
get_below [] zero i low = refl
get_below [] (suc used) i low = refl
get_below (x ∷ ws) zero i low = absurd (omega arith)
get_below (x ∷ ws) (suc used) zero low = refl
get_below (x ∷ ws) (suc used) (suc i) low = get_below ws used i (omega arith)

-- below the top of the part a word is that of the region, and no word lies above
pub word_in_part : (r : Region) (used at : ℕ) → used ≤ length r.words
    → word_at (part_of r used) at ≡ (if nat_lt at (r.start + 4 * used) then word_at r at else None)
word_in_part r used at within = grind (arith, nat_tests, length-take, get_below)

take_set_end : (ws : List ℕ) (used w : ℕ) → used < length ws → take (suc used) (slice_set ws used w) ≡ take used ws ++ w ∷ []
take_set_end [] used w within = absurd (omega arith)
take_set_end (x ∷ ws) zero w within = refl
take_set_end (x ∷ ws) (suc used) w within = ap (λ l. x ∷ l) (take_set_end ws used w (omega arith))

-- there is a word at the top exactly where the part is not the whole region
pub has_top : (r : Region) (used : ℕ) → r.start % 4 ≡ 0 → has_word r (r.start + 4 * used) ≡ nat_lt used (length r.words)
has_top r used whole = grind (arith, nat_tests)

-- a word that is written at the top is the last one of a part that is one word longer
pub pushed : (r : Region) (used w : ℕ) → r.start % 4 ≡ 0 → used < length r.words
    → take (suc used) (with_word r (r.start + 4 * used) w).words ≡ take used r.words ++ w ∷ []
pushed r used w whole within =
    let place : place_of r (r.start + 4 * used) ≡ Some used = grind (arith, nat_tests) in
    rw place (take_set_end r.words used w within)

append_assoc : (xs : List ℕ) (w : ℕ) (ws : List ℕ) → (xs ++ w ∷ []) ++ ws ≡ xs ++ w ∷ ws
append_assoc [] w ws = refl
append_assoc (x ∷ xs) w ws = ap (λ l. x ∷ l) (append_assoc xs w ws)

append_none : (xs : List ℕ) → xs ++ [] ≡ xs
append_none [] = refl
append_none (x ∷ xs) = ap (λ l. x ∷ l) (append_none xs)

-- so are words that are written there one after the other
pub pushed_all : (r : Region) (used : ℕ) (ws : List ℕ) → r.start % 4 ≡ 0 → used + length ws ≤ length r.words
    → take (used + length ws) (written r (r.start + 4 * used) ws).words ≡ take used r.words ++ ws
pushed_all r used [] whole within =
    let none : used + 0 ≡ used = omega arith in
    ap (λ n. take n r.words) none ∙ sym (append_none (take used r.words))
pushed_all r used (w ∷ ws) whole within =
    let more : Region = with_word r (r.start + 4 * used) w in
    let count : used + suc (length ws) ≡ suc used + length ws = omega arith in
    let next : r.start + 4 * used + 4 ≡ r.start + 4 * suc used = omega arith in
    let rest = pushed_all more (suc used) ws whole (omega (arith, length-with_word r (r.start + 4 * used) w)) in
    ap (λ n. take n (written more (r.start + 4 * used + 4) ws).words) count
    ∙ ap (λ a. take (suc used + length ws) (written more a ws).words) next
    ∙ rest ∙ ap (λ l. l ++ ws) (pushed r used w whole (omega arith)) ∙ append_assoc (take used r.words) w ws

-- and the words of a term that is laid there
pub laid_at_top : (names : List (List ℕ)) (r : Region) (used : ℕ) (v : Tree) → r.start ≡ HEAP_START → used + words_of v ≤ length r.words
    → take (used + words_of v) (written r (HEAP_START + 4 * used) (laid names (HEAP_START + 4 * used) v)).words
    ≡ take used r.words ++ laid names (HEAP_START + 4 * length (take used r.words)) v
laid_at_top names r used v start within =
    let at : ℕ = HEAP_START + 4 * used in
    let same : r.start + 4 * used ≡ at = omega arith in
    let count = length-laid names v at in
    let few : length (take used r.words) ≡ used = omega (arith, length-take used r.words) in
    let all = pushed_all r used (laid names at v) (omega arith) (omega arith) in
    ap (λ n. take (used + n) (written r at (laid names at v)).words) (sym count)
    ∙ ap (λ a. take (used + length (laid names at v)) (written r a (laid names at v)).words) (sym same)
    ∙ all ∙ ap (λ n. take used r.words ++ laid names (HEAP_START + 4 * n) v) (sym few)
