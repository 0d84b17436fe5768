-- What a region has after words were written in it.
use Rattle.std.proofs.Common.{◌≡◌, ℕ, suc, ◌+◌, ◌-◌, ◌*◌, ◌/◌, ◌%◌, ◌≤◌, ◌++◌, true, false, Bool, if◌then◌else◌, Option, Some, List, [], ◌∷◌, length, slice_get, nat_eq, refl, ap, ◌∙◌, arith}
use Rattle.std.proofs.lemmas.Bool.Decides.{nat_tests}
use Rattle.tagged_words.specs.Region.{Region, word_at, has_word, with_word}
use Rattle.tagged_words.proofs.RegionLaws.{length-with_word, word_at-with_word}
use Rattle.laid_terms.proofs.Standing.{length-laid}
use Rattle.word_laying.specs.Laying.{IsPlace, region_end}
use Rattle.word_laying.specs.Laws.{AsManyAreLaid, RegionsStay, WrittenWordsAreRead}
use Rattle.word_laying.specs.Written.{written, is_among_words}

pub written-append : (r : Region) (at : ℕ) (us vs : List ℕ) → written r at (us ++ vs) ≡ written (written r at us) (at + 4 * length us) vs
written-append r at [] vs = let same : at ≡ at + 4 * 0 = omega arith in ap (λ a. written r a vs) same
written-append r at (u ∷ us) vs =
    let same : at + 4 + 4 * length us ≡ at + 4 * suc (length us) = omega arith in
    written-append (with_word r at u) (at + 4) us vs ∙ ap (λ a. written (written (with_word r at u) (at + 4) us) a vs) same

start-written : (r : Region) (at : ℕ) (ws : List ℕ) → (written r at ws).start ≡ r.start
start-written r at [] = refl
start-written r at (w ∷ ws) = start-written (with_word r at w) (at + 4) ws

length-written : (r : Region) (at : ℕ) (ws : List ℕ) → length (written r at ws).words ≡ length r.words
length-written r at [] = refl
length-written r at (w ∷ ws) = length-written (with_word r at w) (at + 4) ws ∙ length-with_word r at w

pub regions_stay : RegionsStay
regions_stay r at ws = (start-written r at ws, length-written r at ws)

-- behind words that were written there is a place again
pub place_behind : (r : Region) (at : ℕ) (ws : List ℕ) → IsPlace r at → at + 4 * length ws ≤ region_end r → IsPlace (written r at ws) (at + 4 * length ws)
place_behind r at ws place room =
    let same = start-written r at ws in
    let long = length-written r at ws in
    record {
      whole = omega (arith, place.whole);
      above = omega (arith, place.above);
      below = omega arith;
    }

has_place : (r : Region) (at : ℕ) → at % 4 ≡ 0 → r.start ≤ at → at + 4 ≤ r.start + 4 * length r.words → has_word r at ≡ true
has_place r at whole above below = grind (arith, nat_tests)

-- where a word lies among so many and one more: behind the first, or the first one
behind_in : (at n b : ℕ) → is_among_words (at + 4) n b ≡ true → is_among_words at (suc n) b ≡ true
behind_in at n b e = grind (arith, nat_tests)

behind_at : (at n b : ℕ) → is_among_words (at + 4) n b ≡ true → (b - at) / 4 ≡ suc ((b - (at + 4)) / 4)
behind_at at n b e = grind (arith, nat_tests)

first_in : (at n b : ℕ) → at % 4 ≡ 0 → b ≡ at → is_among_words at (suc n) b ≡ true
first_in at n b whole e = grind (arith, nat_tests)

in_none : (at n b : ℕ) → at % 4 ≡ 0 → is_among_words (at + 4) n b ≡ false → nat_eq b at ≡ false → is_among_words at (suc n) b ≡ false
in_none at n b whole e f = grind (arith, nat_tests)

same_number : (b at : ℕ) → nat_eq b at ≡ true → b ≡ at
same_number b at e = grind (arith, nat_tests)

joined : (r : Region) (at b w : ℕ) (ws : List ℕ) (x : Option ℕ) (p q : Bool) → at % 4 ≡ 0 → is_among_words (at + 4) (length ws) b ≡ p → nat_eq b at ≡ q
    → x ≡ (if p then slice_get ws ((b - (at + 4)) / 4) else if q then Some w else word_at r b)
    → x ≡ (if is_among_words at (suc (length ws)) b then slice_get (w ∷ ws) ((b - at) / 4) else word_at r b)
joined r at b w ws x true q whole e f is = rw (behind_in at (length ws) b e, behind_at at (length ws) b e) is
joined r at b w ws x false true whole e f is =
    let same : b ≡ at = same_number b at f in
    let place : (b - at) / 4 ≡ 0 = omega arith in
    rw (first_in at (length ws) b whole same, place) is
joined r at b w ws x false false whole e f is = rw (in_none at (length ws) b whole e f) is

pub read : WrittenWordsAreRead
read r at [] b whole above room = let none : is_among_words at 0 b ≡ false = grind (arith, nat_tests) in rw none refl
read r at (w ∷ ws) b whole above room =
    let rest = read (with_word r at w) (at + 4) ws b (omega arith) (omega arith) (omega (arith, length-with_word r at w)) in
    let here = rw (has_place r at whole above (omega arith)) at (word_at-with_word r at w b) in
    joined r at b w ws (word_at (written r at (w ∷ ws)) b) (is_among_words (at + 4) (length ws) b) (nat_eq b at) whole refl refl
    (rest ∙ ap (λ y. if is_among_words (at + 4) (length ws) b then slice_get ws ((b - (at + 4)) / 4) else y) here)

pub as_many : AsManyAreLaid
as_many names at v = length-laid names v at
