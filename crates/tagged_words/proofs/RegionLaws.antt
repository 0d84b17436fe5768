-- What reading a region gives after a write, at the start, and over a stretch.
use Rattle.std.proofs.Common.{◌≡◌, ◌≢◌, ℕ, zero, suc, ◌+◌, ◌*◌, ◌<◌, ◌≤◌, true, ◌&&◌, if◌then◌else◌, Some, None, List, [], ◌∷◌, length, take, drop, replicate, slice_get, slice_set, is_some, nat_eq, refl, ap, ◌∙◌, arith}
use Rattle.std.proofs.lemmas.List.{length-set, length-replicate, length-take, length-drop}
use Rattle.tagged_words.specs.Region.{Region, zeros_from, word_at, has_word, with_word, words_at}

-- lists: where there is an element, a place that was written, the other places, a list of one
-- value, a stretch
is_some-slice_get : (ws : List ℕ) (i : ℕ) → i < length ws → is_some (slice_get ws i) ≡ true
is_some-slice_get [] i within = absurd (omega arith)
is_some-slice_get (x ∷ ws) zero within = refl
is_some-slice_get (x ∷ ws) (suc i) within = is_some-slice_get ws i (omega arith)

slice_get-set_same : (ws : List ℕ) (i w : ℕ) → i < length ws → slice_get (slice_set ws i w) i ≡ Some w
slice_get-set_same [] i w within = absurd (omega arith)
slice_get-set_same (x ∷ ws) zero w within = refl
slice_get-set_same (x ∷ ws) (suc i) w within = slice_get-set_same ws i w (omega arith)

slice_get-set_other : (ws : List ℕ) (i w j : ℕ) → j ≢ i → slice_get (slice_set ws i w) j ≡ slice_get ws j
slice_get-set_other [] i w j other = refl
slice_get-set_other (x ∷ ws) zero w zero other = absurd (other refl)
slice_get-set_other (x ∷ ws) zero w (suc j) other = refl
slice_get-set_other (x ∷ ws) (suc i) w zero other = refl
slice_get-set_other (x ∷ ws) (suc i) w (suc j) other = slice_get-set_other ws i w j (λ e. other (ap suc e))

slice_get-replicate : (n w i : ℕ) → i < n → slice_get (replicate n w) i ≡ Some w
slice_get-replicate zero w i within = absurd (omega arith)
slice_get-replicate (suc n) w zero within = refl
slice_get-replicate (suc n) w (suc i) within = slice_get-replicate n w i (omega arith)

slice_get-take : (n : ℕ) (ws : List ℕ) (k : ℕ) → k < n → slice_get (take n ws) k ≡ slice_get ws k
slice_get-take zero ws k low = absurd (omega arith)
slice_get-take (suc n) [] k low = refl
slice_get-take (suc n) (x ∷ ws) zero low = refl
slice_get-take (suc n) (x ∷ ws) (suc k) low = slice_get-take n ws k (omega arith)

slice_get-drop : (n : ℕ) (ws : List ℕ) (k j : ℕ) → j ≡ n + k → slice_get (drop n ws) k ≡ slice_get ws j
slice_get-drop zero ws k j e = let same : k ≡ j = omega arith in ap (slice_get ws) same
slice_get-drop (suc n) [] k j e = refl
slice_get-drop (suc n) (x ∷ ws) k zero e = absurd (omega arith)
slice_get-drop (suc n) (x ∷ ws) k (suc j) e = slice_get-drop n ws k j (omega arith)

-- a word is read exactly where there is one
pub is_some-word_at : (r : Region) (a : ℕ) → is_some (word_at r a) ≡ has_word r a
is_some-word_at r a = grind (arith, is_some-slice_get)

pub start-with_word : (r : Region) (a w : ℕ) → (with_word r a w).start ≡ r.start
start-with_word r a w = refl

pub length-with_word : (r : Region) (a w : ℕ) → length (with_word r a w).words ≡ length r.words
length-with_word r a w = grind (arith, length-set)

-- a write changes nothing of where words lie, and one word
pub has_word-with_word : (r : Region) (a w b : ℕ) → has_word (with_word r a w) b ≡ has_word r b
has_word-with_word r a w b = grind (arith, length-set)

pub word_at-with_word : (r : Region) (a w b : ℕ)
    → word_at (with_word r a w) b ≡ (if has_word r a && nat_eq b a then Some w else word_at r b)
word_at-with_word r a w b = grind (arith, length-set, slice_get-set_same, slice_get-set_other)

pub word_at-zeros_from : (start count a : ℕ)
    → word_at (zeros_from start count) a ≡ (if has_word (zeros_from start count) a then Some 0 else None)
word_at-zeros_from start count a = grind (arith, length-replicate, slice_get-replicate)

-- a stretch has as many words as were asked for, and the k-th is the word 4 * k bytes above
stretch : (ws : List ℕ) (p n k : ℕ) → k < n → slice_get (take n (drop p ws)) k ≡ slice_get ws (p + k)
stretch ws p n k low = slice_get-take n (drop p ws) k low ∙ slice_get-drop p ws k (p + k) refl

stretch_length : (ws : List ℕ) (p n : ℕ) → p + n ≤ length ws → length (take n (drop p ws)) ≡ n
stretch_length ws p n within = omega (arith, length-take n (drop p ws), length-drop p ws)

pub length-words_at : (r : Region) (a n : ℕ) (ws : List ℕ) → words_at r a n ≡ Some ws → length ws ≡ n
length-words_at r a n ws e = grind (arith, stretch_length)

pub slice_get-words_at : (r : Region) (a n : ℕ) (ws : List ℕ) (k : ℕ) → words_at r a n ≡ Some ws → k < n
    → slice_get ws k ≡ word_at r (a + 4 * k)
slice_get-words_at r a n ws k e low = grind (arith, stretch)
