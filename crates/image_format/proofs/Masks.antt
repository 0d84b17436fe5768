-- The words of a mask and the slots that they stand for.
use Rattle.std.proofs.Common.{◌≡◌, ℕ, zero, suc, ◌+◌, ◌-◌, ◌*◌, ◌/◌, ◌%◌, ◌^◌, ◌<◌, ◌≤◌, Bool, true, false, cond, ltb, List, [], ◌∷◌, ◌++◌, length, map, refl, sym, ap, subst, ◌∙◌, arith, inl, inr}
use Rattle.std.specs.Prelude.{◌&&◌, ◌||◌, not, ◌==◌, slice_index, filter, if◌then◌else◌}
use Rattle.std.specs.List.{list_all, flat_map}
use Rattle.image_format.specs.Spelling.{word}
use Rattle.std.proofs.lemmas.Bool.{cases_eq, lt-ltb, eq-eqb, ne_eqb, eqb-false, ltb-true}
use Rattle.std.proofs.lemmas.List.{length-map, map-append}
use Rattle.std.proofs.lemmas.List.Elements.{filter-append}
use Rattle.std.proofs.lemmas.List.Concat.{flat_map-append}
use Rattle.std.proofs.Math.Pow.{pow_mono}
use Rattle.std.proofs.Math.Nat.{two-pow-succ, pow-succ', div-div-eq-div-mul, div-one}
use Rattle.image_format.specs.declared.refusal.Flaw.TheVariants.{Value}
use Rattle.tagged_words.specs.Follow.{Follow}
use Rattle.image_format.specs.Mask.{mask_words, Ascends, bit, numbers, is_live, live_slots, is_slot, has, word_of, mask}
use Rattle.image_format.specs.Reading.{after_mask}
use Rattle.image_format.specs.Rules.{mask_word}
use Rattle.image_format.proofs.Steps.{both_true, not_false, passed}
use Rattle.image_format.proofs.Fields.{Ruled}

-- ---- numbers from a first one on

pub numbers-append : (m n first : ℕ) → numbers (m + n) first ≡ numbers m first ++ numbers n (first + m)
unfolding numbers
numbers-append zero n first =
    let e : zero + n ≡ n = omega arith in
    let f : first + zero ≡ first = omega arith in
    rw (e, f) refl
numbers-append (suc m) n first =
    let e : suc m + n ≡ suc (m + n) = omega arith in
    let f : first + suc m ≡ first + 1 + m = omega arith in
    rw (e, f) (ap (λ (l : List ℕ). first ∷ l) (numbers-append m n (first + 1)))

length_numbers : (n first : ℕ) → length (numbers n first) ≡ n
unfolding numbers
length_numbers zero first = refl
length_numbers (suc n) first = ap suc (length_numbers n (first + 1))

filter_same : (f g : ℕ → Bool) (n first : ℕ) → ((s : ℕ) → first ≤ s → s < first + n → f s ≡ g s) → filter f (numbers n first) ≡ filter g (numbers n first)
unfolding numbers
filter_same f g zero first h = refl
filter_same f g (suc n) first h =
    let here = h first (omega arith) (omega arith) in
    let rest = filter_same f g n (first + 1) (λ s le lt. h s (omega (arith, le)) (omega (arith, lt))) in
    rw (here, rest) refl

all_numbers : (f : ℕ → Bool) (n first : ℕ) → ((s : ℕ) → first ≤ s → s < first + n → f s ≡ true) → list_all f (numbers n first) ≡ true
unfolding numbers
all_numbers f zero first h = refl
all_numbers f (suc n) first h = rw (h first (omega arith) (omega arith), all_numbers f n (first + 1) (λ s le lt. h s (omega (arith, le)) (omega (arith, lt)))) refl

each_number : (f : ℕ → Bool) (n first s : ℕ) → first ≤ s → s < first + n → list_all f (numbers n first) ≡ true → f s ≡ true
unfolding numbers
each_number f zero first s le lt h = absurd (omega (arith, le, lt))
each_number f (suc n) first s le lt h =
    let t = both_true (f first) (list_all f (numbers n (first + 1))) h in
    elim (cases_eq s first) [
      | inl e ↦ rw e t.0
      | inr ne ↦ each_number f n (first + 1) s (omega (arith, le)) (omega (arith, lt)) t.1
    ]

map_at : (g : ℕ → ℕ) (n first i : ℕ) → i < n → slice_index (map g (numbers n first)) i ≡ g (first + i)
unfolding numbers
map_at g zero first i lt = absurd (omega (arith, lt))
map_at g (suc n) first zero lt = let e : first + zero ≡ first = omega arith in rw e refl
map_at g (suc n) first (suc i) lt = let e : first + suc i ≡ first + 1 + i = omega arith in rw e (map_at g n (first + 1) i (omega (arith, lt)))

map_is : (g : ℕ → ℕ) (ws : List ℕ) (first : ℕ) → ((i : ℕ) → i < length ws → g (first + i) ≡ slice_index ws i) → map g (numbers (length ws) first) ≡ ws
unfolding numbers
map_is g [] first h = refl
map_is g (w ∷ ws) first h =
    let e : first ≡ first + 0 = omega arith in
    let here : g first ≡ w = ap g e ∙ h 0 (omega arith) in
    let next = λ (i : ℕ). (let f : first + 1 + i ≡ first + suc i = omega arith in f) in
    rw (here, map_is g ws (first + 1) (λ i lt. ap g (next i) ∙ h (suc i) (omega (arith, lt)))) refl

-- ---- bits and the word that has them

bit_first : (w : ℕ) → bit w 0 ≡ (w % 2 == 1)
bit_first w = ap (λ (v : ℕ). v % 2 == 1) (div-one w)

bit_next : (w j : ℕ) → bit w (suc j) ≡ bit (w / 2) j
bit_next w j = ap (λ (v : ℕ). v % 2 == 1) (ap (λ (d : ℕ). w / d) (pow-succ' 2 j) ∙ sym (div-div-eq-div-mul w 2 (2 ^ j)))

low_bit : (b : Bool) (x : ℕ) → (((if b then 1 else 0) + 2 * x) % 2 == 1) ≡ b
low_bit true x = eq-eqb _ 1 (omega arith)
low_bit false x = ne_eqb _ 1 (λ e. absurd (omega arith))

high_bits : (b : Bool) (x : ℕ) → ((if b then 1 else 0) + 2 * x) / 2 ≡ x
high_bits true x = omega arith
high_bits false x = omega arith

whole_word : (w : ℕ) → (if w % 2 == 1 then 1 else 0) + 2 * (w / 2) ≡ w
whole_word w = elim (cases_eq (w % 2) 1) [ inl e ↦ rw (eq-eqb (w % 2) 1 e) (omega arith) | inr ne ↦ rw (ne_eqb (w % 2) 1 ne) (omega arith) ]

pub one_bit : (b : Bool) → (if b then 1 else 0) ≤ 1
one_bit true = omega arith
one_bit false = omega arith

word_bit : (test : ℕ → Bool) (n first j : ℕ) → j < n → bit (word_of test n first) j ≡ test (first + j)
unfolding word_of
word_bit test zero first j lt = absurd (omega (arith, lt))
word_bit test (suc n) first zero lt =
    let e : first + zero ≡ first = omega arith in
    rw e (bit_first ((if test first then 1 else 0) + 2 * word_of test n (first + 1)) ∙ low_bit (test first) (word_of test n (first + 1)))
word_bit test (suc n) first (suc j) lt =
    let e : first + suc j ≡ first + 1 + j = omega arith in
    rw e (bit_next ((if test first then 1 else 0) + 2 * word_of test n (first + 1)) j ∙ ap (λ w. bit w j) (high_bits (test first) (word_of test n (first + 1))) ∙ word_bit test n (first + 1) j (omega (arith, lt)))

word_again : (test : ℕ → Bool) (n first w : ℕ) → w < 2 ^ n → ((j : ℕ) → j < n → test (first + j) ≡ bit w j) → word_of test n first ≡ w
unfolding word_of
word_again test zero first w lt h = omega (arith, lt)
word_again test (suc n) first w lt h =
    let e : first ≡ first + 0 = omega arith in
    let low : test first ≡ (w % 2 == 1) = ap test e ∙ h 0 (omega arith) ∙ bit_first w in
    let next = λ (j : ℕ). (let f : first + 1 + j ≡ first + suc j = omega arith in f) in
    let rest = word_again test n (first + 1) (w / 2) (omega (arith, lt, two-pow-succ n)) (λ j less. ap test (next j) ∙ h (suc j) (omega (arith, less)) ∙ bit_next w j) in
    rw (low, rest) (whole_word w)

pub word_small : (test : ℕ → Bool) (n first : ℕ) → word_of test n first < 2 ^ n
unfolding word_of
word_small test zero first = omega arith
word_small test (suc n) first = omega (arith, one_bit (test first), word_small test n (first + 1), two-pow-succ n)

-- ---- slots that ascend

pub Ascends-weaker : (from least end most : ℕ) (ss : List ℕ) → least ≤ from → end ≤ most → Ascends from end ss → Ascends least most ss
Ascends-weaker from least end most [] a b h = tt
Ascends-weaker from least end most (s ∷ ss) a b h = (omega arith, omega arith, Ascends-weaker (s + 1) (s + 1) end most ss (omega arith) b h.2)

has_not : (from end : ℕ) (ss : List ℕ) (t : ℕ) → Ascends from end ss → t < from → has ss t ≡ false
has_not from end [] t h lt = refl
has_not from end (s ∷ ss) t h lt = rw (ne_eqb s t (λ e. absurd (omega (arith, h.0, e, lt))), has_not (s + 1) end ss t h.2 (omega (arith, h.0, lt))) refl

-- they are those among the numbers that they have
slots_are : (n from : ℕ) (ss : List ℕ) → Ascends from (from + n) ss → filter (has ss) (numbers n from) ≡ ss
unfolding numbers
slots_are zero from [] h = refl
slots_are zero from (s ∷ ss) h = absurd (omega (arith, h.0, h.1))
slots_are (suc n) from [] h = slots_are n (from + 1) [] tt
slots_are (suc n) from (s ∷ ss) h =
    elim (cases_eq s from) [
      | inl e ↦
          let here : has (s ∷ ss) from ≡ true = rw (eq-eqb s from e) refl in
          let others = filter_same (has (s ∷ ss)) (has ss) n (from + 1) (λ t le lt. rw (ne_eqb s t (λ f. absurd (omega (arith, e, f, le)))) refl) in
          let rest = slots_are n (from + 1) ss (Ascends-weaker (s + 1) (from + 1) (from + suc n) (from + 1 + n) ss (omega arith) (omega arith) h.2) in
          rw here (ap (λ (l : List ℕ). from ∷ l) (others ∙ rest) ∙ ap (λ (x : ℕ). x ∷ ss) (sym e))
      | inr ne ↦
          let all : Ascends (from + 1) (from + 1 + n) (s ∷ ss) = (omega (arith, h.0), omega (arith, h.1), Ascends-weaker (s + 1) (s + 1) (from + suc n) (from + 1 + n) ss (omega arith) (omega arith) h.2) in
          rw (has_not (from + 1) (from + 1 + n) (s ∷ ss) from all (omega arith)) (slots_are n (from + 1) (s ∷ ss) all)
    ]

-- what a test finds among numbers ascends
found_ascend : (f : ℕ → Bool) (n from least end : ℕ) → ((s : ℕ) → from ≤ s → s < from + n → f s ≡ true → (least ≤ s) × (s < end)) → Ascends least end (filter f (numbers n from))
unfolding numbers
found_ascend f zero from least end h = tt
found_ascend f (suc n) from least end h =
    pick (f from) refl (λ e. (let t = h from (omega arith) (omega arith) e in (t.0, t.1, found_ascend f n (from + 1) (from + 1) end (λ s le lt t. (le, (h s (omega (arith, le)) (omega (arith, lt)) t).1)))))
    (found_ascend f n (from + 1) least end (λ s le lt t. h s (omega (arith, le)) (omega (arith, lt)) t))
  where
    pick : (b : Bool) → f from ≡ b → (f from ≡ true → (least ≤ from) × (from < end) × Ascends (from + 1) end (filter f (numbers n (from + 1)))) → Ascends least end (filter f (numbers n (from + 1))) → Ascends least end (cond b (from ∷ filter f (numbers n (from + 1))) (filter f (numbers n (from + 1))))
    pick true e x y = x e
    pick false e x y = y

-- and has what passes
found_has : (f : ℕ → Bool) (n from t : ℕ) → from ≤ t → t < from + n → has (filter f (numbers n from)) t ≡ f t
unfolding numbers
found_has f zero from t le lt = absurd (omega (arith, le, lt))
found_has f (suc n) from t le lt =
    elim (cases_eq from t) [
      | inl same ↦ here (f from) refl same (has_not (from + 1) (from + 1 + n) (filter f (numbers n (from + 1))) t (found_ascend f n (from + 1) (from + 1) (from + 1 + n) (λ s a b c. (a, b))) (omega arith))
      | inr ne ↦ there (f from) (ne_eqb from t ne) (found_has f n (from + 1) t (omega arith) (omega (arith, lt)))
    ]
  where
    here : (b : Bool) → f from ≡ b → from ≡ t → has (filter f (numbers n (from + 1))) t ≡ false → has (cond b (from ∷ filter f (numbers n (from + 1))) (filter f (numbers n (from + 1)))) t ≡ f t
    here true e same none = rw (eq-eqb from t same) (sym e ∙ ap f same)
    here false e same none = none ∙ sym e ∙ ap f same

    there : (b : Bool) → (from == t) ≡ false → has (filter f (numbers n (from + 1))) t ≡ f t → has (cond b (from ∷ filter f (numbers n (from + 1))) (filter f (numbers n (from + 1)))) t ≡ f t
    there true ne h = rw ne h
    there false ne h = h

-- ---- words that keep their rule

abbrev pub MaskFits : ℕ → ℕ → ℕ → Type 0
MaskFits frame k w = Ruled (mask_word frame k) w

fits_at : (frame k : ℕ) (ws : List ℕ) (i : ℕ) → Follow (MaskFits frame) after_mask k ws → i < length ws → MaskFits frame (k + i) (slice_index ws i)
fits_at frame k [] i h lt = absurd (omega arith)
fits_at frame k (w ∷ ws) zero h lt = let e : k + zero ≡ k = omega arith in rw e h.0
fits_at frame k (w ∷ ws) (suc i) h lt = let e : k + suc i ≡ k + 1 + i = omega arith in rw e (fits_at frame (k + 1) ws i h.1 (omega arith))

or_set : (a b : Bool) → not a || b ≡ true → a ≡ true → b ≡ true
or_set true b h e = h
or_set false b h e = absurd cc

set_or : (a b : Bool) → (a ≡ true → b ≡ true) → not a || b ≡ true
set_or true b h = h refl
set_or false b h = refl

slot_is : (frame s : ℕ) → is_slot frame s ≡ true → (1 ≤ s) × (s < frame)
slot_is frame s h =
    let t = both_true (not (s == 0)) (ltb s frame) h in
    let ne = eqb-false s 0 (not_false (s == 0) t.0) in
    (omega arith, ltb-true s frame t.1)

is_slot_of : (from frame : ℕ) (ss : List ℕ) (t : ℕ) → 1 ≤ from → Ascends from frame ss → has ss t ≡ true → is_slot frame t ≡ true
is_slot_of from frame [] t le h e = absurd cc
is_slot_of from frame (s ∷ ss) t le h e = elim (cases_eq s t) [
  | inl same ↦ rw (ne_eqb t 0 (λ z. absurd (omega (arith, h.0, le, z, same))), lt-ltb t frame (omega (arith, h.1, same))) refl
  | inr ne ↦ is_slot_of (s + 1) frame ss t (omega arith) h.2 (sym (rw (ne_eqb s t ne) refl) ∙ e)
]

place_of : (i j : ℕ) → j < 32 → ((32 * i + j) / 32 ≡ i) × ((32 * i + j) % 32 ≡ j)
place_of i j lt = (omega (arith, lt), omega (arith, lt))

-- the words are those of their slots, and the slots are slots of the frame
pub words_again : (frame : ℕ) (ws : List ℕ) → length ws ≡ mask_words frame → Follow (MaskFits frame) after_mask 0 ws → mask frame (live_slots ws) ≡ ws
words_again frame ws len h =
    rw (sym len) (map_is (λ k. word_of (has (live_slots ws)) 32 (32 * k)) ws 0 (λ i lt.
    let at : 0 + i ≡ i = omega arith in
    let w = fits_at frame 0 ws i h lt in
    rw at (word_again (has (live_slots ws)) 32 (32 * i) (slice_index ws i) w.1 (λ j less.
    let p = place_of i j less in
    found_has (is_live ws) (32 * length ws) 0 (32 * i + j) (omega arith) (omega (arith, lt, less)) ∙ rw (p.0, p.1) refl))))

pub slots_ascend : (frame : ℕ) (ws : List ℕ) → Follow (MaskFits frame) after_mask 0 ws → Ascends 1 frame (live_slots ws)
slots_ascend frame ws h =
    found_ascend (is_live ws) (32 * length ws) 0 1 frame (λ s le lt live.
    let i = s / 32 in
    let j = s % 32 in
    let w = fits_at frame 0 ws i h (omega (arith, lt)) in
    let rule = λ (b : ℕ). not (bit (slice_index ws i) b) || is_slot frame (32 * (0 + i) + b) in
    let each = each_number rule 32 0 j (omega arith) (omega arith) (passed (list_all rule (numbers 32 0)) Value w.0) in
    let at : 32 * (0 + i) + j ≡ s = omega arith in
    slot_is frame s (subst (λ (t : ℕ). is_slot frame t ≡ true) at (or_set (bit (slice_index ws i) j) (is_slot frame (32 * (0 + i) + j)) each live)))

-- the words of slots keep their rule, are as many as they should be, and have these slots
pub mask_fits : (frame : ℕ) (ss : List ℕ) (n k : ℕ) → Ascends 1 frame ss → Follow (MaskFits frame) after_mask k (map (λ m. word_of (has ss) 32 (32 * m)) (numbers n k))
unfolding numbers
mask_fits frame ss zero k h = tt
mask_fits frame ss (suc n) k h =
    let w = word_of (has ss) 32 (32 * k) in
    let rule = λ (b : ℕ). not (bit w b) || is_slot frame (32 * k + b) in
    let all = all_numbers rule 32 0 (λ j le lt. set_or (bit w j) (is_slot frame (32 * k + j)) (λ e. is_slot_of 1 frame ss (32 * k + j) (omega arith) h (sym (word_bit (has ss) 32 (32 * k) j (omega (arith, lt))) ∙ e))) in
    ((rw all refl, word_small (has ss) 32 (32 * k)), mask_fits frame ss n (k + 1) h)

pub length_mask : (frame : ℕ) (ss : List ℕ) → length (mask frame ss) ≡ mask_words frame
length_mask frame ss = length-map (numbers (mask_words frame) 0) (λ m. word_of (has ss) 32 (32 * m)) ∙ length_numbers (mask_words frame) 0

pub slots_again : (frame : ℕ) (ss : List ℕ) → Ascends 1 frame ss → live_slots (mask frame ss) ≡ ss
slots_again frame ss h =
    let len = length_mask frame ss in
    let n = 32 * length (mask frame ss) in
    filter_same (is_live (mask frame ss)) (has ss) n 0 (λ s le lt.
    let at = map_at (λ m. word_of (has ss) 32 (32 * m)) (mask_words frame) 0 (s / 32) (omega (arith, lt, len)) in
    let first : 0 + s / 32 ≡ s / 32 = omega arith in
    let whole : 32 * (s / 32) + s % 32 ≡ s = omega arith in
    ap (λ (w : ℕ). bit w (s % 32)) (at ∙ ap (λ (m : ℕ). word_of (has ss) 32 (32 * m)) first) ∙ word_bit (has ss) 32 (32 * (s / 32)) (s % 32) (omega arith) ∙ ap (has ss) whole)
    ∙ slots_are n 0 ss (Ascends-weaker 1 0 frame (0 + n) ss (omega arith) (omega (arith, len)) h)

-- ---- loops over numbers, one number more

pub one_more : (f : ℕ → Bool) (n : ℕ) → filter f (numbers (n + 1) 0) ≡ filter f (numbers n 0) ++ cond (f n) (n ∷ []) []
unfolding numbers
one_more f n =
    let e : 0 + n ≡ n = omega arith in
    ap (filter f) (numbers-append n 1 0) ∙ filter-append f (numbers n 0) ((0 + n) ∷ []) ∙ ap (λ (k : ℕ). filter f (numbers n 0) ++ cond (f k) (k ∷ []) []) e

pub no_number : (f : ℕ → Bool) (first : ℕ) → filter f (numbers 0 first) ≡ []
unfolding numbers
no_number f first = refl

pub word_more : (g : ℕ → ℕ) (n : ℕ) → flat_map word (map g (numbers (n + 1) 0)) ≡ flat_map word (map g (numbers n 0)) ++ word (g n)
unfolding numbers word
word_more g n =
    let e : 0 + n ≡ n = omega arith in
    ap (λ (l : List ℕ). flat_map word (map g l)) (numbers-append n 1 0) ∙ ap (flat_map word) (map-append g (numbers n 0) ((0 + n) ∷ [])) ∙ flat_map-append word (map g (numbers n 0)) (g (0 + n) ∷ [])
    ∙ ap (λ (k : ℕ). flat_map word (map g (numbers n 0)) ++ word (g k)) e

pub no_word : (g : ℕ → ℕ) → flat_map word (map g (numbers 0 0)) ≡ []
unfolding numbers
no_word g = refl

pub all_from : (f : ℕ → Bool) (j : ℕ) → j < 32 → list_all f (numbers (32 - j) j) ≡ f j && list_all f (numbers (32 - (j + 1)) (j + 1))
unfolding numbers
all_from f j lt = let e : 32 - j ≡ suc (32 - (j + 1)) = omega arith in rw e refl

pub all_done : (f : ℕ → Bool) (j : ℕ) → 32 ≤ j → list_all f (numbers (32 - j) j) ≡ true
unfolding numbers
all_done f j le = let e : 32 - j ≡ 0 = omega arith in rw e refl

pub no_bit : (test : ℕ → Bool) (first : ℕ) → 0 ≡ word_of test 0 first
unfolding word_of
no_bit test first = refl

pub bit_more : (test : ℕ → Bool) (first j word : ℕ) → j < 32 → word ≡ word_of test j (first + (32 - j)) → word_of test (j + 1) (first + (32 - (j + 1))) ≡ (if test (first + (31 - j)) then 1 else 0) + 2 * word
unfolding word_of
bit_more test first j word lt h =
    let a : j + 1 ≡ suc j = omega arith in
    let b : first + (32 - suc j) ≡ first + (31 - j) = omega (arith, lt) in
    let c : first + (31 - j) + 1 ≡ first + (32 - j) = omega (arith, lt) in
    rw (a, b, c, sym h) refl

pub word_within : (test : ℕ → Bool) (first j word : ℕ) → j < 32 → word ≡ word_of test j (first + (32 - j)) → word < 2 ^ 31
word_within test first j word lt h = omega (arith, h, word_small test j (first + (32 - j)), pow_mono {i = j} {j = 31} (omega (arith, lt)))
