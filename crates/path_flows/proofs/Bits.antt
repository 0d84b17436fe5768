-- Words of answers, by their bits.
use Rattle.std.proofs.Common.{◌≡◌, ◌≢◌, ◌⊎◌, inl, inr, ℕ, zero, suc, ◌+◌, ◌-◌, ◌*◌, ◌%◌, ◌^◌, ◌<◌, ◌≤◌, Bool, true, false, ◌&&◌, ◌||◌, not, if◌then◌else◌, refl, ap, sym, ◌∙◌, arith, bit_or, bit_and, min, max, nat_eq, nat_lt}
use Rattle.std.specs.Int.{bit_at, bit_not, w128}
use Rattle.std.proofs.lemmas.Bool.Decides.{nat_tests}
use Rattle.std.proofs.lemmas.Bool.{cases_eq, cases_lt}
use Rattle.std.proofs.lemmas.Nat.Bits.{bit_at_and, bit_at_or, bit_at_not, bit_at-lt, bit_at-zero, bit_at-pow_same, bit_at-pow_other, bit_at_ones, bit_at_ones_above, bit_at_above, same_from_bits}
use Rattle.std.proofs.lemmas.Nat.{one_shl, or_lt}
use Rattle.path_flows.specs.Sets.{bits_by, word}

abbrev pub bit_of : Bool → ℕ
bit_of true = 1
bit_of false = 0

bit_same : (a b : Bool) → bit_of a ≡ bit_of b → a ≡ b
bit_same true true e = refl
bit_same true false e = absurd (omega arith)
bit_same false true e = absurd (omega arith)
bit_same false false e = refl

top_same : (b : Bool) (n : ℕ) → bit_at (if b then 2 ^ n else 0) n ≡ bit_of b
top_same true n = bit_at-pow_same n
top_same false n = bit_at-zero n

top_other : (b : Bool) (n i : ℕ) → i ≢ n → bit_at (if b then 2 ^ n else 0) i ≡ 0
top_other true n i h = bit_at-pow_other n i h
top_other false n i h = bit_at-zero i

past : (n : ℕ) (f : ℕ → Bool) (i : ℕ) → n ≤ i → bit_at (bits_by n f) i ≡ 0
past zero f i h = bit_at-zero i
past (suc n) f i h =
    let a = bit_at_or (bits_by n f) (if f n then 2 ^ n else 0) i in
    let b = past n f i (omega arith) in
    let o : i ≢ n = λ e. omega arith in
    let c = top_other (f n) n i o in
    omega arith

inside : (n : ℕ) (f : ℕ → Bool) (i : ℕ) → i < n → bit_at (bits_by n f) i ≡ bit_of (f i)
inside zero f i h = absurd (omega arith)
inside (suc n) f i h =
    elim (cases_eq i n) [
      | inl e ↦
          let a = bit_at_or (bits_by n f) (if f n then 2 ^ n else 0) n in
          let b = past n f n (omega arith) in
          let c = top_same (f n) n in
          let r : bit_at (bits_by (suc n) f) n ≡ bit_of (f n) = omega arith in
          ap (λ j. bit_at (bits_by (suc n) f) j) e ∙ (r ∙ ap (λ j. bit_of (f j)) (sym e))
      | inr o ↦
          let a = bit_at_or (bits_by n f) (if f n then 2 ^ n else 0) i in
          let b = inside n f i (omega arith) in
          let c = top_other (f n) n i o in
          omega arith
    ]

-- the bits of a word
word_inside : (f : ℕ → Bool) (from i : ℕ) → i < 128 → bit_at (word f from) i ≡ bit_of (f (from + i))
unfolding word
word_inside f from i h = inside 128 (λ j. f (from + j)) i h

word_past : (f : ℕ → Bool) (from i : ℕ) → 128 ≤ i → bit_at (word f from) i ≡ 0
unfolding word
word_past f from i h = past 128 (λ j. f (from + j)) i h

-- a number is a word where it has its bits
pub word_is : (x : ℕ) (f : ℕ → Bool) (from : ℕ) → ((i : ℕ) → 128 ≤ i → bit_at x i ≡ 0) → ((i : ℕ) → i < 128 → bit_at x i ≡ bit_of (f (from + i))) → x ≡ word f from
word_is x f from high low =
    same_from_bits x (word f from) (λ i.
    elim (cases_lt i 128) [
      | inl h ↦ low i h ∙ sym (word_inside f from i h)
      | inr h ↦ high i h ∙ sym (word_past f from i h)
    ])

pub word_at : (f g : ℕ → Bool) (from i : ℕ) → i < 128 → word f from ≡ word g from → f (from + i) ≡ g (from + i)
word_at f g from i l e = bit_same (f (from + i)) (g (from + i)) (sym (word_inside f from i l) ∙ (ap (λ w. bit_at w i) e ∙ word_inside g from i l))

pub word_same : (f g : ℕ → Bool) (from : ℕ) → ((i : ℕ) → i < 128 → f (from + i) ≡ g (from + i)) → word f from ≡ word g from
word_same f g from h = word_is (word f from) g from (λ i l. word_past f from i l) (λ i l. word_inside f from i l ∙ ap bit_of (h i l))

and_bit : (a b : Bool) → min (bit_of a) (bit_of b) ≡ bit_of (a && b)
and_bit true true = refl
and_bit true false = refl
and_bit false true = refl
and_bit false false = refl

or_bit : (a b : Bool) → max (bit_of a) (bit_of b) ≡ bit_of (a || b)
or_bit true true = refl
or_bit true false = refl
or_bit false true = refl
or_bit false false = refl

not_bit : (b : Bool) → 1 - bit_of b ≡ bit_of (not b)
not_bit true = refl
not_bit false = refl

pub word_and : (f g : ℕ → Bool) (from : ℕ) → bit_and (word f from) (word g from) ≡ word (λ r. f r && g r) from
word_and f g from =
    word_is (bit_and (word f from) (word g from)) (λ r. f r && g r) from
    (λ i l. (let a = bit_at_and (word f from) (word g from) i in let b = word_past f from i l in omega arith))
    (λ i l. (
    let a = word_inside f from i l in
    let b = word_inside g from i l in
    bit_at_and (word f from) (word g from) i
    ∙ (ap (λ m. min m (bit_at (word g from) i)) a ∙ (ap (λ m. min (bit_of (f (from + i))) m) b ∙ and_bit (f (from + i)) (g (from + i))))))

pub word_or : (f g : ℕ → Bool) (from : ℕ) → bit_or (word f from) (word g from) ≡ word (λ r. f r || g r) from
word_or f g from =
    word_is (bit_or (word f from) (word g from)) (λ r. f r || g r) from
    (λ i l. (let a = bit_at_or (word f from) (word g from) i in let b = word_past f from i l in let c = word_past g from i l in omega arith))
    (λ i l. (
    let a = word_inside f from i l in
    let b = word_inside g from i l in
    bit_at_or (word f from) (word g from) i
    ∙ (ap (λ m. max m (bit_at (word g from) i)) a ∙ (ap (λ m. max (bit_of (f (from + i))) m) b ∙ or_bit (f (from + i)) (g (from + i))))))

bits_low : (n : ℕ) (f : ℕ → Bool) → bits_by n f < 2 ^ n
bits_low zero f = omega arith
bits_low (suc n) f =
    let a = bits_low n f in
    let p : 2 ^ suc n ≡ 2 ^ n + 2 ^ n = omega arith in
    or_lt (suc n) (bits_by n f) (if f n then 2 ^ n else 0) (omega arith) (top (f n) a)
  where
    top : (b : Bool) → bits_by n f < 2 ^ n → (if b then 2 ^ n else 0) < 2 ^ suc n
    top true a = let p : 2 ^ suc n ≡ 2 ^ n + 2 ^ n = omega arith in omega arith
    top false a = let p : 2 ^ suc n ≡ 2 ^ n + 2 ^ n = omega arith in omega arith

word_low : (f : ℕ → Bool) (from : ℕ) → word f from < 2 ^ 128
unfolding word
word_low f from = bits_low 128 (λ i. f (from + i))

pub word_without : (f g : ℕ → Bool) (from : ℕ) → bit_and (word f from) (bit_not w128 (word g from)) ≡ word (λ r. f r && not (g r)) from
word_without f g from =
    word_is (bit_and (word f from) (bit_not w128 (word g from))) (λ r. f r && not (g r)) from
    (λ i l. (let a = bit_at_and (word f from) (bit_not w128 (word g from)) i in let b = word_past f from i l in omega arith))
    (λ i l. (
    let a = word_inside f from i l in
    let b = bit_at_not w128 (word g from) i (word_low g from) l ∙ (ap (λ m. 1 - m) (word_inside g from i l) ∙ not_bit (g (from + i))) in
    bit_at_and (word f from) (bit_not w128 (word g from)) i
    ∙ (ap (λ m. min m (bit_at (bit_not w128 (word g from)) i)) a ∙ (ap (λ m. min (bit_of (f (from + i))) m) b ∙ and_bit (f (from + i)) (not (g (from + i)))))))

-- what is taken away is not there
pub word_apart : (x g : ℕ) → bit_and g (bit_and x (bit_not w128 g)) ≡ 0
word_apart x g =
    elim (cases_lt g (2 ^ 128)) [
      | inl low ↦ same_from_bits (bit_and g (bit_and x (bit_not w128 g))) 0 (λ i. elim (cases_lt i 128) [
        | inl h ↦
            let a = bit_at_and g (bit_and x (bit_not w128 g)) i in
            let b = bit_at_and x (bit_not w128 g) i in
            let c = bit_at_not w128 g i low h in
            let d = bit_at-lt g i in
            let e = bit_at-zero i in
            omega arith
        | inr h ↦ (let a = bit_at_and g (bit_and x (bit_not w128 g)) i in let b = bit_at_above g 128 i low h in let e = bit_at-zero i in omega arith)
      ])
      | inr high ↦
          let none : bit_not w128 g ≡ 0 = omega arith in
          same_from_bits (bit_and g (bit_and x (bit_not w128 g))) 0 (λ i. (
          let a = bit_at_and g (bit_and x (bit_not w128 g)) i in
          let b = bit_at_and x (bit_not w128 g) i in
          let c : bit_at (bit_not w128 g) i ≡ 0 = ap (λ n. bit_at n i) none ∙ bit_at-zero i in
          let e = bit_at-zero i in
          omega arith))
    ]

-- ---- what the code computes

eq_self : (m n : ℕ) → m ≡ n → nat_eq m n ≡ true
eq_self m n e = grind (arith, nat_tests)

eq_other : (m n : ℕ) → m ≢ n → nat_eq m n ≡ false
eq_other m n e = grind (arith, nat_tests)

lt_yes : (m n : ℕ) → m < n → nat_lt m n ≡ true
lt_yes m n e = grind (arith, nat_tests)

lt_no : (m n : ℕ) → n ≤ m → nat_lt m n ≡ false
lt_no m n e = grind (arith, nat_tests)

-- no bit is set
pub word_none : (f : ℕ → Bool) (from : ℕ) → ((i : ℕ) → i < 128 → f (from + i) ≡ false) → 0 ≡ word f from
word_none f from h = word_is 0 f from (λ i l. bit_at-zero i) (λ i l. bit_at-zero i ∙ sym (ap bit_of (h i l)))

pub bit_none : (name from : ℕ) → (name < from) ⊎ (from + 128 ≤ name) → 0 ≡ word (λ i. nat_eq i name) from
bit_none name from away = word_none (λ i. nat_eq i name) from (λ i l. eq_other (from + i) name (not_there i l away))
  where
    not_there : (i : ℕ) → i < 128 → (name < from) ⊎ (from + 128 ≤ name) → from + i ≢ name
    not_there i l (inl a) e = omega arith
    not_there i l (inr a) e = omega arith

pub bit_one : (name from : ℕ) → from ≤ name → name - from < 128 → 1 * 2 ^ (name - from) % 2 ^ 128 ≡ word (λ i. nat_eq i name) from
bit_one name from l h =
    one_shl (name - from) 128 h ∙ word_is (2 ^ (name - from)) (λ i. nat_eq i name) from
    (λ i p. bit_at-pow_other (name - from) i (λ e. omega arith))
    (λ i p. elim (cases_eq i (name - from)) [
      | inl e ↦ ap (λ j. bit_at (2 ^ (name - from)) j) e ∙ (bit_at-pow_same (name - from) ∙ sym (ap bit_of (eq_self (from + i) name (omega arith))))
      | inr o ↦ bit_at-pow_other (name - from) i o ∙ sym (ap bit_of (eq_other (from + i) name (λ e. o (omega arith))))
    ])

pub below_none : (count from : ℕ) → count ≤ from → 0 ≡ word (λ i. nat_lt i count) from
below_none count from h = word_none (λ i. nat_lt i count) from (λ i l. lt_no (from + i) count (omega arith))

ones_word : (count from k : ℕ) → k ≤ 128 → ((i : ℕ) → i < 128 → nat_lt (from + i) count ≡ nat_lt i k) → 2 ^ k - 1 ≡ word (λ i. nat_lt i count) from
ones_word count from k b h =
    word_is (2 ^ k - 1) (λ i. nat_lt i count) from
    (λ i l. bit_at_ones_above k i (omega arith))
    (λ i l. elim (cases_lt i k) [
      | inl p ↦ bit_at_ones k i p ∙ sym (ap bit_of (h i l ∙ lt_yes i k p))
      | inr p ↦ bit_at_ones_above k i p ∙ sym (ap bit_of (h i l ∙ lt_no i k p))
    ])

pub below_all : (count from : ℕ) → from ≤ count → 128 ≤ count - from → 2 ^ 128 - 1 ≡ word (λ i. nat_lt i count) from
below_all count from l h = ones_word count from 128 (omega arith) (λ i p. lt_yes (from + i) count (omega arith) ∙ sym (lt_yes i 128 p))

pub below_some : (count from : ℕ) → from ≤ count → count - from < 128 → 1 * 2 ^ (count - from) % 2 ^ 128 - 1 ≡ word (λ i. nat_lt i count) from
below_some count from l h =
    ap (λ n. n - 1) (one_shl (count - from) 128 h) ∙ ones_word count from (count - from) (omega arith) (λ i p. moved i)
  where
    moved : (i : ℕ) → nat_lt (from + i) count ≡ nat_lt i (count - from)
    moved i = elim (cases_lt i (count - from)) [
      | inl a ↦ lt_yes (from + i) count (omega arith) ∙ sym (lt_yes i (count - from) a)
      | inr a ↦ lt_no (from + i) count (omega arith) ∙ sym (lt_no i (count - from) a)
    ]
