-- The bits of a word are the names of a list.
use Rattle.std.proofs.Common.{◌≡◌, ◌≢◌, ℕ, zero, suc, ◌+◌, ◌-◌, ◌*◌, ◌%◌, ◌^◌, ◌<◌, ◌≤◌, inl, inr, Bool, true, false, ◌||◌, ◌&&◌, if◌then◌else◌, List, [], ◌∷◌, map, max, refl, ap, sym, subst, ◌∙◌, arith, ◌↔◌, bit_or, nat_eq, nat_le, nat_lt, slice_index, eq-eqb}
use Rattle.std.specs.List.{list_any, Contains}
use Rattle.std.proofs.lemmas.Bool.{cases_eq}
use Rattle.std.proofs.lemmas.Bool.Decides.{nat_tests}
use Rattle.std.proofs.lemmas.List.Folds.{list_any_at}
use Rattle.std.proofs.lemmas.Map.Views.{Contains-from_any}
use Rattle.std.specs.Int.{bit_at, w64}
use Rattle.std.proofs.lemmas.Nat.Bits.{bit_at-lt, bit_at-zero, bit_at_set_same, bit_at_set_other}
use Rattle.liveness.specs.Live.{list_of}
use Rattle.liveness.specs.Words.{with_name, word_from, HasBit}

abbrev has_name : List ℕ → ℕ → Bool
has_name list name = list_any (λ x. nat_eq name x) list

abbrev bit_of : Bool → ℕ
bit_of true = 1
bit_of false = 0

picked : (b : Bool) (word d k : ℕ) → (b ≡ true → (d < 64) × (k ≢ d)) → bit_at (if b then bit_or word (1 * 2 ^ d % 2 ^ 64) else word) k ≡ max (bit_at word k) 0
picked true word d k h = bit_at_set_other w64 word d (h refl).0 k (h refl).1 ∙ omega arith
picked false word d k h = omega arith

within : (first name k : ℕ) → name ≢ first + k → (nat_le first name && nat_lt (name - first) 64) ≡ true → (name - first < 64) × (k ≢ name - first)
within first name k ne t =
    let a : first ≤ name = grind (arith, nat_tests) in
    let b : name - first < 64 = grind (arith, nat_tests) in
    (b, λ e. ne (omega arith))

with_name_bit : (word first name k : ℕ) → k < 64 → bit_at (with_name word first name) k ≡ max (bit_at word k) (bit_of (nat_eq (first + k) name))
with_name_bit word first name k low =
    elim (cases_eq (first + k) name) [
      | inl e ↦
          (let t : (nat_le first name && nat_lt (name - first) 64) ≡ true = grind (arith, nat_tests) in
          let f : nat_eq (first + k) name ≡ true = eq-eqb (first + k) name e in
          let d : name - first ≡ k = omega arith in
          let l = bit_at-lt word k in
          let same : bit_at (bit_or word (1 * 2 ^ (name - first) % 2 ^ 64)) k ≡ 1 = subst (λ a. bit_at (bit_or word (1 * 2 ^ (name - first) % 2 ^ 64)) a ≡ 1) d (bit_at_set_same w64 word (name - first) (omega arith)) in
          rw (t, f) (same ∙ omega arith))
      | inr ne ↦
          (let f : nat_eq (first + k) name ≡ false = grind (arith, nat_tests) in
          rw f (picked (nat_le first name && nat_lt (name - first) 64) word (name - first) k (λ t. within first name k (λ e. ne (sym e)) t)))
    ]

word_bit : (word first : ℕ) (names : List ℕ) (k : ℕ) → k < 64 → bit_at (word_from word first names) k ≡ max (bit_at word k) (bit_of (has_name names (first + k)))
word_bit word first [] k low = let l = bit_at-lt word k in omega arith
word_bit word first (x ∷ xs) k low =
    word_bit (with_name word first x) first xs k low ∙ (ap (λ b. max b (bit_of (has_name xs (first + k)))) (with_name_bit word first x k low) ∙ joined (bit_at word k) (nat_eq (first + k) x) (has_name xs (first + k)))
  where
    joined : (w : ℕ) (a b : Bool) → max (max w (bit_of a)) (bit_of b) ≡ max w (bit_of (a || b))
    joined w true true = omega arith
    joined w true false = omega arith
    joined w false b = elim b as (λ c. max (max w 0) (bit_of c) ≡ max w (bit_of c)) [ true ↦ omega arith | false ↦ omega arith ]

words_at : (first : ℕ) (lists : List (List ℕ)) (node : ℕ) → slice_index (map (word_from 0 first) lists) node ≡ word_from 0 first (list_of lists node)
words_at first [] node = refl
words_at first (x ∷ xs) zero = refl
words_at first (x ∷ xs) (suc n) = words_at first xs n

bit_is : (first : ℕ) (lists : List (List ℕ)) (words : List ℕ) (node k : ℕ) → words ≡ map (word_from 0 first) lists → k < 64 → bit_at (slice_index words node) k ≡ bit_of (has_name (list_of lists node) (first + k))
bit_is first lists words node k e low =
    let z = bit_at-zero k in
    let b = word_bit 0 first (list_of lists node) k low in
    ap (λ ws. bit_at (slice_index ws node) k) e ∙ (ap (λ w. bit_at w k) (words_at first lists node) ∙ omega arith)

bit_true : (b : Bool) → bit_of b ≡ 1 → b ≡ true
bit_true true h = refl
bit_true false h = absurd (omega arith)

same_name : (x y : ℕ) → nat_eq x y ≡ true → x ≡ y
same_name x y t = grind (arith, nat_tests)

-- a word of a list has the bits of its names
pub bits_are : (first : ℕ) (lists : List (List ℕ)) (words : List ℕ) → words ≡ map (word_from 0 first) lists → (node k : ℕ) → k < 64 → HasBit words node k ↔ Contains (list_of lists node) (first + k)
bits_are first lists words e node k low =
    let b = bit_is first lists words node k e low in (
      λ h. Contains-from_any same_name (first + k) (list_of lists node) (bit_true _ (sym b ∙ h)),
      λ c. b ∙ ap bit_of (list_any_at (λ x. nat_eq (first + k) x) (list_of lists node) c.0 (first + k) c.1 (eq-eqb _ _ (sym c.2))),
    )
