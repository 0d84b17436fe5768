-- What a look at a table of words finds.
use Rattle.std.proofs.Common.{◌≡◌, ℕ, zero, suc, ◌/◌, ◌^◌, Bool, false, List, [], ◌∷◌, Some, None, Option, refl, ap, sym, ◌∙◌, bit_and, nat_eq, slice_get, slice_index}
use Rattle.std.specs.Prelude.{unwrap_or}
use Rattle.std.specs.Int.{bit_at}
use Rattle.std.proofs.lemmas.Nat.Bits.{bit_at-zero, shr_and_one}
use Rattle.liveness.specs.Live.{list_of}

abbrev shows : List (List ℕ) → ℕ → ℕ → ℕ → Bool
shows columns block node k = nat_eq (bit_at (slice_index (list_of columns block) node) k) 1

abbrev shows_in : Option (List ℕ) → ℕ → ℕ → Bool
shows_in column node k = nat_eq (bit_at (slice_index (unwrap_or column []) node) k) 1

index_none : (xs : List ℕ) (i : ℕ) → None ≡ slice_get xs i → slice_index xs i ≡ 0
index_none [] i e = refl
index_none (x ∷ xs) zero e = absurd cc
index_none (x ∷ xs) (suc i) e = index_none xs i e

index_some : (xs : List ℕ) (i word : ℕ) → Some word ≡ slice_get xs i → slice_index xs i ≡ word
index_some [] i word e = absurd cc
index_some (x ∷ xs) zero word e = cc
index_some (x ∷ xs) (suc i) word e = index_some xs i word e

pub none_shown : (columns : List (List ℕ)) (block node k : ℕ) → None ≡ slice_get columns block → false ≡ shows columns block node k
none_shown columns block node k e = sym (ap (λ (o : Option (List ℕ)). shows_in o node k) (sym e) ∙ ap (λ b. nat_eq b 1) (bit_at-zero k))

pub past_shown : (columns : List (List ℕ)) (block node k : ℕ) (column : List ℕ) → Some column ≡ slice_get columns block → None ≡ slice_get column node → false ≡ shows columns block node k
past_shown columns block node k column e f =
    sym (ap (λ (o : Option (List ℕ)). shows_in o node k) (sym e) ∙ (ap (λ w. nat_eq (bit_at w k) 1) (index_none column node f) ∙ ap (λ b. nat_eq b 1) (bit_at-zero k)))

pub word_shown : (columns : List (List ℕ)) (block node k : ℕ) (column : List ℕ) (word : ℕ) → Some column ≡ slice_get columns block → Some word ≡ slice_get column node → nat_eq (bit_and (word / 2 ^ k) 1) 1 ≡ shows columns block node k
word_shown columns block node k column word e f =
    ap (λ b. nat_eq b 1) (shr_and_one word k)
    ∙ (sym (ap (λ w. nat_eq (bit_at w k) 1) (index_some column node word f)) ∙ sym (ap (λ (o : Option (List ℕ)). shows_in o node k) (sym e)))
