-- Lists of registers as they change, and the first ones of them.
use Rattle.std.proofs.Common.{◌≡◌, ℕ, zero, suc, ◌-◌, ◌<◌, ◌⊎◌, inl, inr, Bool, true, false, Option, Some, None, List, [], ◌∷◌, ◌++◌, length, replicate, slice_get, slice_set, slice_index_or, refl, ap, ◌∙◌, arith}
use Rattle.std.proofs.lemmas.Bool.{cases_eq}
use Rattle.beam_rows.proofs.Lists.{get_set_here, get_set_other, kept_get, some_at}
use Rattle.beam_code.specs.Row.{kept}
use Rattle.beam_code.specs.State.{only, x_registers}
use Rattle.path_rules.specs.Points.{first_defined, kept_below}
use Rattle.term_tree.specs.Tree.{Tree}
use Rattle.run_laws.specs.Shown.{ShowsRegisters}

pub index_set : (xs : List Bool) (i n : ℕ) → slice_index_or (slice_set xs i true) n false ≡ true → (n ≡ i) ⊎ (slice_index_or xs n false ≡ true)
index_set [] i n h = inr h
index_set (x ∷ xs) zero zero h = inl refl
index_set (x ∷ xs) zero (suc n) h = inr h
index_set (x ∷ xs) (suc i) zero h = inr h
index_set (x ∷ xs) (suc i) (suc n) h = elim (index_set xs i n h) [ inl e ↦ inl (ap suc e) | inr g ↦ inr g ]

pub index_unset : (xs : List Bool) (i n : ℕ) → slice_index_or (slice_set xs i false) n false ≡ true → (n ≡ i → ⊥) × (slice_index_or xs n false ≡ true)
index_unset [] i n h = absurd cc
index_unset (x ∷ xs) zero zero h = absurd cc
index_unset (x ∷ xs) zero (suc n) h = (λ e. absurd cc, h)
index_unset (x ∷ xs) (suc i) zero h = (λ e. absurd cc, h)
index_unset (x ∷ xs) (suc i) (suc n) h = let r = index_unset xs i n h in (λ e. r.0 (let same : suc n ≡ suc i = e in omega arith), r.1)

-- one more register is defined
pub registers_set : (xs : List Bool) (held : List (Option Tree)) (i : ℕ) (v : Tree) → i < length held → ShowsRegisters xs held → ShowsRegisters (slice_set xs i true) (slice_set held i (Some v))
registers_set xs held i v low shows n h = elim (cases_eq n i) [
  | inl e ↦ (v, ap (slice_get (slice_set held i (Some v))) e ∙ get_set_here held i (Some v) low)
  | inr ne ↦ elim (index_set xs i n h) [
    | inl e ↦ absurd (ne e)
    | inr g ↦ (let t = shows n g in (t.0, get_set_other held i n (Some v) ne ∙ t.1))
  ]
]

-- the first so many stay
kept_is : (k : ℕ) (xs : List Bool) (n : ℕ) → slice_index_or (kept_below k xs) n false ≡ true → (n < k) × (slice_index_or xs n false ≡ true)
kept_is k [] n h = absurd cc
kept_is zero (x ∷ xs) zero h = absurd cc
kept_is zero (x ∷ xs) (suc n) h = let r = kept_is zero xs n h in absurd (let low = r.0 in omega arith)
kept_is (suc k) (x ∷ xs) zero h = (omega arith, h)
kept_is (suc k) (x ∷ xs) (suc n) h = let r = kept_is k xs n h in (let low = r.0 in omega arith, r.1)

pub registers_kept : (k : ℕ) (xs : List Bool) (held : List (Option Tree)) → ShowsRegisters xs held → ShowsRegisters (kept_below k xs) (kept k held)
registers_kept k xs held shows n h = let r = kept_is k xs n h in let t = shows n r.1 in (t.0, kept_get k held n r.0 ∙ t.1)

-- no others than the first so many
pub none_shown : (m n : ℕ) → slice_index_or (replicate m false) n false ≡ true → ⊥
none_shown zero n h = cc
none_shown (suc m) zero h = cc
none_shown (suc m) (suc n) h = none_shown m n h

first_is : (k m n : ℕ) → slice_index_or (replicate k true ++ replicate m false) n false ≡ true → n < k
first_is zero m n h = absurd (none_shown m n h)
first_is (suc k) m zero h = omega arith
first_is (suc k) m (suc n) h = let low = first_is k m n h in omega arith

pub only_shows : (vs : List Tree) (k : ℕ) → length vs ≡ k → ShowsRegisters (first_defined k x_registers) (only vs)
only_shows vs k many n h = let low = first_is k (x_registers - k) n h in some_at vs (replicate (x_registers - length vs) None) n (omega arith)
