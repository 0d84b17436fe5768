-- A built-in has a gate of its own exactly where it may fail.
use Rattle.std.proofs.Common.{◌≡◌, ℕ, suc, ◌+◌, Bool, true, false, Some, List, [], ◌∷◌, refl, ap, ◌∙◌, if◌then◌else◌, arith}
use Rattle.std.specs.Prelude.{slice_get, option_map}
use Rattle.beam_code.specs.BuiltIns.{BuiltIn, Failure, NoFailure, Badarith, Badarg, First}
use Rattle.beam_code.specs.Function.{first_that}
use Rattle.beam_code.specs.Gates.{failure_gates, gates_of_row, has_some}
use Rattle.path_rules.specs.BuiltIns.{first_fails, may_fail}

pub fails_has_gate : (k : ℕ) (f : Failure) → has_some (failure_gates k f) ≡ may_fail f
fails_has_gate k NoFailure = refl
fails_has_gate k Badarith = refl
fails_has_gate k Badarg = refl
fails_has_gate k (First class) = refl

-- whether a row of the table has a gate
abbrev pub row_has_gate : List BuiltIn → ℕ → Bool
row_has_gate all k = has_some (gates_of_row k (slice_get all k))

-- the rows from a number on
unfoldable pub FromRow : List BuiltIn → ℕ → List BuiltIn → Type 0
FromRow all at bs = (k : ℕ) → slice_get all (at + k) ≡ slice_get bs k

step : (all : List BuiltIn) (at : ℕ) (b : BuiltIn) (bs : List BuiltIn) → FromRow all at (b ∷ bs) → FromRow all (at + 1) bs
unfolding FromRow
step all at b bs from k = (let e : at + 1 + k ≡ at + suc k = omega arith in ap (λ n. slice_get all n) e ∙ from (suc k))

here : (all : List BuiltIn) (at : ℕ) (b : BuiltIn) (bs : List BuiltIn) → FromRow all at (b ∷ bs) → row_has_gate all at ≡ may_fail b.failure
unfolding FromRow
here all at b bs from =
    let e : at ≡ at + 0 = omega arith in
    ap (λ o. has_some (gates_of_row at o)) (ap (λ n. slice_get all n) e ∙ from 0) ∙ fails_has_gate at b.failure

pub gates_first : (all bs : List BuiltIn) (at : ℕ) (test : BuiltIn → Bool) → FromRow all at bs → option_map (row_has_gate all) (first_that test at bs) ≡ first_fails test bs
gates_first all [] at test from = refl
gates_first all (b ∷ bs) at test from = by (test b) refl (gates_first all bs (at + 1) test (step all at b bs from))
  where
    by : (t : Bool) → test b ≡ t → option_map (row_has_gate all) (first_that test (at + 1) bs) ≡ first_fails test bs →
        option_map (row_has_gate all) (if t then Some at else first_that test (at + 1) bs) ≡ (if t then Some (may_fail b.failure) else first_fails test bs)
    by true e rest = ap (λ x. Some x) (here all at b bs from)
    by false e rest = rest
