-- A strict machine stops at each state that is not allowed: as long as its run has met no bad outcome, the plain machine's run is the same and keeps to allowed states.
use Rattle.std.proofs.Common.{◌≡◌, ℕ, zero, suc, ◌≤◌, ◌<◌, ◌⊎◌, inl, inr, refl, ap, subst, sym, ◌∙◌, arith}
use Rattle.std.proofs.lemmas.Bool.Decides.{leb_tells}
use Rattle.small_step.specs.Stage.{Stage, Still, Done, and_then, run, IfDone}
use Rattle.small_step.proofs.Runs.{done_stays}

-- at each state either both machines make the same step and the state is allowed, or the strict one stops with a bad outcome
module _ {T P : Type 0} (plain strict : T → Stage T P) (Allowed : T → Type 0) (IsBad : P → Type 0) (either : (t : T) → ((strict t ≡ plain t) × Allowed t) ⊎ ((p : P) × (strict t ≡ Done p) × IsBad p)) where
  abbrev pub IsGood : Stage T P → Type 0
  IsGood st = IfDone st (λ p. IsBad p → ⊥)

  first_step : (n : ℕ) (t : T) → IsGood (and_then (strict t) (run strict n)) → (strict t ≡ plain t) × Allowed t
  first_step n t good =
      elim (either t) [
        | inl same ↦ same
        | inr bad ↦ absurd (subst (λ st. IsGood (and_then st (run strict n))) bad.1 good bad.2)
      ]

  same_after : (n : ℕ) (st : Stage T P) → IsGood (and_then st (run strict n)) → ((t : T) → IsGood (run strict n t) → run plain n t ≡ run strict n t) → and_then st (run plain n) ≡ and_then st (run strict n)
  same_after n (Still t) good more = more t good
  same_after n (Done q) good more = refl

  -- the plain run is the strict one, as stages
  pub same_run : (n : ℕ) (t : T) → IsGood (run strict n t) → run plain n t ≡ run strict n t
  same_run zero t good = refl
  same_run (suc n) t good =
      let same = first_step n t good in
      ap (λ st. and_then st (run plain n)) (sym same.0) ∙ same_after n (strict t) good (same_run n)

  allowed_after : (n k : ℕ) (u : T) (st : Stage T P) → IsGood (and_then st (run strict n)) → and_then st (run plain k) ≡ Still u → ((t : T) → IsGood (run strict n t) → run plain k t ≡ Still u → Allowed u) → Allowed u
  allowed_after n k u (Still t) good still more = more t good still
  allowed_after n k u (Done q) good still more = absurd cc

  -- and every state from which it made a step is allowed
  pub allowed_before : (n : ℕ) (t : T) → IsGood (run strict n t) → (k : ℕ) (u : T) → k < n → run plain k t ≡ Still u → Allowed u
  allowed_before zero t good k u lt still = absurd (omega arith)
  allowed_before (suc n) t good zero u lt still =
      let same = first_step n t good in
      let is : t ≡ u = cc in
      subst Allowed is same.1
  allowed_before (suc n) t good (suc k) u lt still =
      let same = first_step n t good in
      allowed_after n k u (strict t) good (ap (λ st. and_then st (run plain k)) same.0 ∙ still) (λ v g f. allowed_before n v g k u (omega arith) f)

  -- where the strict run ended well, every state that the plain one comes to is allowed
  pub always_allowed : (n : ℕ) (t : T) (p : P) → run strict n t ≡ Done p → (IsBad p → ⊥) → (k : ℕ) (u : T) → run plain k t ≡ Still u → Allowed u
  always_allowed n t p done fine k u still =
      let good : IsGood (run strict n t) = subst IsGood (sym done) fine in
      let plainly : run plain n t ≡ Done p = same_run n t good ∙ done in
      elim (leb_tells n k) [
        | inl late ↦ let ended : run plain k t ≡ Done p = done_stays plain n k t p plainly late.1 in absurd cc
        | inr early ↦ allowed_before n t good k u early.1 still
      ]
