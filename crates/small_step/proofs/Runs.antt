-- The laws of runs, for any machine.
use Rattle.std.proofs.Common.{◌≡◌, ℕ, zero, suc, ◌+◌, ◌-◌, ◌≤◌, ◌<◌, refl, ap, subst, sym, ◌∙◌, arith, zero-add, suc-add}
use Rattle.small_step.specs.Stage.{Stage, Still, Done, and_then, run}

-- what follows a stage may be replaced by what is the same at each state
pub and_then-same : {S T O : Type 0} (x : Stage S O) (f g : S → Stage T O) → ((s : S) → f s ≡ g s) → and_then x f ≡ and_then x g
and_then-same (Still s) f g same = same s
and_then-same (Done o) f g same = refl

pub and_then-and_then : {S T U O : Type 0} (x : Stage S O) (f : S → Stage T O) (g : T → Stage U O) → and_then (and_then x f) g ≡ and_then x (λ s. and_then (f s) g)
and_then-and_then (Still s) f g = refl
and_then-and_then (Done o) f g = refl

pub and_then-Still : {S O : Type 0} (x : Stage S O) → and_then x (λ s. Still s) ≡ x
and_then-Still (Still s) = refl
and_then-Still (Done o) = refl

module _ {S O : Type 0} (step : S → Stage S O) where
  -- a run of m + n steps is a run of n steps from where m steps led
  pub run-add : (m n : ℕ) (s : S) → run step (m + n) s ≡ and_then (run step m s) (run step n)
  run-add zero n s = rw zero-add refl
  run-add (suc m) n s =
      rw suc-add (and_then-same (step s) _ _ (λ t. run-add m n t) ∙ sym (and_then-and_then (step s) (run step m) (run step n)))

  pub run-one : (s : S) → run step 1 s ≡ step s
  run-one s = and_then-Still (step s)

  -- an end lasts
  pub done_stays : (m n : ℕ) (s : S) (o : O) → run step m s ≡ Done o → m ≤ n → run step n s ≡ Done o
  done_stays m n s o done le =
      let parts : n ≡ m + (n - m) = omega arith in
      ap (λ k. run step k s) parts ∙ run-add m (n - m) s ∙ ap (λ x. and_then x (run step (n - m))) done

  pub still_goes_on : (m n : ℕ) (s t : S) → run step m s ≡ Still t → run step (m + n) s ≡ run step n t
  still_goes_on m n s t still = run-add m n s ∙ ap (λ x. and_then x (run step n)) still

  -- a run has one outcome
  pub done_once : (m n : ℕ) (s : S) (o p : O) → run step m s ≡ Done o → run step n s ≡ Done p → o ≡ p
  done_once m n s o p one other =
      let first = done_stays m (m + n) s o one (omega arith) in
      let second = done_stays n (m + n) s p other (omega arith) in
      cc

  -- one step, and then n more
  pub steps_on : (n : ℕ) (s t : S) → step s ≡ Still t → run step (suc n) s ≡ run step n t
  steps_on n s t e = ap (λ x. and_then x (run step n)) e
