-- A machine that follows another, stretch by stretch, within a budget of steps: it ends in time, in an outcome that agrees.
use Rattle.std.proofs.Common.{◌≡◌, ℕ, zero, suc, ◌+◌, ◌≤◌, ◌<◌, refl, ap, subst, ◌∙◌, arith}
use Rattle.small_step.specs.Stage.{Stage, Still, Done, and_then, run}
use Rattle.small_step.proofs.Runs.{run-one, done_stays, still_goes_on, done_once}

-- R b s t: the states belong together, and at most b steps of the target are left; A: which outcomes agree;
-- Good: what the source alone keeps, as a fact that the stretches may use
module _ {S T O P : Type 0} (source : S → Stage S O) (target : T → Stage T P) (R : ℕ → S → T → Type 0) (A : O → P → Type 0) (Good : S → Type 0) (good_on : (s s' : S) → source s ≡ Still s' → Good s → Good s') where
  good_after : (n : ℕ) (s s' : S) (st : Stage S O) → source s ≡ st → and_then st (run source n) ≡ Still s' → Good s → ((u : S) → run source n u ≡ Still s' → Good u → Good s') → Good s'
  good_after n s s' (Still u) is e good more = more u e (good_on s u is good)
  good_after n s s' (Done o) is e good more = absurd cc

  pub good_along : (n : ℕ) (s s' : S) → run source n s ≡ Still s' → Good s → Good s'
  good_along zero s s' e good = let same : s ≡ s' = cc in subst Good same good
  good_along (suc n) s s' e good = good_after n s s' (source s) refl e good (λ u r g. good_along n u s' r g)

  -- some rows of the source and at least one step of the target lead to states that belong together, or to outcomes that agree
  pub data Stretch (b : ℕ) (s : S) (t : T) : Type 0 where
    leads : (rows steps left : ℕ) (s' : S) (t' : T) → 0 < steps → run source rows s ≡ Still s' → run target steps t ≡ Still t' → R left s' t' → steps + left ≤ b → Stretch b s t
    ends : (rows steps : ℕ) (o : O) (p : P) → run source rows s ≡ Done o → run target steps t ≡ Done p → A o p → steps ≤ b → Stretch b s t

  -- the source ends, with an outcome that agrees with p
  pub record Agrees (s : S) (p : P) : Type 0 where
    pub rows : ℕ
    pub outcome : O
    pub done : run source rows s ≡ Done outcome
    pub agree : A outcome p

  -- the target ends within the budget, as the source does
  pub record Ends (b : ℕ) (s : S) (t : T) : Type 0 where
    pub outcome : P
    pub within : run target b t ≡ Done outcome
    pub agrees : Agrees s outcome

  ends_at : (b rows steps : ℕ) (s : S) (t : T) (o : O) (p : P) → run source rows s ≡ Done o → run target steps t ≡ Done p → A o p → steps ≤ b → Ends b s t
  ends_at b rows steps s t o p es et agree pays =
      record { outcome = p; within = done_stays target steps b t p et pays; agrees = record { rows = rows; outcome = o; done = es; agree = agree } }

  ends_later : (b left rows steps : ℕ) (s s' : S) (t t' : T) → run source rows s ≡ Still s' → run target steps t ≡ Still t' → steps + left ≤ b → Ends left s' t' → Ends b s t
  ends_later b left rows steps s s' t t' es et pays e =
      ends_at b (rows + e.agrees.rows) (steps + left) s t e.agrees.outcome e.outcome
      (still_goes_on source rows e.agrees.rows s s' es ∙ e.agrees.done)
      (still_goes_on target steps left t t' et ∙ e.within)
      e.agrees.agree pays

  module _ (stretch : (b : ℕ) (s : S) (t : T) → Good s → R b s t → Stretch b s t) where
    ends_within : (fuel b : ℕ) (s : S) (t : T) → b ≤ fuel → Good s → R b s t → Ends b s t
    ends_within zero b s t le good r =
        elim (stretch b s t good r) [
          | leads rows steps left s' t' moves es et r' pays ↦ absurd (omega arith)
          | ends rows steps o p es et agree pays ↦ ends_at b rows steps s t o p es et agree pays
        ]
    ends_within (suc fuel) b s t le good r =
        elim (stretch b s t good r) [
          | leads rows steps left s' t' moves es et r' pays ↦
              ends_later b left rows steps s s' t t' es et pays (ends_within fuel left s' t' (omega arith) (good_along rows s s' es good) r')
          | ends rows steps o p es et agree pays ↦ ends_at b rows steps s t o p es et agree pays
        ]

    pub ends_in_time : (b : ℕ) (s : S) (t : T) → Good s → R b s t → Ends b s t
    ends_in_time b s t good r = ends_within b b s t (omega arith) good r

    -- whatever the target ends with, after any number of steps
    pub agrees_always : (b n : ℕ) (s : S) (t : T) (p : P) → Good s → R b s t → run target n t ≡ Done p → Agrees s p
    agrees_always b n s t p good r done =
        let e = ends_in_time b s t good r in
        subst (Agrees s) (done_once target b n t e.outcome p e.within done) e.agrees
