-- What paths reach, round by round.
use Rattle.std.proofs.Common.{◌≡◌, ℕ, zero, suc, ◌+◌, ◌-◌, ◌≤◌, inl, inr, false, sym, arith, subst}
use Rattle.std.proofs.lemmas.Bool.{cases_Bool}
use Rattle.paths.specs.Paths.{Free}
use Rattle.paths.specs.Rules.{Ways, GoesOn, Reached, Holds}

module _ {P : Type 0} (w : Ways P) where
  pub reached_more : (k n : ℕ) (y : P) → Reached w n y → Reached w (k + n) y
  reached_more zero n y r = let e : 0 + n ≡ n = omega arith in subst (λ m. Reached w m y) (sym e) r
  reached_more (suc k) n y r = let e : suc k + n ≡ suc (k + n) = omega arith in subst (λ m. Reached w m y) (sym e) (inl (reached_more k n y r))

  pub reached_later : (m n : ℕ) (y : P) → m ≤ n → Reached w m y → Reached w n y
  reached_later m n y le r = let e : n - m + m ≡ n = omega arith in subst (λ m. Reached w m y) e (reached_more (n - m) m y r)

  pub goes_on_before : (m n : ℕ) (x : P) → m ≤ n → GoesOn w (Reached w n) x → GoesOn w (Reached w m) x
  goes_on_before m n x le g = record { fine = g.fine; alone = λ y r. g.alone y (reached_later m n y le r) }

  -- once a round brings nothing new, no later one does
  pub stable : (n : ℕ) → ((y : P) → Reached w (suc n) y → Reached w n y) → (k : ℕ) (y : P) → Reached w (k + n) y → Reached w n y
  stable n still zero y r = let e : 0 + n ≡ n = omega arith in subst (λ m. Reached w m y) e r
  stable n still (suc k) y r =
      let e : suc k + n ≡ suc (k + n) = omega arith in
      elim (subst (λ m. Reached w m y) e r) [
        | inl s ↦ stable n still k y s
        | inr s ↦
            let back = stable n still k s.0 s.1 in
            still y (inr (s.0, back, goes_on_before n (k + n) s.0 (omega arith) s.2, s.3))
      ]

  pub reached_free : (n : ℕ) (y : P) → Reached w n y → (m : ℕ) × (m ≤ n) × Free w.graph m y
  reached_free zero y r = (zero, omega arith, r)
  reached_free (suc n) y r =
      elim r [
        | inl s ↦ (let f = reached_free n y s in (f.0, (let h = f.1 in omega arith), f.2))
        | inr s ↦ (let f = reached_free n s.0 s.1 in (suc f.0, (let h = f.1 in omega arith), (s.0, f.2, s.3)))
      ]

  pub not_broken : Holds w → (n : ℕ) (x : P) → Reached w n x → w.breaks x ≡ false
  not_broken holds n x r = elim (cases_Bool (w.breaks x)) [ inl b ↦ absurd (holds x (record { n = n; reached = r; why = inl b })) | inr f ↦ f ]

  pub not_split : Holds w → (n : ℕ) (x y : P) → Reached w n x → Reached w n y → w.splits x y ≡ false
  not_split holds n x y r s = elim (cases_Bool (w.splits x y)) [ inl b ↦ absurd (holds y (record { n = n; reached = s; why = inr (x, r, b) })) | inr f ↦ f ]
