-- Reading items one after the other, as a loop does.
use Rattle.std.proofs.Common.{◌≡◌, ℕ, suc, ◌-◌, ◌+◌, ◌≤◌, ◌<◌, List, [], ◌∷◌, ◌++◌, Result, Ok, Err, refl, sym, ap, subst, ◌∙◌, append_assoc, arith}
use Rattle.std.proofs.lemmas.List.{append-nil}
use Rattle.image_format.specs.declared.refusal.FormatRefusal.{FormatRefusal}
use Rattle.image_format.specs.declared.refusal.FormatRefusal.TheVariants as refusals
use Rattle.image_format.specs.Cursor.{FieldFault, Cursor, Read, ◌>>=◌, Fails, many_at}

-- what was read before, and what is still read
abbrev pub with_front : {A : Type 0} → List A → Read (List A) → Read (List A)
with_front front read = read >>= λ x. Ok (front ++ x.0, x.1)

-- a refusal at a step is the refusal of the whole
pub fails_through : {A B : Type 0} (e : FormatRefusal) (r : Result A FieldFault) (f : A → Result B FieldFault) → Fails e r → Fails e (r >>= f)
fails_through (refusals.Field flaw offset) r f h = ap (λ x. x >>= f) h
fails_through (refusals.Memory e) r f h = tt

module _ {S A : Type 0} (item : S → Cursor → Read A) (next : S → A → S) where
  regroup : (front : List A) (n : A) (read : Read (List A)) → with_front front (read >>= λ x. Ok (n ∷ x.0, x.1)) ≡ with_front (front ++ n ∷ []) read
  regroup front n (Ok x) = ap (λ (ns : List A). Ok (ns, x.1)) (simp append_assoc)
  regroup front n (Err f) = refl

  pub goes_on : (front : List A) (count i : ℕ) (s : S) (p : Cursor) (n : A) (after : Cursor) (total : Read (List A)) → i < count → item s p ≡ Ok (n, after)
      → with_front front (many_at item next (count - i) s p) ≡ total → with_front (front ++ n ∷ []) (many_at item next (count - (i + 1)) (next s n) after) ≡ total
  unfolding many_at
  goes_on front count i s p n after total lt h so_far =
      let k : count - i ≡ suc (count - (i + 1)) = omega arith in
      let one : with_front front (many_at item next (count - i) s p) ≡ with_front (front ++ n ∷ []) (many_at item next (count - (i + 1)) (next s n) after) = rw (k, h) (regroup front n (many_at item next (count - (i + 1)) (next s n) after)) in
      sym one ∙ so_far

  item_fails : (e : FormatRefusal) (front : List A) (count i : ℕ) (s : S) (p : Cursor) → i < count → Fails e (item s p) → Fails e (with_front front (many_at item next (count - i) s p))
  unfolding many_at
  item_fails e front count i s p lt h =
      let k : count - i ≡ suc (count - (i + 1)) = omega arith in
      rw k (fails_through e (item s p >>= λ first. many_at item next (count - (i + 1)) (next s first.0) first.1 >>= λ others. Ok (first.0 ∷ others.0, others.1)) (λ x. Ok (front ++ x.0, x.1))
      (fails_through e (item s p) (λ first. many_at item next (count - (i + 1)) (next s first.0) first.1 >>= λ others. Ok (first.0 ∷ others.0, others.1)) h))

  pub ends : (e : FormatRefusal) (front : List A) (count i : ℕ) (s : S) (p : Cursor) (total : Read (List A)) → i < count → Fails e (item s p)
      → with_front front (many_at item next (count - i) s p) ≡ total → Fails e total
  ends e front count i s p total lt h so_far = subst (Fails e) so_far (item_fails e front count i s p lt h)

  pub is_done : (front : List A) (count i : ℕ) (s : S) (p : Cursor) (total : Read (List A)) → count ≤ i → with_front front (many_at item next (count - i) s p) ≡ total → total ≡ Ok (front, p)
  unfolding many_at
  is_done front count i s p total le so_far =
      let k : count - i ≡ 0 = omega arith in
      let one : with_front front (many_at item next (count - i) s p) ≡ Ok (front, p) = rw k (ap (λ (ns : List A). Ok (ns, p)) (append-nil front)) in
      sym so_far ∙ one
