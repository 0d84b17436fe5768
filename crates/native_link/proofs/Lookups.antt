-- A search in keys that rise.
use Rattle.std.proofs.Common.{◌≡◌, ℕ, Bool, cond, zero, suc, ◌+◌, ◌<◌, ◌≤◌, List, [], ◌∷◌, length, get_or, Some, None, refl, sym, ap, ◌∙◌, arith, inl, inr}
use Rattle.std.specs.Prelude.{◌⊎◌}
use Rattle.std.proofs.lemmas.Bool.{cases_lt, cases_eq, eq-eqb, ne_eqb}
use Rattle.image_format.specs.declared.parts.Native.{Native}
use Rattle.image_format.specs.declared.parts.Descriptor.{Descriptor}
use Rattle.image_format.specs.Fitting.{Turn, NativeFits, after_native, DescriptorFits, after_descriptor, total_count}
use Rattle.tagged_words.specs.Follow.{Follow}
use Rattle.native_link.specs.Lookup.{with_key, native_of, Splits}

-- keys that rise, from a least one on
abbrev pub Rises : {A : Type 0} → (A → ℕ) → ℕ → List A → Type 0
Rises key least [] = Unit {0}
Rises key least (x ∷ xs) = (least ≤ key x) × Rises key (key x + 1) xs

pub natives_rise : (t : Turn) (ns : List Native) → Follow NativeFits after_native t ns → Rises (λ n. n.fid) t.least ns
natives_rise t [] h = tt
natives_rise t (n ∷ ns) h = (h.0.ascends, natives_rise (after_native t n) ns h.1)

pub descriptors_rise : (least : ℕ) (ds : List Descriptor) → Follow DescriptorFits after_descriptor least ds → Rises (λ d. d.ret) least ds
descriptors_rise least [] h = tt
descriptors_rise least (d ∷ ds) h = (h.0.ascends, descriptors_rise (after_descriptor least d) ds h.1)

module _ {A : Type 0} (key : A → ℕ) where
  at_least : (least : ℕ) (xs : List A) (i : ℕ) (d : A) → Rises key least xs → i < length xs → least ≤ key (get_or xs i d)
  at_least least [] i d h lt = absurd (omega arith)
  at_least least (x ∷ xs) zero d h lt = h.0
  at_least least (x ∷ xs) (suc i) d h lt = omega (arith, at_least (key x + 1) xs i d h.1 (omega arith), h.0)

  rises_to : (least : ℕ) (xs : List A) (i j : ℕ) (d e : A) → Rises key least xs → i ≤ j → j < length xs → key (get_or xs i d) ≤ key (get_or xs j e)
  rises_to least [] i j d e h le lt = absurd (omega arith)
  rises_to least (x ∷ xs) zero zero d e h le lt = omega arith
  rises_to least (x ∷ xs) zero (suc j) d e h le lt = omega (arith, at_least (key x + 1) xs j e h.1 (omega arith))
  rises_to least (x ∷ xs) (suc i) zero d e h le lt = absurd (omega arith)
  rises_to least (x ∷ xs) (suc i) (suc j) d e h le lt = rises_to (key x + 1) xs i j d e h.1 (omega arith) (omega arith)

  pub goes_up : (least : ℕ) (xs : List A) (k low high mid : ℕ) (d : A) → Rises key least xs → Splits key xs k low high → mid < high → key (get_or xs mid d) < k → Splits key xs k (mid + 1) high
  goes_up least xs k low high mid d h s lt less = record {
    within = s.within;
    before = λ j e below. omega (arith, rises_to least xs j mid e d h (omega arith) (omega (arith, s.within)), less);
    behind = s.behind;
  }

  pub goes_down : (least : ℕ) (xs : List A) (k low high mid : ℕ) (d : A) → Rises key least xs → Splits key xs k low high → mid < high → k ≤ key (get_or xs mid d) → Splits key xs k low mid
  goes_down least xs k low high mid d h s lt more = record {
    within = omega (arith, s.within);
    before = s.before;
    behind = λ j e from within. omega (arith, rises_to least xs mid j d e h from within, more);
  }

  pub found : (least : ℕ) (xs : List A) (i : ℕ) (d : A) (k : ℕ) → Rises key least xs → i < length xs → key (get_or xs i d) ≡ k → with_key key xs k ≡ Some (get_or xs i d)
  found least [] i d k h lt e = absurd (omega arith)
  found least (x ∷ xs) zero d k h lt e = rw (eq-eqb (key x) k e) refl
  found least (x ∷ xs) (suc i) d k h lt e =
      let above = at_least (key x + 1) xs i d h.1 (omega arith) in
      rw (ne_eqb (key x) k (λ same. absurd (omega (arith, same, above, e)))) (found (key x + 1) xs i d k h.1 (omega arith) e)

  pub missing : (xs : List A) (k : ℕ) → ((i : ℕ) (d : A) → i < length xs → key (get_or xs i d) ≡ k → ⊥) → with_key key xs k ≡ None
  missing [] k h = refl
  missing (x ∷ xs) k h = rw (ne_eqb (key x) k (λ e. h 0 x (omega arith) e)) (missing xs k (λ i d lt e. h (suc i) d (omega arith) e))

  none_at : (least : ℕ) (xs : List A) (k place : ℕ) → Rises key least xs → Splits key xs k place place → (place < length xs → (d : A) → key (get_or xs place d) ≡ k → ⊥) → (i : ℕ) (d : A) → i < length xs → key (get_or xs i d) ≡ k → ⊥
  none_at least xs k place h s other i d lt e = go (cases_lt i place)
    where
      go : (i < place) ⊎ (place ≤ i) → ⊥
      go (inl below) = absurd (omega (arith, s.before i d below, e))
      go (inr from) = other (omega arith) d (omega (arith, rises_to least xs place i d d h from lt, s.behind place d (omega arith) (omega arith), e))

  -- nothing has the key where the place that was found has another
  pub not_found : (least : ℕ) (xs : List A) (k place : ℕ) → Rises key least xs → Splits key xs k place place → (place < length xs → (d : A) → key (get_or xs place d) ≡ k → ⊥) → with_key key xs k ≡ None
  not_found least xs k place h s other = missing xs k (none_at least xs k place h s other)

some_is : (m n : Native) → Some m ≡ Some n → m ≡ n
some_is m n e = cc

-- the code of a native function that is found stands within the code
pub first_within : (t : Turn) (ns : List Native) (fid : ℕ) (n : Native) → Follow NativeFits after_native t ns → native_of ns fid ≡ Some n → n.first ≤ t.place + total_count ns
first_within t [] fid n h e = absurd cc
first_within t (m ∷ ns) fid n h e =
    let tested = λ (b : Bool). cond b (Some m) (native_of ns fid) in
    let others : native_of ns fid ≡ Some n → n.first ≤ (after_native t m).place + total_count ns = λ r. first_within (after_native t m) ns fid n h.1 r in
    elim (cases_eq m.fid fid) [
      | inl same ↦ omega (arith, ap (λ (k : Native). k.first) (some_is m n (sym (ap tested (eq-eqb m.fid fid same)) ∙ e)), h.0.place)
      | inr ne ↦ omega (arith, others (sym (ap tested (ne_eqb m.fid fid ne)) ∙ e), h.0.place)
    ]
