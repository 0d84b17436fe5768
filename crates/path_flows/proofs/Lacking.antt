-- A path lacks a name that is read just where it reads a register that it did not define.
use Rattle.std.proofs.Common.{◌≡◌, inl, inr, ℕ, zero, suc, ◌+◌, ◌-◌, ◌<◌, Bool, true, false, ◌&&◌, ◌||◌, Option, Some, None, List, [], ◌∷◌, nat_eq, nat_lt, refl, ap, sym, ◌∙◌, arith}
use Rattle.std.specs.List.{list_all}
use Rattle.std.proofs.lemmas.Bool.{cases_Bool, cases_lt}
use Rattle.std.proofs.lemmas.Bool.Decides.{nat_tests}
use Rattle.std.proofs.lemmas.List.Folds.{list_all-append, list_any-append}
use Rattle.beam_code.specs.declared.instr.Operand.{Operand}
use Rattle.beam_code.specs.declared.instr.Operand.TheVariants.{X, Y, Int, Atom, Nil, Literal}
use Rattle.beam_code.specs.Shape.{Shape}
use Rattle.data_flow.specs.declared.names.Names.{Names}
use Rattle.data_flow.specs.Names.{meet, same}
use Rattle.data_flow.proofs.Sets.{same_is, same_self}
use Rattle.path_rules.specs.Ranges.{operand_in_range}
use Rattle.path_rules.specs.Registers.{first_xs, implied_xs, operand_passes, operands_of, reads_of}
use Rattle.path_rules.specs.Rules.{is_defined, is_in_stack}
use Rattle.path_flows.specs.FlowOf.{read_names}
use Rattle.path_flows.specs.Sets.{at_slot, names}
use Rattle.path_flows.proofs.Moved.{IsLow, has, held}
use Rattle.path_flows.proofs.Sets.{is_x, is_y, names_meet, names_same, operands_are, or_none, reads_x, reads_y, slot_at, x_at}

-- ---- tests

both : (a b : Bool) → (a && b) ≡ true → (a ≡ true) × (b ≡ true)
both true b h = (refl, h)
both false b h = absurd cc

and_yes : (a b : Bool) → a ≡ true → b ≡ true → (a && b) ≡ true
and_yes true b h j = j
and_yes false b h j = absurd cc

or_first : (a b : Bool) → a ≡ true → (a || b) ≡ true
or_first true b h = refl
or_first false b h = absurd cc

or_second : (a b : Bool) → b ≡ true → (a || b) ≡ true
or_second true b h = refl
or_second false b h = h

implied : (a b : Bool) → (a && b) ≡ a → a ≡ true → b ≡ true
implied true b e h = e
implied false b e h = absurd cc

implies : (a b : Bool) → (a ≡ true → b ≡ true) → (a && b) ≡ a
implies true b h = h refl
implies false b h = refl

same_by : (a b : Bool) → (a ≡ true → b ≡ true) → (b ≡ true → a ≡ true) → a ≡ b
same_by true b h j = sym (h refl)
same_by false true h j = j refl
same_by false false h j = refl

eq_self : (n : ℕ) → nat_eq n n ≡ true
eq_self n = grind (arith, nat_tests)

eq_is : (m n : ℕ) → nat_eq m n ≡ true → m ≡ n
eq_is m n e = grind (arith, nat_tests)

lt_is : (m n : ℕ) → nat_lt m n ≡ true → m < n
lt_is m n e = grind (arith, nat_tests)

lt_yes : (m n : ℕ) → m < n → nat_lt m n ≡ true
lt_yes m n e = grind (arith, nat_tests)

lt_none : (k : ℕ) → nat_lt k 0 ≡ false
lt_none k = grind (arith, nat_tests)

lt_more : (r n : ℕ) → (nat_eq r n || nat_lt r n) ≡ nat_lt r (suc n)
lt_more r n = same_by (nat_eq r n || nat_lt r n) (nat_lt r (suc n)) (λ t. lt_yes r (suc n) (low t)) (λ t. (let l : r < suc n = lt_is r (suc n) t in high l))
  where
    low : (nat_eq r n || nat_lt r n) ≡ true → r < suc n
    low t = elim (cases_Bool (nat_eq r n)) [
      | inl e ↦ (let s : r ≡ n = eq_is r n e in omega arith)
      | inr e ↦ (let s : r < n = lt_is r n (sym (ap (λ b. b || nat_lt r n) e) ∙ t) in omega arith)
    ]

    high : r < suc n → (nat_eq r n || nat_lt r n) ≡ true
    high l = elim (cases_lt r n) [
      | inl s ↦ or_second (nat_eq r n) (nat_lt r n) (lt_yes r n s)
      | inr s ↦ or_first (nat_eq r n) (nat_lt r n) (let e : r ≡ n = omega arith in ap (λ m. nat_eq r m) (sym e) ∙ eq_self r)
    ]

-- ---- what is read

first_x : (n r : ℕ) → reads_x (first_xs n) r ≡ nat_lt r n
first_x zero r = sym (lt_none r)
first_x (suc n) r = ap (λ t. nat_eq r n || t) (first_x n r) ∙ lt_more r n

first_y : (n i : ℕ) → reads_y (first_xs n) i ≡ false
first_y zero i = refl
first_y (suc n) i = first_y n i

swap : (a b : Bool) → (a || b) ≡ (b || a)
swap true true = refl
swap true false = refl
swap false true = refl
swap false false = refl

module _ (stack : Option ℕ) (shape : Shape) where
  abbrev n : ℕ
  n = implied_xs shape

  abbrev os : List Operand
  os = operands_of shape

  y_same : (i : ℕ) → reads_y os i ≡ reads_y (reads_of shape) i
  y_same i = or_none (reads_y os i) ∙ (ap (λ t. reads_y os i || t) (sym (first_y n i)) ∙ sym (list_any-append (is_y i) os (first_xs n)))

  slots_read : (stack : Option ℕ) (k : ℕ) → at_slot stack (reads_y os) k ≡ at_slot stack (reads_y (reads_of shape)) k
  slots_read None k = refl
  slots_read (Some size) k = ap (λ t. nat_lt k size && t) (y_same (size - (k + 1)))

  pub reads_are : read_names stack shape ≡ names (reads_x (reads_of shape)) (at_slot stack (reads_y (reads_of shape)))
  reads_are =
      operands_are stack os (λ r. nat_lt r n) (λ k. nat_lt k 0)
      ∙ names_same (λ r. nat_lt r n || reads_x os r) (λ k. nat_lt k 0 || at_slot stack (reads_y os) k) (reads_x (reads_of shape)) (at_slot stack (reads_y (reads_of shape)))
      (λ r l. swap (nat_lt r n) (reads_x os r) ∙ (ap (λ t. reads_x os r || t) (sym (first_x n r)) ∙ sym (list_any-append (is_x r) os (first_xs n))))
      (λ k l. ap (λ t. t || at_slot stack (reads_y os) k) (lt_none k) ∙ slots_read stack k)

-- ---- each operand is defined

module _ (stack : Option ℕ) (xs ys : List Bool) where
  abbrev XsThere : List Operand → Type 0
  XsThere os = (r : ℕ) → r < 256 → reads_x os r ≡ true → has xs r ≡ true

  abbrev YsThere : List Operand → Type 0
  YsThere os = (i : ℕ) → is_in_stack stack i ≡ true → reads_y os i ≡ true → has ys i ≡ true

  -- those that are read are there, so each operand is defined
  all_defined : (os : List Operand) → list_all operand_in_range os ≡ true → list_all (operand_passes (is_in_stack stack)) os ≡ true → XsThere os → YsThere os → list_all (is_defined xs ys) os ≡ true
  all_defined [] range stacked x y = refl
  all_defined (X n ∷ os) range stacked x y =
      let h = both (nat_lt n 256) (list_all operand_in_range os) range in
      and_yes (has xs n) (list_all (is_defined xs ys) os) (x n (lt_is n 256 h.0) (or_first (nat_eq n n) (reads_x os n) (eq_self n)))
      (all_defined os h.1 stacked (λ r l t. x r l (or_second (nat_eq r n) (reads_x os r) t)) y)
  all_defined (Y n ∷ os) range stacked x y =
      let h = both (is_in_stack stack n) (list_all (operand_passes (is_in_stack stack)) os) stacked in
      and_yes (has ys n) (list_all (is_defined xs ys) os) (y n h.0 (or_first (nat_eq n n) (reads_y os n) (eq_self n)))
      (all_defined os range h.1 x (λ i l t. y i l (or_second (nat_eq i n) (reads_y os i) t)))
  all_defined (Int n ∷ os) range stacked x y = all_defined os range stacked x y
  all_defined (Atom n ∷ os) range stacked x y = all_defined os range stacked x y
  all_defined (Nil ∷ os) range stacked x y = all_defined os range stacked x y
  all_defined (Literal n ∷ os) range stacked x y = all_defined os range stacked x y

  -- each operand is defined, so those that are read are there
  x_there : (os : List Operand) → list_all (is_defined xs ys) os ≡ true → (r : ℕ) → reads_x os r ≡ true → has xs r ≡ true
  x_there [] all r t = absurd cc
  x_there (X n ∷ os) all r t =
      let h = both (has xs n) (list_all (is_defined xs ys) os) all in
      elim (cases_Bool (nat_eq r n)) [
        | inl e ↦ ap (has xs) (eq_is r n e) ∙ h.0
        | inr e ↦ x_there os h.1 r (sym (ap (λ b. b || reads_x os r) e) ∙ t)
      ]
  x_there (Y n ∷ os) all r t = x_there os (both (has ys n) (list_all (is_defined xs ys) os) all).1 r t
  x_there (Int n ∷ os) all r t = x_there os all r t
  x_there (Atom n ∷ os) all r t = x_there os all r t
  x_there (Nil ∷ os) all r t = x_there os all r t
  x_there (Literal n ∷ os) all r t = x_there os all r t

  y_there : (os : List Operand) → list_all (is_defined xs ys) os ≡ true → (i : ℕ) → reads_y os i ≡ true → has ys i ≡ true
  y_there [] all i t = absurd cc
  y_there (X n ∷ os) all i t = y_there os (both (has xs n) (list_all (is_defined xs ys) os) all).1 i t
  y_there (Y n ∷ os) all i t =
      let h = both (has ys n) (list_all (is_defined xs ys) os) all in
      elim (cases_Bool (nat_eq i n)) [
        | inl e ↦ ap (has ys) (eq_is i n e) ∙ h.0
        | inr e ↦ y_there os h.1 i (sym (ap (λ b. b || reads_y os i) e) ∙ t)
      ]
  y_there (Int n ∷ os) all i t = y_there os all i t
  y_there (Atom n ∷ os) all i t = y_there os all i t
  y_there (Nil ∷ os) all i t = y_there os all i t
  y_there (Literal n ∷ os) all i t = y_there os all i t

-- a y register of the stack has a slot
slot_there : (stack : Option ℕ) (f g : ℕ → Bool) → IsLow stack → ((k : ℕ) → k < 256 → (at_slot stack f k && at_slot stack g k) ≡ at_slot stack f k) → (i : ℕ) → is_in_stack stack i ≡ true → f i ≡ true → g i ≡ true
slot_there None f g low h i l t = absurd cc
slot_there (Some size) f g low h i l t =
    let in_size : i < size = lt_is i size l in
    let k = size - (i + 1) in
    let at : size - (k + 1) ≡ i = omega arith in
    let k_low : nat_lt k size ≡ true = lt_yes k size (omega arith) in
    let there : at_slot (Some size) f k ≡ true = and_yes (nat_lt k size) (f (size - (k + 1))) k_low (ap f at ∙ t) in
    let also = implied (at_slot (Some size) f k) (at_slot (Some size) g k) (h k (omega arith)) there in
    ap g (sym at) ∙ (both (nat_lt k size) (g (size - (k + 1))) also).1

slot_implies : (stack : Option ℕ) (f g : ℕ → Bool) (k : ℕ) → ((i : ℕ) → f i ≡ true → g i ≡ true) → (at_slot stack f k && at_slot stack g k) ≡ at_slot stack f k
slot_implies None f g k h = refl
slot_implies (Some size) f g k h = within (nat_lt k size) (f (size - (k + 1))) (g (size - (k + 1))) (h (size - (k + 1)))
  where
    within : (a b c : Bool) → (b ≡ true → c ≡ true) → ((a && b) && (a && c)) ≡ (a && b)
    within true b c h = implies b c h
    within false b c h = refl

module _ (stack : Option ℕ) (xs ys : List Bool) (low : IsLow stack) (os : List Operand) (range : list_all operand_in_range os ≡ true) (stacked : list_all (operand_passes (is_in_stack stack)) os ≡ true) where
  abbrev read : Names
  read = names (reads_x os) (at_slot stack (reads_y os))

  abbrev there : Names
  there = names (has xs) (held stack ys)

  met : meet read there ≡ names (λ r. reads_x os r && has xs r) (λ k. at_slot stack (reads_y os) k && held stack ys k)
  met = names_meet (reads_x os) (at_slot stack (reads_y os)) (has xs) (held stack ys)

  has_all : meet read there ≡ read → list_all (is_defined xs ys) os ≡ true
  has_all e =
      let same_sets = sym met ∙ e in
      all_defined stack xs ys os range stacked
      (λ r l t. implied (reads_x os r) (has xs r) (x_at (λ r. reads_x os r && has xs r) (λ k. at_slot stack (reads_y os) k && held stack ys k) (reads_x os) (at_slot stack (reads_y os)) same_sets r l) t)
      (slot_there stack (reads_y os) (has ys) low (slot_at (λ r. reads_x os r && has xs r) (λ k. at_slot stack (reads_y os) k && held stack ys k) (reads_x os) (at_slot stack (reads_y os)) same_sets))

  all_met : list_all (is_defined xs ys) os ≡ true → meet read there ≡ read
  all_met all =
      met ∙ names_same (λ r. reads_x os r && has xs r) (λ k. at_slot stack (reads_y os) k && held stack ys k) (reads_x os) (at_slot stack (reads_y os))
      (λ r l. implies (reads_x os r) (has xs r) (λ t. x_there stack xs ys os all r t))
      (λ k l. slot_implies stack (reads_y os) (has ys) k (λ i t. y_there stack xs ys os all i t))

  pub same_defined : same (meet read there) read ≡ list_all (is_defined xs ys) os
  same_defined =
      same_by (same (meet read there) read) (list_all (is_defined xs ys) os)
      (λ t. has_all (same_is (meet read there) read t))
      (λ all. ap (λ s. same s read) (all_met all) ∙ same_self read)

-- the operands of what is read unnamed are none of a stack
first_stacked : (stack : Option ℕ) (n : ℕ) → list_all (operand_passes (is_in_stack stack)) (first_xs n) ≡ true
first_stacked stack zero = refl
first_stacked stack (suc n) = first_stacked stack n

pub all_stacked : (stack : Option ℕ) (shape : Shape) → list_all (operand_passes (is_in_stack stack)) (operands_of shape) ≡ true → list_all (operand_passes (is_in_stack stack)) (reads_of shape) ≡ true
all_stacked stack shape h =
    list_all-append (operand_passes (is_in_stack stack)) (operands_of shape) (first_xs (implied_xs shape))
    ∙ and_yes (list_all (operand_passes (is_in_stack stack)) (operands_of shape)) (list_all (operand_passes (is_in_stack stack)) (first_xs (implied_xs shape))) h (first_stacked stack (implied_xs shape))
