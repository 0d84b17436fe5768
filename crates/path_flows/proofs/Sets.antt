-- Sets of registers by what they have.
use Rattle.std.proofs.Common.{◌≡◌, ℕ, ◌+◌, ◌-◌, ◌<◌, ◌≤◌, Bool, true, false, ◌&&◌, ◌||◌, not, if◌then◌else◌, refl, ap, sym, subst, ◌∙◌, arith, inl, inr, nat_eq, nat_lt, Option, Some, None, List, [], ◌∷◌}
use Rattle.std.specs.List.{list_any}
use Rattle.std.proofs.lemmas.Bool.Decides.{nat_tests}
use Rattle.std.proofs.lemmas.Bool.{cases_eq, cases_lt}
use Rattle.beam_code.specs.declared.instr.Operand.{Operand}
use Rattle.beam_code.specs.declared.instr.Operand.TheVariants.{X, Y, Int, Atom, Nil, Literal}
use Rattle.beam_code.specs.declared.instr.Place.{Place}
use Rattle.beam_code.specs.declared.instr.Place.TheVariants as place
use Rattle.data_flow.specs.declared.names.Names.{Names}
use Rattle.data_flow.specs.Names.{meet, join, no_names}
use Rattle.path_rules.specs.Registers.{xs_in, ys_in}
use Rattle.path_flows.specs.Sets.{word, names, without, at_slot, x_name, slot_name, y_name, with_places, with_operands}
use Rattle.path_flows.proofs.Bits.{word_same, word_at, word_and, word_or, word_without, word_none, word_apart}

abbrev Test : Type 0
Test = ℕ → Bool

by_words : (x y : Names) → x.a ≡ y.a → x.b ≡ y.b → x.c ≡ y.c → x.d ≡ y.d → x ≡ y
by_words x y a b c d =
    ap (λ q. put q x.b x.c x.d) a ∙ (ap (λ q. put y.a q x.c x.d) b ∙ (ap (λ q. put y.a y.b q x.d) c ∙ ap (λ q. put y.a y.b y.c q) d))
  where
    put : ℕ → ℕ → ℕ → ℕ → Names
    put a b c d = record { a = a; b = b; c = c; d = d }

pub names_same : (f g f' g' : Test) → ((r : ℕ) → r < 256 → f r ≡ f' r) → ((k : ℕ) → k < 256 → g k ≡ g' k) → names f g ≡ names f' g'
unfolding names
names_same f g f' g' h j =
    by_words _ _
    (word_same f f' 0 (λ i l. h (0 + i) (omega arith)))
    (word_same f f' 128 (λ i l. h (128 + i) (omega arith)))
    (word_same g g' 0 (λ i l. j (0 + i) (omega arith)))
    (word_same g g' 128 (λ i l. j (128 + i) (omega arith)))

pub names_meet : (f g f' g' : Test) → meet (names f g) (names f' g') ≡ names (λ r. f r && f' r) (λ k. g k && g' k)
unfolding names meet
names_meet f g f' g' = by_words _ _ (word_and f f' 0) (word_and f f' 128) (word_and g g' 0) (word_and g g' 128)

pub names_join : (f g f' g' : Test) → join (names f g) (names f' g') ≡ names (λ r. f r || f' r) (λ k. g k || g' k)
unfolding names join
names_join f g f' g' = by_words _ _ (word_or f f' 0) (word_or f f' 128) (word_or g g' 0) (word_or g g' 128)

pub names_without : (f g f' g' : Test) → without (names f g) (names f' g') ≡ names (λ r. f r && not (f' r)) (λ k. g k && not (g' k))
unfolding names without
names_without f g f' g' = by_words _ _ (word_without f f' 0) (word_without f f' 128) (word_without g g' 0) (word_without g g' 128)

pub names_none : no_names ≡ names (λ r. false) (λ k. false)
unfolding names
names_none = by_words _ _ (word_none (λ r. false) 0 (λ i l. refl)) (word_none (λ r. false) 128 (λ i l. refl)) (word_none (λ r. false) 0 (λ i l. refl)) (word_none (λ r. false) 128 (λ i l. refl))

-- what is taken away is not there
pub never_both : (s g : Names) → meet g (without s g) ≡ no_names
unfolding meet without
never_both s g = by_words _ _ (word_apart s.a g.a) (word_apart s.b g.b) (word_apart s.c g.c) (word_apart s.d g.d)

-- one name, as the code has it
pub x_name_is : (n a b : ℕ) → a ≡ word (λ i. nat_eq i n) 0 → b ≡ word (λ i. nat_eq i n) 128 → record { a = a; b = b; c = 0; d = 0 } ≡ x_name n
unfolding names
x_name_is n a b p q = by_words _ _ p q (word_none (λ k. false) 0 (λ i l. refl)) (word_none (λ k. false) 128 (λ i l. refl))

pub slot_name_is : (n c d : ℕ) → c ≡ word (λ i. nat_eq i n) 0 → d ≡ word (λ i. nat_eq i n) 128 → record { a = 0; b = 0; c = c; d = d } ≡ slot_name n
unfolding names
slot_name_is n c d p q = by_words _ _ (word_none (λ k. false) 0 (λ i l. refl)) (word_none (λ k. false) 128 (λ i l. refl)) p q

at_both : (f g : Test) → word f 0 ≡ word g 0 → word f 128 ≡ word g 128 → (r : ℕ) → r < 256 → f r ≡ g r
at_both f g a b r h =
    elim (cases_lt r 128) [
      | inl l ↦ (let e : 0 + r ≡ r = omega arith in subst (λ q. f q ≡ g q) e (word_at f g 0 r l a))
      | inr m ↦ (let e : 128 + (r - 128) ≡ r = omega arith in subst (λ q. f q ≡ g q) e (word_at f g 128 (r - 128) (omega arith) b))
    ]

-- what equal sets have
pub x_at : (f g f' g' : Test) → names f g ≡ names f' g' → (r : ℕ) → r < 256 → f r ≡ f' r
unfolding names
x_at f g f' g' e = at_both f f' (ap (λ n. n.a) e) (ap (λ n. n.b) e)

pub slot_at : (f g f' g' : Test) → names f g ≡ names f' g' → (k : ℕ) → k < 256 → g k ≡ g' k
unfolding names
slot_at f g f' g' e = at_both g g' (ap (λ n. n.c) e) (ap (λ n. n.d) e)

-- ---- tests

pub or_none : (b : Bool) → b ≡ (b || false)
or_none true = refl
or_none false = refl

pub or_more : (a b c : Bool) → ((a || b) || c) ≡ (a || (b || c))
or_more true b c = refl
or_more false b c = refl

pub at_slot_or : (stack : Option ℕ) (f g : Test) (k : ℕ) → (at_slot stack f k || at_slot stack g k) ≡ at_slot stack (λ y. f y || g y) k
at_slot_or None f g k = refl
at_slot_or (Some size) f g k = spread (nat_lt k size) (f (size - (k + 1))) (g (size - (k + 1)))
  where
    spread : (a b c : Bool) → ((a && b) || (a && c)) ≡ (a && (b || c))
    spread true b c = refl
    spread false b c = refl

pub at_slot_none : (stack : Option ℕ) (k : ℕ) → at_slot stack (λ y. false) k ≡ false
at_slot_none None k = refl
at_slot_none (Some size) k = no (nat_lt k size)
  where
    no : (b : Bool) → (b && false) ≡ false
    no true = refl
    no false = refl

-- ---- one register

is_slot : (size y k : ℕ) → y < size → nat_eq k (size - (y + 1)) ≡ (nat_lt k size && nat_eq (size - (k + 1)) y)
is_slot size y k h =
    elim (cases_eq k (size - (y + 1))) [
      | inl e ↦
          let a : nat_eq k (size - (y + 1)) ≡ true = grind (arith, nat_tests) in
          let low : k < size = omega arith in
          let at : size - (k + 1) ≡ y = omega arith in
          let b : nat_lt k size ≡ true = grind (arith, nat_tests) in
          let c : nat_eq (size - (k + 1)) y ≡ true = grind (arith, nat_tests) in
          a ∙ sym (ap (λ t. t && nat_eq (size - (k + 1)) y) b ∙ c)
      | inr o ↦
          let a : nat_eq k (size - (y + 1)) ≡ false = grind (arith, nat_tests) in
          a ∙ sym (elim (cases_lt k size) [
            | inl low ↦
                let away : size - (k + 1) ≡ y → ⊥ = λ e. o (omega arith) in
                let b : nat_lt k size ≡ true = grind (arith, nat_tests) in
                let c : nat_eq (size - (k + 1)) y ≡ false = other (size - (k + 1)) y away in
                ap (λ t. t && nat_eq (size - (k + 1)) y) b ∙ c
            | inr past ↦
                let b : nat_lt k size ≡ false = grind (arith, nat_tests) in
                ap (λ t. t && nat_eq (size - (k + 1)) y) b
          ])
    ]
  where
    other : (m n : ℕ) → (m ≡ n → ⊥) → nat_eq m n ≡ false
    other m n e = elim (cases_eq m n) [ inl s ↦ absurd (e s) | inr s ↦ grind (arith, nat_tests) ]

not_slot : (size y k : ℕ) → size ≤ y → false ≡ (nat_lt k size && nat_eq (size - (k + 1)) y)
not_slot size y k h =
    elim (cases_lt k size) [
      | inl low ↦
          let away : nat_eq (size - (k + 1)) y ≡ false = (let o : size - (k + 1) < y = omega arith in grind (arith, nat_tests)) in
          let b : nat_lt k size ≡ true = grind (arith, nat_tests) in
          sym (ap (λ t. t && nat_eq (size - (k + 1)) y) b ∙ away)
      | inr past ↦ (let b : nat_lt k size ≡ false = grind (arith, nat_tests) in sym (ap (λ t. t && nat_eq (size - (k + 1)) y) b))
    ]

pub y_name_is : (stack : Option ℕ) (y : ℕ) → y_name stack y ≡ names (λ r. false) (at_slot stack (λ i. nat_eq i y))
y_name_is None y = names_none
y_name_is (Some size) y =
    elim (cases_lt y size) [
      | inl low ↦
          let b : nat_lt y size ≡ true = grind (arith, nat_tests) in
          ap (λ t. if t then slot_name (size - (y + 1)) else no_names) b
          ∙ names_same (λ r. false) (λ k. nat_eq k (size - (y + 1))) (λ r. false) (at_slot (Some size) (λ i. nat_eq i y)) (λ r l. refl) (λ k l. is_slot size y k low)
      | inr past ↦
          let b : nat_lt y size ≡ false = grind (arith, nat_tests) in
          ap (λ t. if t then slot_name (size - (y + 1)) else no_names) b
          ∙ (names_none ∙ names_same (λ r. false) (λ k. false) (λ r. false) (at_slot (Some size) (λ i. nat_eq i y)) (λ r l. refl) (λ k l. not_slot size y k past))
    ]

-- ---- several registers

abbrev pub is_in : List ℕ → ℕ → Bool
is_in ns n = list_any (λ m. nat_eq n m) ns

join_x : (f g : Test) (n : ℕ) → join (names f g) (x_name n) ≡ names (λ r. f r || nat_eq r n) g
join_x f g n =
    names_join f g (λ r. nat_eq r n) (λ k. false)
    ∙ names_same (λ r. f r || nat_eq r n) (λ k. g k || false) (λ r. f r || nat_eq r n) g (λ r l. refl) (λ k l. sym (or_none (g k)))

join_y : (stack : Option ℕ) (f g : Test) (y : ℕ) → join (names f g) (y_name stack y) ≡ names f (λ k. g k || at_slot stack (λ i. nat_eq i y) k)
join_y stack f g y =
    ap (λ q. join (names f g) q) (y_name_is stack y)
    ∙ (names_join f g (λ r. false) (at_slot stack (λ i. nat_eq i y))
    ∙ names_same (λ r. f r || false) (λ k. g k || at_slot stack (λ i. nat_eq i y) k) f (λ k. g k || at_slot stack (λ i. nat_eq i y) k) (λ r l. sym (or_none (f r))) (λ k l. refl))

join_none : (f g : Test) → join (names f g) no_names ≡ names f g
join_none f g =
    ap (λ q. join (names f g) q) names_none
    ∙ (names_join f g (λ r. false) (λ k. false) ∙ names_same (λ r. f r || false) (λ k. g k || false) f g (λ r l. sym (or_none (f r))) (λ k l. sym (or_none (g k))))

-- one slot, and more
more_slots : (stack : Option ℕ) (g : Test) (f h : Test) (k : ℕ) → ((g k || at_slot stack f k) || at_slot stack h k) ≡ (g k || at_slot stack (λ i. f i || h i) k)
more_slots stack g f h k = or_more (g k) (at_slot stack f k) (at_slot stack h k) ∙ ap (λ t. g k || t) (at_slot_or stack f h k)

no_more : (stack : Option ℕ) (g : Test) (k : ℕ) → g k ≡ (g k || at_slot stack (λ i. false) k)
no_more stack g k = or_none (g k) ∙ ap (λ t. g k || t) (sym (at_slot_none stack k))

pub places_are : (stack : Option ℕ) (ps : List Place) (f g : Test) → with_places stack ps (names f g) ≡ names (λ r. f r || is_in (xs_in ps) r) (λ k. g k || at_slot stack (is_in (ys_in ps)) k)
places_are stack [] f g = names_same f g (λ r. f r || false) (λ k. g k || at_slot stack (λ i. false) k) (λ r l. or_none (f r)) (λ k l. no_more stack g k)
places_are stack (place.X n ∷ ps) f g =
    ap (with_places stack ps) (join_x f g n)
    ∙ (places_are stack ps (λ r. f r || nat_eq r n) g
    ∙ names_same (λ r. (f r || nat_eq r n) || is_in (xs_in ps) r) (λ k. g k || at_slot stack (is_in (ys_in ps)) k) (λ r. f r || (nat_eq r n || is_in (xs_in ps) r)) (λ k. g k || at_slot stack (is_in (ys_in ps)) k)
    (λ r l. or_more (f r) (nat_eq r n) (is_in (xs_in ps) r)) (λ k l. refl))
places_are stack (place.Y y ∷ ps) f g =
    ap (with_places stack ps) (join_y stack f g y)
    ∙ (places_are stack ps f (λ k. g k || at_slot stack (λ i. nat_eq i y) k)
    ∙ names_same (λ r. f r || is_in (xs_in ps) r) (λ k. (g k || at_slot stack (λ i. nat_eq i y) k) || at_slot stack (is_in (ys_in ps)) k) (λ r. f r || is_in (xs_in ps) r) (λ k. g k || at_slot stack (λ i. nat_eq i y || is_in (ys_in ps) i) k)
    (λ r l. refl) (λ k l. more_slots stack g (λ i. nat_eq i y) (is_in (ys_in ps)) k))

abbrev pub is_x : ℕ → Operand → Bool
is_x r (X n) = nat_eq r n
is_x r _ = false

abbrev pub is_y : ℕ → Operand → Bool
is_y i (Y n) = nat_eq i n
is_y i _ = false

-- whether an x register, or a y register, is among these
abbrev pub reads_x : List Operand → ℕ → Bool
reads_x os r = list_any (is_x r) os

abbrev pub reads_y : List Operand → ℕ → Bool
reads_y os i = list_any (is_y i) os

pub operands_are : (stack : Option ℕ) (os : List Operand) (f g : Test) → with_operands stack os (names f g) ≡ names (λ r. f r || reads_x os r) (λ k. g k || at_slot stack (reads_y os) k)
operands_are stack [] f g = names_same f g (λ r. f r || false) (λ k. g k || at_slot stack (λ i. false) k) (λ r l. or_none (f r)) (λ k l. no_more stack g k)
operands_are stack (X n ∷ os) f g =
    ap (with_operands stack os) (join_x f g n)
    ∙ (operands_are stack os (λ r. f r || nat_eq r n) g
    ∙ names_same (λ r. (f r || nat_eq r n) || reads_x os r) (λ k. g k || at_slot stack (reads_y os) k) (λ r. f r || (nat_eq r n || reads_x os r)) (λ k. g k || at_slot stack (reads_y os) k)
    (λ r l. or_more (f r) (nat_eq r n) (reads_x os r)) (λ k l. refl))
operands_are stack (Y y ∷ os) f g =
    ap (with_operands stack os) (join_y stack f g y)
    ∙ (operands_are stack os f (λ k. g k || at_slot stack (λ i. nat_eq i y) k)
    ∙ names_same (λ r. f r || reads_x os r) (λ k. (g k || at_slot stack (λ i. nat_eq i y) k) || at_slot stack (reads_y os) k) (λ r. f r || reads_x os r) (λ k. g k || at_slot stack (λ i. nat_eq i y || reads_y os i) k)
    (λ r l. refl) (λ k l. more_slots stack g (λ i. nat_eq i y) (reads_y os) k))
operands_are stack (Int n ∷ os) f g = ap (with_operands stack os) (join_none f g) ∙ operands_are stack os f g
operands_are stack (Atom n ∷ os) f g = ap (with_operands stack os) (join_none f g) ∙ operands_are stack os f g
operands_are stack (Nil ∷ os) f g = ap (with_operands stack os) (join_none f g) ∙ operands_are stack os f g
operands_are stack (Literal n ∷ os) f g = ap (with_operands stack os) (join_none f g) ∙ operands_are stack os f g
