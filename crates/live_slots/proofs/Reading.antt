-- What two states read alike: registers and slots of names in which they agree.
use Rattle.std.proofs.Common.{◌≡◌, ℕ, zero, suc, ◌-◌, ◌<◌, Bool, true, false, ◌&&◌, ◌||◌, List, [], ◌∷◌, Option, Some, None, length, nat_eq, nat_le, nat_lt, slice_get, refl, ap, ◌∙◌, arith}
use Rattle.std.specs.Option.{option_map}
use Rattle.std.proofs.lemmas.Bool.Decides.{nat_tests}
use Rattle.std.proofs.lemmas.Bool.{and_from}
use Rattle.term_tree.proofs.TermLaws.{both_hold}
use Rattle.term_tree.specs.Tree.{Tree}
use Rattle.beam_code.specs.declared.instr.Operand.{Operand}
use Rattle.beam_code.specs.declared.instr.Operand.TheVariants.{X, Y, Int, Atom, Nil, Literal}
use Rattle.beam_code.specs.declared.instr.Place.{Place}
use Rattle.beam_code.specs.declared.instr.Place.TheVariants as place
use Rattle.beam_code.specs.Row.{arguments, kept, read_of, reads_of, slot_term, with_head, x_term, y_term}
use Rattle.beam_code.specs.State.{Local, Slot as State}
use Rattle.beam_code.specs.Uses.{any_names, is_below, names}
use Rattle.live_slots.specs.Agree.{Agree, SameStack}
use Rattle.live_slots.proofs.Slots.{slot_same}
use Rattle.live_slots.specs.Live.{Name, Register, Slot, is_at}
use Rattle.run_laws.specs.Shown.{size_of}

-- ---- tests of places, by names

pub is_at_none : (stack : Option ℕ) (name : Name) → is_at stack (λ q. false) name ≡ false
is_at_none stack (Register n) = refl
is_at_none None (Slot s) = refl
is_at_none (Some size) (Slot s) = by (nat_lt 0 s && nat_le s size)
  where
    by : (b : Bool) → b && false ≡ false
    by true = refl
    by false = refl

pub is_at_or : (stack : Option ℕ) (a b : Place → Bool) (name : Name) → is_at stack a name ≡ false → is_at stack b name ≡ false → is_at stack (λ q. a q || b q) name ≡ false
is_at_or stack a b (Register n) x y = rw (x, y) refl
is_at_or None a b (Slot s) x y = refl
is_at_or (Some size) a b (Slot s) x y = by (nat_lt 0 s && nat_le s size) x y
  where
    by : (g : Bool) → g && a (place.Y (size - s)) ≡ false → g && b (place.Y (size - s)) ≡ false → g && (a (place.Y (size - s)) || b (place.Y (size - s))) ≡ false
    by true x y = rw (x, y) refl
    by false x y = refl

pub is_at_more : (stack : Option ℕ) (a b : Place → Bool) (name : Name) → ((q : Place) → a q ≡ true → b q ≡ true) → is_at stack a name ≡ true → is_at stack b name ≡ true
is_at_more stack a b (Register n) more e = more (place.X n) e
is_at_more None a b (Slot s) more e = absurd cc
is_at_more (Some size) a b (Slot s) more e =
    let h = both_hold (nat_lt 0 s && nat_le s size) (a (place.Y (size - s))) e in
    and_from (nat_lt 0 s && nat_le s size) (b (place.Y (size - s))) h.0 (more (place.Y (size - s)) h.1)

pub or_left : (a b : Bool) → a ≡ true → a || b ≡ true
or_left true b e = refl
or_left false b e = absurd cc

pub or_right : (a b : Bool) → b ≡ true → a || b ≡ true
or_right true b e = refl
or_right false b e = e

-- ---- registers

pub kept_same : (k : ℕ) (xs ys : List (Option Tree)) (n : ℕ) → length xs ≡ length ys → slice_get xs n ≡ slice_get ys n → slice_get (kept k xs) n ≡ slice_get (kept k ys) n
kept_same k [] [] n long e = refl
kept_same zero (x ∷ xs) (y ∷ ys) zero long e = refl
kept_same zero (x ∷ xs) (y ∷ ys) (suc n) long e = kept_same zero xs ys n (omega arith) e
kept_same (suc k) (x ∷ xs) (y ∷ ys) zero long e = e
kept_same (suc k) (x ∷ xs) (y ∷ ys) (suc n) long e = kept_same k xs ys n (omega arith) e
kept_same k [] (y ∷ ys) n long e = absurd (omega arith)
kept_same k (x ∷ xs) [] n long e = absurd (omega arith)

first_same : (x y : Option Tree) → Some x ≡ Some y → x ≡ y
first_same x y e = cc

pub arguments_same : (k : ℕ) (xs ys : List (Option Tree)) → length xs ≡ length ys → ((n : ℕ) → n < k → slice_get xs n ≡ slice_get ys n) → arguments k xs ≡ arguments k ys
arguments_same zero xs ys long same = refl
arguments_same (suc k) [] [] long same = refl
arguments_same (suc k) (x ∷ xs) (y ∷ ys) long same =
    ap (λ o. with_head o (arguments k xs)) (first_same x y (same 0 (omega arith))) ∙ ap (with_head y) (arguments_same k xs ys (omega arith) (λ n low. same (suc n) (omega arith)))
arguments_same (suc k) [] (y ∷ ys) long same = absurd (omega arith)
arguments_same (suc k) (x ∷ xs) [] long same = absurd (omega arith)

-- ---- operands

module _ (A : Name → Type 0) (l m : Local) (agree : Agree A l m) where
  y_same : (n : ℕ) (o q : Option (List State)) → SameStack A o q → ((name : Name) → is_at (option_map size_of o) (names (Y n)) name ≡ true → A name) → y_term o n ≡ y_term q n
  y_same n None None a on = refl
  y_same n (Some ss) (Some ts) a on =
      ap slot_term (slot_same A ss ts n a (λ low. on (Slot (length ss - n)) (here ss low)))
    where
      here : (ss : List State) → n < length ss → (nat_lt 0 (length ss - n) && nat_le (length ss - n) (length ss)) && nat_eq n (length ss - (length ss - n)) ≡ true
      here ss low =
          let some : nat_lt 0 (length ss - n) ≡ true = grind (arith, nat_tests) in
          let few : nat_le (length ss - n) (length ss) ≡ true = grind (arith, nat_tests) in
          let back : length ss - (length ss - n) ≡ n = omega arith in
          let self : nat_eq n (length ss - (length ss - n)) ≡ true = grind (arith, nat_tests) in
          rw (some, few, self) refl
  y_same n None (Some ts) a on = absurd a
  y_same n (Some ss) None a on = absurd a

  pub read_same : (o : Operand) → ((name : Name) → is_at (option_map size_of l.ys) (names o) name ≡ true → A name) → read_of l o ≡ read_of m o
  read_same (X n) on = ap x_term (agree.xs n (on (Register n) (let self : nat_eq n n ≡ true = grind (arith, nat_tests) in self)))
  read_same (Y n) on = y_same n l.ys m.ys agree.ys on
  read_same (Int i) on = refl
  read_same (Atom a) on = refl
  read_same Nil on = refl
  read_same (Literal v) on = refl

  pub reads_same : (os : List Operand) → ((name : Name) → is_at (option_map size_of l.ys) (any_names os) name ≡ true → A name) → reads_of l os ≡ reads_of m os
  reads_same [] on = refl
  reads_same (o ∷ os) on =
      let stack : Option ℕ = option_map size_of l.ys in
      let one = read_same o (λ name e. on name (is_at_more stack (names o) (any_names (o ∷ os)) name (λ q h. or_left (names o q) (any_names os q) h) e)) in
      let rest = reads_same os (λ name e. on name (is_at_more stack (any_names os) (any_names (o ∷ os)) name (λ q h. or_right (names o q) (any_names os q) h) e)) in
      ap (λ x. with_head x (reads_of l os)) one ∙ ap (with_head (read_of m o)) rest

  pub args_same : (k : ℕ) → ((name : Name) → is_at (option_map size_of l.ys) (is_below k) name ≡ true → A name) → arguments k l.xs ≡ arguments k m.xs
  args_same k on = arguments_same k l.xs m.xs agree.wide (λ n low. agree.xs n (on (Register n) (let is : nat_lt n k ≡ true = grind (arith, nat_tests) in is)))
