-- What an item does to registers and heap words, by its shape.
use Rattle.std.proofs.Common.{◌≡◌, ◌≢◌, ℕ, zero, suc, ◌+◌, ◌-◌, ◌<◌, ◌≤◌, Bool, true, false, ◌&&◌, ◌||◌, not, refl, ap, sym, ◌∙◌, arith, inl, inr, nat_eq, nat_lt, Option, Some, None, List, [], ◌∷◌, ◌++◌, length, get_or, drop, replicate}
use Rattle.std.specs.Prelude.{slice_set, option_map}
use Rattle.std.proofs.lemmas.Bool.Decides.{nat_tests}
use Rattle.std.proofs.lemmas.Bool.{cases_eq, cases_lt}
use Rattle.std.proofs.lemmas.List.{get_or-set_other, get_or-set_same, length-set, length-append, length-replicate, get_or-drop, length-drop}
use Rattle.beam_code.specs.Shape.{Shape, Passes, Moves, Swaps, Conses, Tuples, Tests, Selects, Jumps, Stacks, Tags, Computes, Calls, Returns, Raises, StackOp, Allocates, Asks, Trims, Frees, Clears, Tries, Catches, TryEnds, TryHandles, CatchEnds}
use Rattle.data_flow.specs.Flow.{changed}
use Rattle.path_rules.specs.Points.{covered_behind, defined, first_defined, kept_below, none_defined, stack_behind, undefined, xs_behind, ys_behind}
use Rattle.path_rules.specs.Ranges.{allocated}
use Rattle.path_rules.specs.Registers.{cell_words, places_of, tag_y, xs_in, ys_in}
use Rattle.path_flows.specs.Sets.{at_slot}
use Rattle.path_flows.specs.Ways.{change_of, gained, kept_slots, kept_xs, left_slots, lost}
use Rattle.path_flows.proofs.Sets.{at_slot_none, at_slot_or, is_in, or_more, or_none}

-- what a path has behind, of what it had: what is kept and not lost, and what is gained
abbrev pub after : Bool → Bool → Bool → Bool → Bool
after had kept lost gained = ((had && kept) && not lost) || gained

abbrev pub has : List Bool → ℕ → Bool
has registers n = get_or registers n false

-- a stack has no more slots than there are names
abbrev pub IsLow : Option ℕ → Type 0
IsLow None = Unit {0}
IsLow (Some size) = size ≤ 256

-- ---- tests

eq_self : (m n : ℕ) → m ≡ n → nat_eq m n ≡ true
eq_self m n e = grind (arith, nat_tests)

eq_other : (m n : ℕ) → m ≢ n → nat_eq m n ≡ false
eq_other m n e = grind (arith, nat_tests)

lt_yes : (m n : ℕ) → m < n → nat_lt m n ≡ true
lt_yes m n e = grind (arith, nat_tests)

lt_no : (m n : ℕ) → n ≤ m → nat_lt m n ≡ false
lt_no m n e = grind (arith, nat_tests)

lt_suc : (m n : ℕ) → nat_lt (suc m) (suc n) ≡ nat_lt m n
lt_suc m n = grind (arith, nat_tests)

only_gains : (b t g : Bool) → t ≡ true → (b || g) ≡ after b t false g
only_gains true t g e = sym (ap (λ q. ((true && q) && true) || g) e)
only_gains false t g e = refl

only_keeps : (b t : Bool) → (b && t) ≡ after b t false false
only_keeps true true = refl
only_keeps true false = refl
only_keeps false t = refl

keeps_and_gains : (b t g : Bool) → ((b && t) || g) ≡ after b t false g
keeps_and_gains true true g = refl
keeps_and_gains true false g = refl
keeps_and_gains false t g = refl

pub stays : (b t : Bool) → t ≡ true → b ≡ after b t false false
stays true t e = sym (ap (λ q. ((true && q) && true) || false) e)
stays false t e = refl

all_new : (b t g : Bool) → t ≡ false → g ≡ after b t false g
all_new true t g e = sym (ap (λ q. ((true && q) && true) || g) e)
all_new false t g e = refl

only_loses : (b t l : Bool) → t ≡ true → (b && not l) ≡ after b t l false
only_loses true t true e = sym (ap (λ q. ((true && q) && false) || false) e)
only_loses true t false e = sym (ap (λ q. ((true && q) && true) || false) e)
only_loses false t l e = refl

-- ---- lists of registers

set_at : (xs : List Bool) (n r : ℕ) → r < length xs → has (slice_set xs n true) r ≡ (has xs r || nat_eq r n)
set_at xs n r low =
    elim (cases_eq r n) [
      | inl e ↦ ap (has (slice_set xs n true)) e ∙ (get_or-set_same xs n true false (omega arith) ∙ sym (ap (λ t. has xs r || t) (eq_self r n e) ∙ yes (has xs r)))
      | inr o ↦ get_or-set_other xs n r true false o ∙ (or_none (has xs r) ∙ ap (λ t. has xs r || t) (sym (eq_other r n o)))
    ]
  where
    yes : (b : Bool) → (b || true) ≡ true
    yes true = refl
    yes false = refl

unset_at : (ys : List Bool) (n r : ℕ) → r < length ys → has (undefined n ys) r ≡ (has ys r && not (nat_eq r n))
unset_at ys n r low =
    elim (cases_eq r n) [
      | inl e ↦ ap (has (slice_set ys n false)) e ∙ (get_or-set_same ys n false false (omega arith) ∙ sym (ap (λ t. has ys r && not t) (eq_self r n e) ∙ no (has ys r)))
      | inr o ↦ get_or-set_other ys n r false false o ∙ sym (ap (λ t. has ys r && not t) (eq_other r n o) ∙ and_yes (has ys r))
    ]
  where
    no : (b : Bool) → (b && false) ≡ false
    no true = refl
    no false = refl

    and_yes : (b : Bool) → (b && true) ≡ b
    and_yes true = refl
    and_yes false = refl

length_defined : (ns : List ℕ) (xs : List Bool) → length (defined ns xs) ≡ length xs
length_defined [] xs = refl
length_defined (n ∷ ns) xs = length_defined ns (slice_set xs n true) ∙ length-set xs n true

defined_at : (ns : List ℕ) (xs : List Bool) (r : ℕ) → r < length xs → has (defined ns xs) r ≡ (has xs r || is_in ns r)
defined_at [] xs r low = or_none (has xs r)
defined_at (n ∷ ns) xs r low =
    defined_at ns (slice_set xs n true) r (let e = length-set xs n true in omega arith)
    ∙ (ap (λ t. t || is_in ns r) (set_at xs n r low) ∙ or_more (has xs r) (nat_eq r n) (is_in ns r))

length_kept : (n : ℕ) (xs : List Bool) → length (kept_below n xs) ≡ length xs
length_kept n [] = refl
length_kept zero (x ∷ xs) = ap suc (length_kept zero xs)
length_kept (suc n) (x ∷ xs) = ap suc (length_kept n xs)

kept_at : (n : ℕ) (xs : List Bool) (r : ℕ) → has (kept_below n xs) r ≡ (has xs r && nat_lt r n)
kept_at n [] r = refl
kept_at zero (x ∷ xs) zero = no x
  where
    no : (b : Bool) → false ≡ (b && false)
    no true = refl
    no false = refl
kept_at zero (x ∷ xs) (suc r) = kept_at zero xs r ∙ ap (λ t. has xs r && t) (lt_no r 0 (omega arith) ∙ sym (lt_no (suc r) 0 (omega arith)))
kept_at (suc n) (x ∷ xs) zero = sym (ap (λ t. x && t) (lt_yes 0 (suc n) (omega arith)) ∙ yes x)
  where
    yes : (b : Bool) → (b && true) ≡ b
    yes true = refl
    yes false = refl
kept_at (suc n) (x ∷ xs) (suc r) = kept_at n xs r ∙ ap (λ t. has xs r && t) (sym (lt_suc r n))

none_at : (n r : ℕ) → has (none_defined n) r ≡ false
none_at zero r = refl
none_at (suc n) zero = refl
none_at (suc n) (suc r) = none_at n r

pub first_at : (n m r : ℕ) → has (replicate n true ++ none_defined m) r ≡ nat_lt r n
first_at zero m r = none_at m r ∙ sym (lt_no r 0 (omega arith))
first_at (suc n) m zero = sym (lt_yes 0 (suc n) (omega arith))
first_at (suc n) m (suc r) = first_at n m r ∙ sym (lt_suc r n)

pub length_first : (n : ℕ) → 256 ≤ length (first_defined n 256)
length_first n = let a = length-append (replicate n true) (none_defined (256 - n)) in let b = length-replicate n true in let c = length-replicate (256 - n) false in omega arith

padded : (ys : List Bool) (n i : ℕ) → has (ys ++ none_defined n) i ≡ has ys i
padded [] n i = none_at n i
padded (y ∷ ys) n zero = refl
padded (y ∷ ys) n (suc i) = padded ys n i

trimmed_at : (ys : List Bool) (n i : ℕ) → has (drop n ys ++ none_defined n) i ≡ has ys (n + i)
trimmed_at ys n i = padded (drop n ys) n i ∙ get_or-drop n ys i false

-- ---- x registers

gains_xs : (ns : List ℕ) (xs : List Bool) (r : ℕ) → r < 256 → 256 ≤ length xs → has (defined ns xs) r ≡ after (has xs r) (nat_lt r 256) false (is_in ns r)
gains_xs ns xs r low long = defined_at ns xs r (omega arith) ∙ only_gains (has xs r) (nat_lt r 256) (is_in ns r) (lt_yes r 256 low)

keeps_xs : (n : ℕ) (xs : List Bool) (r : ℕ) → has (kept_below n xs) r ≡ after (has xs r) (nat_lt r n) false false
keeps_xs n xs r = kept_at n xs r ∙ only_keeps (has xs r) (nat_lt r n)

same_xs : (xs : List Bool) (r : ℕ) → r < 256 → has xs r ≡ after (has xs r) (nat_lt r 256) false false
same_xs xs r low = stays (has xs r) (nat_lt r 256) (lt_yes r 256 low)

answer_xs : (xs : List Bool) (r : ℕ) → has (first_defined 1 256) r ≡ after (has xs r) (nat_lt r 0) false (is_in (0 ∷ []) r)
answer_xs xs r = first_at 1 255 r ∙ (first r ∙ all_new (has xs r) (nat_lt r 0) (nat_eq r 0 || false) (lt_no r 0 (omega arith)))
  where
    first : (r : ℕ) → nat_lt r 1 ≡ (nat_eq r 0 || false)
    first r = elim (cases_eq r 0) [
      | inl e ↦ lt_yes r 1 (omega arith) ∙ sym (ap (λ t. t || false) (eq_self r 0 e))
      | inr o ↦ lt_no r 1 (omega arith) ∙ sym (ap (λ t. t || false) (eq_other r 0 o))
    ]

pub xs_are : (shape : Shape) (xs : List Bool) (r : ℕ) → r < 256 → 256 ≤ length xs → has (xs_behind shape xs) r ≡ after (has xs r) (nat_lt r (kept_xs shape)) false (is_in (xs_in (gained shape)) r)
xs_are (Stacks (Allocates n need live)) xs r low long = keeps_xs live xs r
xs_are (Stacks (Asks need live)) xs r low long = keeps_xs live xs r
xs_are (Stacks (Trims n rest)) xs r low long = same_xs xs r low
xs_are (Stacks (Frees n)) xs r low long = same_xs xs r low
xs_are (Stacks (Clears y)) xs r low long = same_xs xs r low
xs_are (Tags (Tries y label)) xs r low long = same_xs xs r low
xs_are (Tags (Catches y label)) xs r low long = same_xs xs r low
xs_are (Tags (TryEnds y)) xs r low long = same_xs xs r low
xs_are (Tags (TryHandles y)) xs r low long = same_xs xs r low
xs_are (Tags (CatchEnds y)) xs r low long = gains_xs (0 ∷ []) xs r low long
xs_are (Computes name operands fail None to) xs r low long = gains_xs (xs_in (to ∷ [])) xs r low long
xs_are (Computes name operands fail (Some live) to) xs r low long =
    defined_at (xs_in (to ∷ [])) (kept_below live xs) r (let e = length_kept live xs in omega arith)
    ∙ (ap (λ t. t || is_in (xs_in (to ∷ [])) r) (kept_at live xs r) ∙ keeps_and_gains (has xs r) (nat_lt r live) (is_in (xs_in (to ∷ [])) r))
xs_are (Calls target arity leaving) xs r low long = answer_xs xs r
xs_are (Raises reason) xs r low long = gains_xs (0 ∷ []) xs r low long
xs_are Passes xs r low long = gains_xs [] xs r low long
xs_are (Moves from parts) xs r low long = gains_xs (xs_in (places_of (Moves from parts))) xs r low long
xs_are (Swaps a b) xs r low long = gains_xs (xs_in (a ∷ b ∷ [])) xs r low long
xs_are (Conses head tail to) xs r low long = gains_xs (xs_in (to ∷ [])) xs r low long
xs_are (Tuples parts to) xs r low long = gains_xs (xs_in (to ∷ [])) xs r low long
xs_are (Tests name operands label) xs r low long = gains_xs [] xs r low long
xs_are (Selects from branches label) xs r low long = gains_xs [] xs r low long
xs_are (Jumps label) xs r low long = gains_xs [] xs r low long
xs_are Returns xs r low long = gains_xs [] xs r low long

pub xs_long : (shape : Shape) (xs : List Bool) → 256 ≤ length xs → 256 ≤ length (xs_behind shape xs)
xs_long (Stacks (Allocates n need live)) xs long = let e = length_kept live xs in omega arith
xs_long (Stacks (Asks need live)) xs long = let e = length_kept live xs in omega arith
xs_long (Stacks (Trims n rest)) xs long = long
xs_long (Stacks (Frees n)) xs long = long
xs_long (Stacks (Clears y)) xs long = long
xs_long (Tags (Tries y label)) xs long = long
xs_long (Tags (Catches y label)) xs long = long
xs_long (Tags (TryEnds y)) xs long = long
xs_long (Tags (TryHandles y)) xs long = long
xs_long (Tags (CatchEnds y)) xs long = let e = length_defined (0 ∷ []) xs in omega arith
xs_long (Computes name operands fail None to) xs long = let e = length_defined (xs_in (to ∷ [])) xs in omega arith
xs_long (Computes name operands fail (Some live) to) xs long = let e = length_defined (xs_in (to ∷ [])) (kept_below live xs) in let k = length_kept live xs in omega arith
xs_long (Calls target arity leaving) xs long = length_first 1
xs_long (Raises reason) xs long = let e = length_defined (0 ∷ []) xs in omega arith
xs_long Passes xs long = long
xs_long (Moves from parts) xs long = let e = length_defined (xs_in (places_of (Moves from parts))) xs in omega arith
xs_long (Swaps a b) xs long = let e = length_defined (xs_in (a ∷ b ∷ [])) xs in omega arith
xs_long (Conses head tail to) xs long = let e = length_defined (xs_in (to ∷ [])) xs in omega arith
xs_long (Tuples parts to) xs long = let e = length_defined (xs_in (to ∷ [])) xs in omega arith
xs_long (Tests name operands label) xs long = long
xs_long (Selects from branches label) xs long = long
xs_long (Jumps label) xs long = long
xs_long Returns xs long = long

-- ---- slots

abbrev pub held : Option ℕ → List Bool → ℕ → Bool
held stack ys k = at_slot stack (has ys) k

abbrev pub lost_at : Option ℕ → Option ℕ → ℕ → Bool
lost_at stack None k = false
lost_at stack (Some y) k = at_slot stack (λ i. nat_eq i y) k

slots_same : (stack : Option ℕ) (f g : ℕ → Bool) (k : ℕ) → IsLow stack → ((i : ℕ) → i < 256 → f i ≡ g i) → at_slot stack f k ≡ at_slot stack g k
slots_same None f g k low h = refl
slots_same (Some size) f g k low h =
    elim (cases_lt k size) [
      | inl l ↦ ap (λ t. nat_lt k size && t) (h (size - (k + 1)) (omega arith))
      | inr l ↦ ap (λ t. t && f (size - (k + 1))) (lt_no k size l) ∙ sym (ap (λ t. t && g (size - (k + 1))) (lt_no k size l))
    ]

gains_slots : (stack : Option ℕ) (ns : List ℕ) (ys : List Bool) (k : ℕ) → IsLow stack → k < 256 → 256 ≤ length ys → held stack (defined ns ys) k ≡ after (held stack ys k) (nat_lt k 256) false (at_slot stack (is_in ns) k)
gains_slots stack ns ys k low l long =
    slots_same stack (has (defined ns ys)) (λ i. has ys i || is_in ns i) k low (λ i h. defined_at ns ys i (omega arith))
    ∙ (sym (at_slot_or stack (has ys) (is_in ns) k) ∙ only_gains (held stack ys k) (nat_lt k 256) (at_slot stack (is_in ns) k) (lt_yes k 256 l))

-- nothing is gained
no_gain : (stack : Option ℕ) (k : ℕ) (had kept lost : Bool) → after had kept lost false ≡ after had kept lost (at_slot stack (is_in []) k)
no_gain stack k had kept lost = ap (λ t. after had kept lost t) (sym (at_slot_none stack k))

loses_slot : (stack : Option ℕ) (y : ℕ) (ys : List Bool) (k : ℕ) → IsLow stack → k < 256 → 256 ≤ length ys
    → held stack (undefined y ys) k ≡ after (held stack ys k) (nat_lt k 256) (lost_at stack (Some y) k) (at_slot stack (is_in []) k)
loses_slot stack y ys k low l long =
    slots_same stack (has (undefined y ys)) (λ i. has ys i && not (nat_eq i y)) k low (λ i h. unset_at ys y i (omega arith))
    ∙ (spread stack ∙ (only_loses (held stack ys k) (nat_lt k 256) (lost_at stack (Some y) k) (lt_yes k 256 l) ∙ no_gain stack k (held stack ys k) (nat_lt k 256) (lost_at stack (Some y) k)))
  where
    but : (a b c : Bool) → (a && (b && not c)) ≡ ((a && b) && not (a && c))
    but true b c = refl
    but false b c = refl

    spread : (stack : Option ℕ) → at_slot stack (λ i. has ys i && not (nat_eq i y)) k ≡ (held stack ys k && not (lost_at stack (Some y) k))
    spread None = refl
    spread (Some size) = but (nat_lt k size) (has ys (size - (k + 1))) (nat_eq (size - (k + 1)) y)

same_slots : (stack : Option ℕ) (ys : List Bool) (k : ℕ) → k < 256 → held stack ys k ≡ after (held stack ys k) (nat_lt k 256) false (at_slot stack (is_in []) k)
same_slots stack ys k l = stays (held stack ys k) (nat_lt k 256) (lt_yes k 256 l) ∙ no_gain stack k (held stack ys k) (nat_lt k 256) false

-- no slot is kept
new_slots : (stack new : Option ℕ) (ys : List Bool) (k n : ℕ) → held new (none_defined n) k ≡ after (held stack ys k) (nat_lt k 0) false (at_slot stack (is_in []) k)
new_slots stack new ys k n = none new ∙ (all_new (held stack ys k) (nat_lt k 0) false (lt_no k 0 (omega arith)) ∙ no_gain stack k (held stack ys k) (nat_lt k 0) false)
  where
    none : (new : Option ℕ) → held new (none_defined n) k ≡ false
    none None = refl
    none (Some size) = ap (λ t. nat_lt k size && t) (none_at n (size - (k + 1))) ∙ at_slot_none (Some size) k

trims_slots : (stack : Option ℕ) (n : ℕ) (ys : List Bool) (k : ℕ)
    → held (option_map (λ size. size - n) stack) (drop n ys ++ none_defined n) k ≡ after (held stack ys k) (nat_lt k (left_slots stack n)) false (at_slot stack (is_in []) k)
trims_slots None n ys k = refl
trims_slots (Some size) n ys k =
    elim (cases_lt k (size - n)) [
      | inl l ↦
          let at : n + (size - n - (k + 1)) ≡ size - (k + 1) = omega arith in
          ap (λ t. t && has (drop n ys ++ none_defined n) (size - n - (k + 1))) (lt_yes k (size - n) l)
          ∙ (trimmed_at ys n (size - n - (k + 1)) ∙ (ap (has ys) at ∙ (ap (λ t. t && has ys (size - (k + 1))) (sym (lt_yes k size (omega arith)))
          ∙ stays (held (Some size) ys k) (nat_lt k (size - n)) (lt_yes k (size - n) l))))
      | inr l ↦
          ap (λ t. t && has (drop n ys ++ none_defined n) (size - n - (k + 1))) (lt_no k (size - n) l)
          ∙ all_new (held (Some size) ys k) (nat_lt k (size - n)) false (lt_no k (size - n) l)
    ]
    ∙ no_gain (Some size) k (held (Some size) ys k) (nat_lt k (size - n)) false

pub ys_are : (shape : Shape) (stack : Option ℕ) (ys : List Bool) (k : ℕ) → IsLow stack → k < 256 → 256 ≤ length ys
    → held (stack_behind shape stack) (ys_behind shape ys) k ≡ after (held stack ys k) (nat_lt k (kept_slots stack shape)) (lost_at stack (lost shape) k) (at_slot stack (is_in (ys_in (gained shape))) k)
ys_are (Stacks (Allocates n need live)) stack ys k low l long = new_slots stack (Some n) ys k 256
ys_are (Stacks (Asks need live)) stack ys k low l long = same_slots stack ys k l
ys_are (Stacks (Trims n rest)) stack ys k low l long = trims_slots stack n ys k
ys_are (Stacks (Frees n)) stack ys k low l long = new_slots stack None ys k 256
ys_are (Stacks (Clears y)) stack ys k low l long = loses_slot stack y ys k low l long
ys_are (Tags (Tries y label)) stack ys k low l long = loses_slot stack y ys k low l long
ys_are (Tags (Catches y label)) stack ys k low l long = loses_slot stack y ys k low l long
ys_are (Tags (TryEnds y)) stack ys k low l long = loses_slot stack y ys k low l long
ys_are (Tags (TryHandles y)) stack ys k low l long = loses_slot stack y ys k low l long
ys_are (Tags (CatchEnds y)) stack ys k low l long = loses_slot stack y ys k low l long
ys_are (Computes name operands fail live to) stack ys k low l long = gains_slots stack (ys_in (to ∷ [])) ys k low l long
ys_are (Calls target arity leaving) stack ys k low l long = same_slots stack ys k l
ys_are (Raises reason) stack ys k low l long = same_slots stack ys k l
ys_are Passes stack ys k low l long = same_slots stack ys k l
ys_are (Moves from parts) stack ys k low l long = gains_slots stack (ys_in (places_of (Moves from parts))) ys k low l long
ys_are (Swaps a b) stack ys k low l long = gains_slots stack (ys_in (a ∷ b ∷ [])) ys k low l long
ys_are (Conses head tail to) stack ys k low l long = gains_slots stack (ys_in (to ∷ [])) ys k low l long
ys_are (Tuples parts to) stack ys k low l long = gains_slots stack (ys_in (to ∷ [])) ys k low l long
ys_are (Tests name operands label) stack ys k low l long = same_slots stack ys k l
ys_are (Selects from branches label) stack ys k low l long = same_slots stack ys k l
ys_are (Jumps label) stack ys k low l long = same_slots stack ys k l
ys_are Returns stack ys k low l long = same_slots stack ys k l

none_long : 256 ≤ length (none_defined 256)
none_long = omega (arith, length-replicate 256 false)

unset_long : (y : ℕ) (ys : List Bool) → 256 ≤ length ys → 256 ≤ length (undefined y ys)
unset_long y ys long = let e = length-set ys y false in omega arith

set_long : (ns : List ℕ) (ys : List Bool) → 256 ≤ length ys → 256 ≤ length (defined ns ys)
set_long ns ys long = let e = length_defined ns ys in omega arith

pub ys_long : (shape : Shape) (ys : List Bool) → 256 ≤ length ys → 256 ≤ length (ys_behind shape ys)
ys_long (Stacks (Allocates n need live)) ys long = none_long
ys_long (Stacks (Asks need live)) ys long = long
ys_long (Stacks (Trims n rest)) ys long = let a = length-append (drop n ys) (none_defined n) in let b = length-replicate n false in let c = length-drop n ys in omega arith
ys_long (Stacks (Frees n)) ys long = none_long
ys_long (Stacks (Clears y)) ys long = unset_long y ys long
ys_long (Tags op) ys long = unset_long (tag_y op) ys long
ys_long (Computes name operands fail live to) ys long = set_long (ys_in (to ∷ [])) ys long
ys_long (Calls target arity leaving) ys long = long
ys_long (Raises reason) ys long = long
ys_long Passes ys long = long
ys_long (Moves from parts) ys long = set_long (ys_in (places_of (Moves from parts))) ys long
ys_long (Swaps a b) ys long = set_long (ys_in (a ∷ b ∷ [])) ys long
ys_long (Conses head tail to) ys long = set_long (ys_in (to ∷ [])) ys long
ys_long (Tuples parts to) ys long = set_long (ys_in (to ∷ [])) ys long
ys_long (Tests name operands label) ys long = long
ys_long (Selects from branches label) ys long = long
ys_long (Jumps label) ys long = long
ys_long Returns ys long = long

low_op : (op : StackOp) (stack : Option ℕ) → IsLow stack → allocated (Stacks op) ≤ 256 → IsLow (stack_behind (Stacks op) stack)
low_op (Allocates n need live) stack low h = h
low_op (Asks need live) stack low h = low
low_op (Trims n rest) None low h = tt
low_op (Trims n rest) (Some size) low h = omega arith
low_op (Frees n) stack low h = tt
low_op (Clears y) stack low h = low

pub stack_low : (shape : Shape) (stack : Option ℕ) → IsLow stack → allocated shape ≤ 256 → IsLow (stack_behind shape stack)
stack_low (Stacks op) stack low h = low_op op stack low h
stack_low shape stack low h = low

-- ---- heap words

pub covered_is : (shape : Shape) (c : ℕ) → covered_behind shape c ≡ changed (change_of shape) (cell_words shape) c
covered_is (Stacks (Allocates n None live)) c = omega arith
covered_is (Stacks (Allocates n (Some need) live)) c = refl
covered_is (Stacks (Asks need live)) c = refl
covered_is (Stacks (Trims n rest)) c = omega arith
covered_is (Stacks (Frees n)) c = omega arith
covered_is (Stacks (Clears y)) c = omega arith
covered_is (Calls target arity leaving) c = refl
covered_is shape c = refl
