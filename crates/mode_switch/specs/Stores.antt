-- What a store leaves of the machine's memory (docs/MACHINE.md, Memory).
use Rattle.std.specs.Prelude.{ℕ, ◌≡◌, Bool, true, false, ◌&&◌, if◌then◌else◌, nat_eq, nat_lt, List, Option, Some, IsTrue, refl}
use Rattle.std.proofs.Common.{ap, sym, subst, true≢false, ◌∙◌}
use Rattle.std.proofs.lemmas.Bool.{eqb-true, eq-eqb}
use Rattle.mode_switch.specs.Memory.{literals_at, load_of, stores_of, stored}
use Rattle.mode_switch.specs.State.{Memory}
use Rattle.mode_switch.specs.declared.addresses.TheConstants.{X_START, STACK_FLOOR}
use Rattle.tagged_words.specs.declared.addresses.TheConstants.{HEAP_START}
use Rattle.tagged_words.proofs.RegionLaws.{word_at-with_word}
use Rattle.tagged_words.specs.Region.{Region, has_word, with_word, word_at}

and_false : (b : Bool) (x y : Option ℕ) → (if b && false then x else y) ≡ y
and_false true x y = refl
and_false false x y = refl

-- a region keeps its other words, and has the one that was stored
kept_word : (r : Region) (at w a : ℕ) → nat_eq a at ≡ false → word_at (with_word r at w) a ≡ word_at r a
kept_word r at w a other =
    word_at-with_word r at w a ∙ ap (λ b. if has_word r at && b then Some w else word_at r a) other ∙ and_false (has_word r at) (Some w) (word_at r a)

new_word : (r : Region) (at w : ℕ) → IsTrue (has_word r at) → word_at (with_word r at w) at ≡ Some w
new_word r at w has =
    word_at-with_word r at w at ∙ ap (λ b. if b && nat_eq at at then Some w else word_at r at) has
    ∙ ap (λ b. if b then Some w else word_at r at) (eq-eqb at at refl)

-- the memory with a word stored, by the three tests of its address
abbrev stored_if : Bool → Bool → Bool → Memory → ℕ → ℕ → Memory
stored_if a b c m at w =
    if a then m else if b then record m { heap = with_word m.heap at w } else if c then record m { xs = with_word m.xs at w } else record m { stack = with_word m.stack at w }

heap_kept : (a b c : Bool) (m : Memory) (at w k : ℕ) → nat_eq k at ≡ false → word_at (stored_if a b c m at w).heap k ≡ word_at m.heap k
heap_kept true b c m at w k other = refl
heap_kept false true c m at w k other = kept_word m.heap at w k other
heap_kept false false true m at w k other = refl
heap_kept false false false m at w k other = refl

xs_kept : (a b c : Bool) (m : Memory) (at w k : ℕ) → nat_eq k at ≡ false → word_at (stored_if a b c m at w).xs k ≡ word_at m.xs k
xs_kept true b c m at w k other = refl
xs_kept false true c m at w k other = refl
xs_kept false false true m at w k other = kept_word m.xs at w k other
xs_kept false false false m at w k other = refl

stack_kept : (a b c : Bool) (m : Memory) (at w k : ℕ) → nat_eq k at ≡ false → word_at (stored_if a b c m at w).stack k ≡ word_at m.stack k
stack_kept true b c m at w k other = refl
stack_kept false true c m at w k other = refl
stack_kept false false true m at w k other = refl
stack_kept false false false m at w k other = kept_word m.stack at w k other

-- a word by the three tests of its address
abbrev found_if : Bool → Bool → Bool → Option ℕ → Option ℕ → Option ℕ → Option ℕ → Option ℕ
found_if a b c literal heap xs stack = if a then literal else if b then heap else if c then xs else stack

other_words : (literals : List ℕ) (m : Memory) (at w k : ℕ) → nat_eq k at ≡ false → load_of literals (stored m at w) k ≡ load_of literals m k
other_words literals m at w k other =
    let a : Bool = nat_lt at HEAP_START in
    let b : Bool = nat_lt at X_START in
    let c : Bool = nat_lt at STACK_FLOOR in
    let found : Option ℕ → Option ℕ → Option ℕ → Option ℕ = found_if (nat_lt k HEAP_START) (nat_lt k X_START) (nat_lt k STACK_FLOOR) (word_at (literals_at literals) k) in
    ap (λ h. found h (word_at (stored m at w).xs k) (word_at (stored m at w).stack k)) (heap_kept a b c m at w k other)
    ∙ ap (λ x. found (word_at m.heap k) x (word_at (stored m at w).stack k)) (xs_kept a b c m at w k other)
    ∙ ap (λ s. found (word_at m.heap k) (word_at m.xs k) s) (stack_kept a b c m at w k other)

this_word : (a b c : Bool) (literal : Option ℕ) (m : Memory) (at w : ℕ) →
    IsTrue (if a then false else if b then has_word m.heap at else if c then has_word m.xs at else has_word m.stack at) →
    found_if a b c literal (word_at (stored_if a b c m at w).heap at) (word_at (stored_if a b c m at w).xs at) (word_at (stored_if a b c m at w).stack at) ≡ Some w
this_word true b c literal m at w t = absurd (true≢false (sym t))
this_word false true c literal m at w t = new_word m.heap at w t
this_word false false true literal m at w t = new_word m.xs at w t
this_word false false false literal m at w t = new_word m.stack at w t

one_word_if : (b : Bool) (literals : List ℕ) (m : Memory) (at w a : ℕ) → nat_eq a at ≡ b → IsTrue (stores_of m at) →
    load_of literals (stored m at w) a ≡ (if b then Some w else load_of literals m a)
one_word_if true literals m at w a same t =
    let P : ℕ → Type 0 = λ k. load_of literals (stored m at w) k ≡ Some w in
    subst P (sym (eqb-true a at same))
    (this_word (nat_lt at HEAP_START) (nat_lt at X_START) (nat_lt at STACK_FLOOR) (word_at (literals_at literals) at) m at w t)
one_word_if false literals m at w a other t = other_words literals m at w a other

-- a store changes the word at its address alone
pub one_word : (literals : List ℕ) (m : Memory) (at w a : ℕ) → IsTrue (stores_of m at) →
    load_of literals (stored m at w) a ≡ (if nat_eq a at then Some w else load_of literals m a)
one_word literals m at w a t = one_word_if (nat_eq a at) literals m at w a refl t
