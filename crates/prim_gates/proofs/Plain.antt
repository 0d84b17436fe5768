-- Values that have no cell: small integers, the machine's own atoms, and failures with a reason of their own.
use Rattle.std.proofs.Common.{◌≡◌, ℕ, ◌+◌, ◌^◌, ◌*ℤ◌, int_div, int_rem, ℤ, pos, negsuc, Bool, true, false, Some, slice_get, nat_lt, refl, arith, if◌then◌else◌}
use Rattle.std.proofs.lemmas.Bool.Decides.{nat_tests}
use Rattle.beam_code.specs.Answer as a
use Rattle.beam_code.specs.BuiltIns.{Failure, Badarith, Badarg}
use Rattle.tagged_words.specs.Atoms.{first_atoms}
use Rattle.tagged_words.specs.Laid.{atom_number}
use Rattle.term_tree.specs.Small.{is_small, IsSmall}
use Rattle.term_tree.specs.Tree as t

-- what fails with a reason of its own
abbrev pub MayFail : Failure → Type 0
MayFail Badarith = Unit {0}
MayFail Badarg = Unit {0}
MayFail other = ⊥

abbrev pub IsPlain : Failure → a.Value → Type 0
IsPlain why (a.Is (t.Int i)) = IsSmall i
IsPlain why (a.Is (t.Atom name)) = slice_get first_atoms (atom_number first_atoms name) ≡ Some name
IsPlain why (a.Is v) = ⊥
IsPlain why a.Fails = MayFail why
IsPlain why a.TooWide = Unit {0}

pub truth_plain : (why : Failure) (b : Bool) → IsPlain why (a.says b)
truth_plain why true = refl
truth_plain why false = refl

small_there : (i : ℤ) → is_small i ≡ true → IsSmall i
small_there (pos n) e = grind (arith, nat_tests)
small_there (negsuc n) e = grind (arith, nat_tests)

exact_if : (why : Failure) (i : ℤ) (b : Bool) → is_small i ≡ b → IsPlain why (if b then a.Is (t.Int i) else a.TooWide)
exact_if why i true e = small_there i e
exact_if why i false e = tt

pub exact_plain : (why : Failure) (i : ℤ) → IsPlain why (a.exact i)
exact_plain why i = exact_if why i (is_small i) refl

pub unless_zero : (b : Bool) (i : ℤ) → IsPlain Badarith (if b then a.Fails else a.exact i)
unless_zero true i = tt
unless_zero false i = exact_plain Badarith i

pub divide_plain : (i j : ℤ) → IsPlain Badarith (a.divide i j)
divide_plain i j = unless_zero (a.is_zero j) (int_div i j)

pub remainder_plain : (i j : ℤ) → IsPlain Badarith (a.remainder i j)
remainder_plain i j = unless_zero (a.is_zero j) (int_rem i j)

zero_small : (i : ℤ) → a.is_zero i ≡ true → IsSmall i
zero_small (pos n) e = grind (arith, nat_tests)
zero_small (negsuc n) e = absurd cc

left_if : (n : ℕ) (i : ℤ) (b c : Bool) → a.is_zero i ≡ b → IsPlain Badarith (if b then a.Is (t.Int i) else elim c [ true ↦ a.exact (i *ℤ pos (2 ^ n)) | false ↦ a.TooWide ])
left_if n i true c e = zero_small i e
left_if n i false true e = exact_plain Badarith (i *ℤ pos (2 ^ n))
left_if n i false false e = tt

left_plain : (n : ℕ) (i : ℤ) → IsPlain Badarith (a.left_by n i)
left_plain n i = left_if n i (a.is_zero i) (nat_lt n 28) refl

right_plain : (n : ℕ) (i : ℤ) → IsPlain Badarith (a.right_by n i)
right_plain n (pos k) = exact_plain Badarith (pos (a.halved n k))
right_plain n (negsuc k) = exact_plain Badarith (negsuc (a.halved n k))

pub shift_left_plain : (i j : ℤ) → IsPlain Badarith (a.shift_left i j)
shift_left_plain i (pos n) = left_plain n i
shift_left_plain i (negsuc n) = right_plain (n + 1) i

pub shift_right_plain : (i j : ℤ) → IsPlain Badarith (a.shift_right i j)
shift_right_plain i (pos n) = right_plain n i
shift_right_plain i (negsuc n) = left_plain (n + 1) i
