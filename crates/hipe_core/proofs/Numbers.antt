-- A number that passes a limit at one of its digits passes it at the end.
use Rattle.std.proofs.Common.{◌≡◌, ℕ, ◌+◌, ◌-◌, ◌*◌, ◌<◌, ◌≤◌, Bool, true, false, ◌&&◌, nat_le, if◌then◌else◌, List, [], ◌∷◌, length, Some, None, refl, arith}
use Rattle.std.specs.List.{list_all}
use Rattle.hipe_core.specs.Asking.{number_from}
use Rattle.hipe_core.specs.Words.{is_digit, number_after, number_in}

grows : (value : ℕ) (ds : List ℕ) → value ≤ number_after value ds
grows value [] = omega arith
grows value (d ∷ ds) = let more = grows (value * 10 + (d - 48)) ds in omega (arith, more)

past : (most value : ℕ) (ds : List ℕ) → nat_le value most ≡ false → nat_le (number_after value ds) most ≡ false
past most value ds h = let more : value ≤ number_after value ds = grows value ds in grind (arith, more)

none : (b : Bool) (n most : ℕ) → nat_le n most ≡ false → None ≡ (if b && nat_le n most then Some n else None)
none true n most h = rw h refl
none false n most h = refl

abbrev Same : ℕ → ℕ → List ℕ → Bool → Type 0
Same most value ds digits = number_from most value ds ≡ (if digits && nat_le (number_after value ds) most then Some (number_after value ds) else None)

-- one digit more
more_digits : (most next : ℕ) (ds : List ℕ) (digit low : Bool) → nat_le next most ≡ low → (nat_le next most ≡ true → Same most next ds (list_all is_digit ds)) →
    (if digit && low then number_from most next ds else None) ≡ (if (digit && list_all is_digit ds) && nat_le (number_after next ds) most then Some (number_after next ds) else None)
more_digits most next ds false low e rest = refl
more_digits most next ds true true e rest = rest e
more_digits most next ds true false e rest = none (list_all is_digit ds) (number_after next ds) most (past most next ds e)

from_is : (most value : ℕ) (ds : List ℕ) → nat_le value most ≡ true → Same most value ds (list_all is_digit ds)
from_is most value [] h = rw h refl
from_is most value (d ∷ ds) h =
    more_digits most (value * 10 + (d - 48)) ds (is_digit d) (nat_le (value * 10 + (d - 48)) most) refl (λ low. from_is most (value * 10 + (d - 48)) ds low)

pub number-some : (most : ℕ) (ds : List ℕ) → 0 < length ds → number_from most 0 ds ≡ number_in most ds
number-some most [] h = absurd (omega arith)
number-some most (d ∷ ds) h = from_is most 0 (d ∷ ds) (grind arith)

pub number-none : (most : ℕ) (ds : List ℕ) → length ds ≡ 0 → number_in most ds ≡ None
number-none most [] h = refl
number-none most (d ∷ ds) h = absurd (omega (arith, h))

pub ruleset number_steps = (number-some, number-none)
