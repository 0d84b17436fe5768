-- Powers of two as far as shifts go.
use Rattle.std.proofs.Common.{◌≡◌, ℕ, ◌/◌, ◌^◌, ◌<◌, ◌≤◌, arith}
use Rattle.std.proofs.Math.Nat.{div-eq_of_lt}
use Rattle.std.proofs.Math.Pow.{pow_mono}

-- a word has nothing left behind 32 bits or more
pub nothing_left : (a n : ℕ) → a < 2 ^ 32 → 32 ≤ n → a / 2 ^ n ≡ 0
nothing_left a n low many =
    let big : 2 ^ 32 ≤ 2 ^ n = pow_mono many in
    let below : a < 2 ^ n = omega arith in
    div-eq_of_lt below

-- a power of fewer than 28 bits fits
pub low_power : (n : ℕ) → n < 28 → 2 ^ n ≤ 134217728
low_power n low = pow_mono {i = n} {j = 27} (omega arith)
