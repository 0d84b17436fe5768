-- Signed numbers in fields.
use Rattle.std.proofs.Common.{ℕ, suc, ℤ, pos, negsuc, ◌≡◌, ◌+◌, ◌-◌, ◌*◌, ◌%◌, ◌^◌, ◌<◌, ◌≤◌, ◌-ℤ◌, w32, of_z, to_z, arith, sym, ap, ◌∙◌}
use Rattle.std.proofs.lemmas.Int.{ints}
use Rattle.std.proofs.lemmas.Nat.{mod-mul-add, pow-add, pow_pos}
use Rattle.std.proofs.Math.Nat.{pow-le-pow_right, mod-eq_of_lt, div-one}
use Rattle.sparc_code.specs.Bits.{field_at, unsigned_of, IsWithin}

-- a power is twice its half
pub halves : (bits : ℕ) → 0 < bits → 2 ^ bits ≡ 2 * 2 ^ (bits - 1)
halves bits h = let e : bits ≡ 1 + (bits - 1) = omega arith in ap (λ k. 2 ^ k) e ∙ pow-add 2 1 (bits - 1)

pub half_below : (bits : ℕ) → 2 ^ (bits - 1) ≤ 2 ^ bits
half_below bits = pow-le-pow_right (omega arith) (omega arith)

low_bits_below : (p k n m : ℕ) → n < p → (k + 1) * p ≡ m → (m - suc n) % p ≡ p - suc n
low_bits_below p k n m h product =
    let same : m - suc n ≡ k * p + (p - suc n) = omega (arith, sym product) in
    ap (λ x. x % p) same ∙ mod-mul-add k p (p - suc n) (omega arith)

-- the low bits of a signed number that fits them
pub low_bits : (bits : ℕ) (z : ℤ) → bits < 32 → IsWithin bits z → field_at (of_z w32 z) 0 bits ≡ unsigned_of bits z
low_bits bits (pos n) h fits = ap (λ m. m % 2 ^ bits) (div-one n) ∙ mod-eq_of_lt (omega (arith, fits, half_below bits))
low_bits bits (negsuc n) h fits =
    let one_more : 2 ^ (32 - bits) - 1 + 1 ≡ 2 ^ (32 - bits) = omega (arith, pow_pos (32 - bits)) in
    let together : (32 - bits) + bits ≡ 32 = omega arith in
    let product : (2 ^ (32 - bits) - 1 + 1) * 2 ^ bits ≡ 2 ^ 32 = ap (λ q. q * 2 ^ bits) one_more ∙ sym (pow-add 2 (32 - bits) bits) ∙ ap (λ k. 2 ^ k) together in
    ap (λ m. m % 2 ^ bits) (div-one (2 ^ 32 - suc n)) ∙ low_bits_below (2 ^ bits) (2 ^ (32 - bits) - 1) n (2 ^ 32) (omega (arith, fits, half_below bits)) product

-- a field whose highest bit is set, with h that bit
pub negative_field : (h v : ℕ) → h ≤ 2 ^ 30 → h ≤ v → v < 2 * h → to_z w32 (of_z w32 (to_z w32 (of_z w32 (to_z w32 (of_z w32 (to_z w32 v)) -ℤ to_z w32 h)) -ℤ to_z w32 h)) ≡ negsuc (2 * h - suc v)
negative_field h v small from below = omega (arith, ints)

pub half_small : (bits : ℕ) → bits < 32 → 2 ^ (bits - 1) ≤ 2 ^ 30
half_small bits h = let e : bits - 1 ≤ 30 = omega arith in pow-le-pow_right (omega arith) {j = 30} e
