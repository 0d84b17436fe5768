-- What the fields of a word hold, and that a word is its fields.
use Rattle.std.proofs.Common.{ℕ, ℤ, pos, negsuc, ◌≡◌, ◌-◌, ◌*◌, ◌^◌, ◌<◌, arith, refl, Some}
use Rattle.std.proofs.lemmas.Nat.{pow_pos}
use Rattle.sparc_code.specs.declared.instruction.Source.{Source}
use Rattle.sparc_code.specs.declared.instruction.Source.TheVariants.{Reg, Imm}
use Rattle.sparc_code.specs.Bits.{joined, field_at, unsigned_of, signed_of, IsWithin}
use Rattle.sparc_code.specs.Code.{IsSource, source_of, source_at, format3_of}
use Rattle.sparc_code.proofs.BitLemmas.{halves, half_below}

-- ---- signed numbers
pub unsigned_below : (bits : ℕ) (z : ℤ) → IsWithin bits z → unsigned_of bits z < 2 ^ bits
unsigned_below bits (pos n) fits = omega (arith, fits, half_below bits)
unsigned_below bits (negsuc n) fits = omega (arith, pow_pos bits)

pub signed-unsigned : (bits : ℕ) (z : ℤ) → 0 < bits → IsWithin bits z → signed_of bits (unsigned_of bits z) ≡ z
signed-unsigned bits (pos n) some fits = grind (arith, fits)
signed-unsigned bits (negsuc n) some fits = let whole : 2 ^ bits ≡ 2 * 2 ^ (bits - 1) = halves bits some in grind (arith, fits, whole)

pub unsigned-signed : (bits n : ℕ) → 0 < bits → n < 2 ^ bits → unsigned_of bits (signed_of bits n) ≡ n
unsigned-signed bits n some fits = grind (arith, fits)

pub IsWithin-signed : (bits n : ℕ) → 0 < bits → n < 2 ^ bits → IsWithin bits (signed_of bits n)
IsWithin-signed bits n some fits = let whole : 2 ^ bits ≡ 2 * 2 ^ (bits - 1) = halves bits some in grind (arith, fits, whole)

-- ---- the second operand
pub source_below : (src : Source) → IsSource src → source_of src < 2 ^ 14
source_below (Reg n) fits = omega (arith, fits)
source_below (Imm z) fits = omega (arith, unsigned_below 13 z fits)

pub source_at-joined : (high : ℕ) (src : Source) → IsSource src → source_at (joined high 14 (source_of src)) ≡ Some src
source_at-joined high (Reg n) fits =
    let marked : field_at (joined high 14 n) 13 1 ≡ 0 = omega (arith, fits) in
    let zeros : field_at (joined high 14 n) 5 8 ≡ 0 = omega (arith, fits) in
    let number : field_at (joined high 14 n) 0 5 ≡ n = omega (arith, fits) in
    simp (marked, zeros, number) refl
source_at-joined high (Imm z) fits =
    let below : unsigned_of 13 z < 2 ^ 13 = unsigned_below 13 z fits in
    let marked : field_at (joined high 14 (joined 1 13 (unsigned_of 13 z))) 13 1 ≡ 1 = omega (arith, below) in
    let number : field_at (joined high 14 (joined 1 13 (unsigned_of 13 z))) 0 13 ≡ unsigned_of 13 z = omega (arith, below) in
    simp (marked, number, signed-unsigned 13 z (omega arith) fits) refl

-- ---- the formats
module _ (top rd op3 rs1 s : ℕ) (top_fits : top < 4) (rd_fits : rd < 32) (op3_fits : op3 < 64) (rs1_fits : rs1 < 32) (s_fits : s < 2 ^ 14) where
  pub format3_at_top : field_at (format3_of top rd op3 rs1 s) 30 2 ≡ top
  format3_at_top = omega (arith, top_fits, rd_fits, op3_fits, rs1_fits, s_fits)

  pub format3_at_rd : field_at (format3_of top rd op3 rs1 s) 25 5 ≡ rd
  format3_at_rd = omega (arith, top_fits, rd_fits, op3_fits, rs1_fits, s_fits)

  pub format3_at_op3 : field_at (format3_of top rd op3 rs1 s) 19 6 ≡ op3
  format3_at_op3 = omega (arith, top_fits, rd_fits, op3_fits, rs1_fits, s_fits)

  pub format3_at_rs1 : field_at (format3_of top rd op3 rs1 s) 14 5 ≡ rs1
  format3_at_rs1 = omega (arith, top_fits, rd_fits, op3_fits, rs1_fits, s_fits)

  pub format3_below : format3_of top rd op3 rs1 s < 2 ^ 32
  format3_below = omega (arith, top_fits, rd_fits, op3_fits, rs1_fits, s_fits)
