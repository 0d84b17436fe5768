use Rattle.std.proofs.Common.{arith, ◌≡◌, ◌*◌, ◌^◌, ◌-◌, ◌%◌, ◌≤◌}
use Rattle.std.proofs.lemmas.Nat.{one_shl}
use Rattle.sparc_code.proofs.BitLemmas.{negative_field, halves, half_small}
use Rattle.sparc_code.proofs.bits.signed_field.Goals as goal

pub returns-else-value-bits : goal.returns-else-value-bits
returns-else-value-bits c =
    let half : (1 * 2 ^ (c.args.bits - 1)) % 2 ^ 32 ≡ 2 ^ (c.args.bits - 1) = one_shl (c.args.bits - 1) 32 (omega (arith, c.requires.bits_within)) in
    let from : 2 ^ (c.args.bits - 1) ≤ c.args.value = omega (arith, half, c.if-value-bits.false) in
    let whole : 2 ^ c.args.bits ≡ 2 * 2 ^ (c.args.bits - 1) = halves c.args.bits c.requires.some_bits in
    rw (half, c.cast_signed-else-value-bits.ensures) (grind (arith, from, whole, negative_field (2 ^ (c.args.bits - 1)) c.args.value (half_small c.args.bits c.requires.bits_within) from (omega (arith, whole, c.requires.fits))))
