use Rattle.std.proofs.Common.{◌-◌, bit_or, arith, ap, ◌∙◌}
use Rattle.std.proofs.lemmas.Nat.{shl_whole, or_shifted}
use Rattle.sparc_code.proofs.bits.join.Goals as goal

pub returns : goal.returns
returns c = ap (λ high. bit_or high c.args.low) (shl_whole c.args.high (32 - c.args.bits) c.args.bits 32 c.requires.high_fits (omega (arith, c.requires.room))) ∙ or_shifted c.args.high c.args.bits c.args.low c.requires.low_fits
