use Rattle.std.proofs.Common.{◌-◌, ◌/◌, ◌^◌, bit_and, ap, ◌∙◌}
use Rattle.std.proofs.lemmas.Nat.{one_shl, and_mask}
use Rattle.sparc_code.proofs.bits.field.Goals as goal

pub returns : goal.returns
returns c = ap (λ mask. bit_and (c.args.word / 2 ^ c.args.start) (mask - 1)) (one_shl c.args.bits 32 c.requires.bits_within) ∙ and_mask (c.args.word / 2 ^ c.args.start) c.args.bits
