use Rattle.std.proofs.Common.{arith}
use Rattle.std.proofs.lemmas.Nat.{mul-le}
use Rattle.text_tokens.proofs.class.number.Goals as goal

pub overflow_mul-more : goal.overflow_mul-more
overflow_mul-more c = record { fits = omega (arith, mul-le c.loop-digit.value c.args.base 150000000 16 c.loop-digit.invariant.0 c.requires.most) }

pub overflow_add-more : goal.overflow_add-more
overflow_add-more c = record { fits = omega (arith, mul-le c.loop-digit.value c.args.base 150000000 16 c.loop-digit.invariant.0 c.requires.most) }
