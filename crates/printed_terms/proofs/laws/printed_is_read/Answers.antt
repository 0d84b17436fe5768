use Rattle.std.proofs.Common.{arith}
use Rattle.printed_terms.proofs.ReadBack.{in_brackets, before_dot}
use Rattle.printed_terms.proofs.laws.printed_is_read.Goals as goal

pub returns : goal.returns
returns c = record { argument = (λ x h. in_brackets x h.canonical h.names (omega (arith, h.depth))); form = (λ x h. before_dot x h.canonical h.names h.depth) }
