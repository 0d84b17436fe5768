use Rattle.std.proofs.Common.{IfSome, sym, ◌∙◌, subst}
use Rattle.sparc_code.proofs.Laws.{Spells, decoded_spells, decoded_all}
use Rattle.sparc_code.proofs.decoding.decode.Goals as goal

pub returns-clause-spelled : goal.returns-clause-spelled
returns-clause-spelled c = subst (λ o. IfSome o (Spells c.args.word)) (sym c.by_format.ensures) (decoded_spells c.args.word c.ranges.word.fits)

pub returns-clause-every : goal.returns-clause-every
returns-clause-every c = λ i fits same. c.by_format.ensures ∙ decoded_all c.args.word i fits same
