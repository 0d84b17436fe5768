use Rattle.std.proofs.Common.{ap, subst, ◌∙◌, arith}
use Rattle.image_format.specs.Cursor.{Gives}
use Rattle.image_format.specs.Reading.{reading}
use Rattle.image_format.proofs.Whole.{is_found, reading_again}
use Rattle.image_format.proofs.reading.read_parts.Goals as goal

pub returns-clause-found : goal.returns-clause-found
returns-clause-found c = is_found c.args.bytes.now c.all_of.result (λ i. omega (arith, c.type_inv.bytes i)) c.all_of.ensures

pub returns-clause-only : goal.returns-clause-only
returns-clause-only c = λ p f z e. subst (λ r. Gives (λ q. q) c.all_of.result r) (ap reading e ∙ reading_again p f z) c.all_of.ensures
