use Rattle.image_format.proofs.Refused.{refused_is}
use Rattle.image_format.proofs.refusal.refusals_are_of_fields.Goals as goal

pub returns : goal.returns
returns c = refused_is
