use Rattle.beam_profile.proofs.FewItems.{few_of}
use Rattle.beam_profile.proofs.module.forms_of.Goals as goal

pub returns-clause-few : goal.returns-clause-few
returns-clause-few c = few_of c.args.text.now c.read_forms.result c.read_forms.ensures.forms
