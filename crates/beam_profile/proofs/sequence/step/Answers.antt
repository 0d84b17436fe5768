use Rattle.module_forms.proofs.Canonical.{form-canonical}
use Rattle.beam_profile.proofs.sequence.step.Goals as goal

pub with_item-requires-clause-canonical : goal.with_item-requires-clause-canonical
with_item-requires-clause-canonical c = form-canonical c.args.last c.args.form.now.term c.in-Ok.instr c.requires.canonical c.in-Ok.ensures
