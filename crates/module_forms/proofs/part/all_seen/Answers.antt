use Rattle.module_forms.proofs.Looks.{none_left}
use Rattle.module_forms.proofs.part.all_seen.Goals as goal

pub returns-in-len1-up : goal.returns-in-len1-up
returns-in-len1-up c = λ last shape. none_left last (record { value = c.args.value; wide = c.args.wide }) c.args.rest.now c.in-len1-up.len_at_least
