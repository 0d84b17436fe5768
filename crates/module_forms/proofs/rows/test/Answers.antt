use Rattle.std.proofs.Common.{Option, subst}
use Rattle.beam_code.specs.declared.instr.Instr.{Instr}
use Rattle.module_forms.specs.Rest.{Rest, Took}
use Rattle.module_forms.specs.Rows.{looks_in}
use Rattle.module_forms.proofs.Looks.{tested_is}
use Rattle.module_forms.proofs.rows.test.Goals as goal

pub returns : goal.returns
returns c = subst (λ (took : Option (Instr × Rest)). Took c.tested.result c.tested.new.parts took) (tested_is c.args.name.now (looks_in c.args.view) c.args.parts.now) c.tested.ensures
