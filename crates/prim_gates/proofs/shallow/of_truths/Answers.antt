use Rattle.std.proofs.Common.{sym, ◌∙◌}
use Rattle.prim_gates.proofs.Ranges.{second_fails}
use Rattle.prim_gates.specs.Shallow.{tree_shown}
use Rattle.prim_gates.proofs.shallow.of_truths.Goals as goal

pub returns-in-None : goal.returns-in-None
returns-in-None c = λ v e. sym (second_fails c.args.k c.requires.low c.requires.high v (tree_shown c.args.atoms.now c.args.second) (sym c.truth.ensures ∙ c.in-None.is))
