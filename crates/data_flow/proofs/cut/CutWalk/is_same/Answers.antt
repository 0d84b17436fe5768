use Rattle.std.proofs.Common.{sym, ◌∙◌}
use Rattle.data_flow.proofs.Points.{same_point_is, other_point}
use Rattle.data_flow.proofs.cut.CutWalk.is_same.Goals as goal

pub returns-clause-same : goal.returns-clause-same
returns-clause-same c = λ t. same_point_is c.args.a.now c.args.b.now (sym c.is_same.ensures ∙ t)

pub returns-clause-other : goal.returns-clause-other
returns-clause-other c = λ f. other_point c.args.a.now c.args.b.now (sym c.is_same.ensures ∙ f)
