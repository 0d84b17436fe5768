use Rattle.std.proofs.Common.{◌/◌, ◌%◌}
use Rattle.liveness.specs.Rows.{is_live}
use Rattle.liveness.proofs.Shown.{none_shown, past_shown, word_shown}
use Rattle.liveness.proofs.graph.Rows.at.Goals as goal

pub returns-in-None : goal.returns-in-None
unfolding is_live
returns-in-None c = none_shown c.args.self.now.columns (c.args.name / 64) c.args.node (c.args.name % 64) c.in-None.ensures.value

pub returns-in-None-get : goal.returns-in-None-get
unfolding is_live
returns-in-None-get c = past_shown c.args.self.now.columns (c.args.name / 64) c.args.node (c.args.name % 64) c.in-Some.column.now c.in-Some.ensures.value c.in-None-get.ensures.value

pub returns-in-Some-get : goal.returns-in-Some-get
unfolding is_live
returns-in-Some-get c = word_shown c.args.self.now.columns (c.args.name / 64) c.args.node (c.args.name % 64) c.in-Some.column.now c.in-Some-get.word.now c.in-Some.ensures.value c.in-Some-get.ensures.value
