-- The law itself.
use Rattle.prim_gates.proofs.Table.{answers_as_on_terms}
use Rattle.prim_gates.proofs.laws.built_ins_answer_as_on_terms.Goals as goal

pub returns : goal.returns
returns c = answers_as_on_terms
