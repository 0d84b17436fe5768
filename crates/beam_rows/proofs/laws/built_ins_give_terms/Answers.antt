-- The law itself.
use Rattle.beam_rows.proofs.BuiltInLaws.{built_ins_give_terms}
use Rattle.beam_rows.proofs.laws.built_ins_give_terms.Goals as goal

pub returns : goal.returns
returns c = built_ins_give_terms
