-- The law itself.
use Rattle.beam_rows.proofs.BuiltInLaws.{built_ins_fail_by_their_rows}
use Rattle.beam_rows.proofs.laws.built_ins_fail_by_their_rows.Goals as goal

pub returns : goal.returns
returns c = built_ins_fail_by_their_rows
