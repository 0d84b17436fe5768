use Rattle.asm_text.proofs.ReadingLaws.{one_list_of_forms}
use Rattle.asm_text.proofs.laws.a_text_has_one_reading.Goals as goal

pub returns : goal.returns
returns c = one_list_of_forms
