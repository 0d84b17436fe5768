use Rattle.asm_text.proofs.ReadingLaws.{one_list_of_arguments}
use Rattle.asm_text.proofs.laws.arguments_have_one_reading.Goals as goal

pub returns : goal.returns
returns c = one_list_of_arguments
