use Rattle.asm_text.proofs.ReadingLaws.{reading-is, reading-one, arguments-is, arguments-one}
use Rattle.asm_text.proofs.laws.readings_are_those_of_the_rules.Goals as goal

pub returns : goal.returns
returns c = record { forms = reading-is; one = reading-one; arguments = arguments-is; one_of_arguments = arguments-one }
