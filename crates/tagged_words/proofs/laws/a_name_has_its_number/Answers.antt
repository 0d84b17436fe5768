use Rattle.tagged_words.proofs.Tables.{number_of_name}
use Rattle.tagged_words.proofs.laws.a_name_has_its_number.Goals as goal

pub returns : goal.returns
returns c = number_of_name
