-- What is noted by keys is what all functions say of names.
use Rattle.function_numbers.proofs.Numbered.{numbers_are}
use Rattle.function_numbers.proofs.numbers.FunctionNumbers.new.Goals as goal

pub returns : goal.returns
returns c = numbers_are c.args.modules.now _ c.in_ok-names.ensures c.in_ok-functions.ensures c.in_ok-exports.ensures
