use Rattle.std.proofs.Common.{[]}
use Rattle.text_tokens.proofs.CutLaws.{quotes-cut, quotes-joined}
use Rattle.text_tokens.proofs.laws.quotes_join_their_characters.Goals as goal

pub returns : goal.returns
returns c = record { cut = quotes-cut; joined = (λ quote bs text rest is. quotes-joined quote bs text rest [] is) }
