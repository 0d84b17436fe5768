use Rattle.text_tokens.proofs.Longest.{begins-with, none-longer}
use Rattle.text_tokens.proofs.laws.a_token_is_the_longest.Goals as goal

pub returns : goal.returns
returns c = record { spelled = begins-with; longest = none-longer }
