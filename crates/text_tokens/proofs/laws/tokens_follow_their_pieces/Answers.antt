use Rattle.text_tokens.proofs.CutLaws.{token-cut, blank-cut, bad-cut}
use Rattle.text_tokens.proofs.laws.tokens_follow_their_pieces.Goals as goal

pub returns : goal.returns
returns c = record { token = token-cut; blank = blank-cut; bad = bad-cut }
