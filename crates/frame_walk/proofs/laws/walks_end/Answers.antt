use Rattle.frame_walk.proofs.Frames.{ends}
use Rattle.frame_walk.proofs.laws.walks_end.Goals as goal

pub returns : goal.returns
returns c = ends
