use Rattle.frame_walk.proofs.Frames.{goes_by_frames}
use Rattle.frame_walk.proofs.laws.walks_go_by_frames.Goals as goal

pub returns : goal.returns
returns c = goes_by_frames
