use Rattle.live_slots.proofs.Sites as law
use Rattle.live_slots.proofs.frames_wait_at_sites.Goals as goal

pub returns : goal.returns
returns c = law.frames_wait_at_sites
