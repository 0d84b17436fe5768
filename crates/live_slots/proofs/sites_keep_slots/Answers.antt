use Rattle.live_slots.proofs.Sites as law
use Rattle.live_slots.proofs.sites_keep_slots.Goals as goal

pub returns : goal.returns
returns c = law.sites_keep_slots
