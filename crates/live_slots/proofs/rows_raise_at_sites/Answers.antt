use Rattle.live_slots.proofs.Sites as law
use Rattle.live_slots.proofs.rows_raise_at_sites.Goals as goal

pub returns : goal.returns
returns c = law.rows_raise_at_sites
