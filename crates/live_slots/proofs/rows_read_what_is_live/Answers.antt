use Rattle.live_slots.proofs.Live as law
use Rattle.live_slots.proofs.rows_read_what_is_live.Goals as goal

pub returns : goal.returns
returns c = law.rows_read_what_is_live
