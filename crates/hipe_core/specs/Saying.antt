-- What a sink took of a text: all of it, or a prefix where it failed (docs/COMMANDS.md, Messages).
use Rattle.std.specs.Prelude.{ℕ, ◌≡◌, ◌≤◌, Bool, true, false, List, length, take}
use Rattle.hipe_base.specs.Sink.{Seen, with_more, FallsBy, SinkFailed}

-- between the two states the sink took the text, whole or in part
pub record Says (whole : Bool) (text : List ℕ) (before after : Seen) : Type 0 where
  pub told : ℕ
  pub within : told ≤ length text
  pub written : after.written ≡ with_more before.written (take told text)
  pub room : FallsBy told before.room after.room
  pub later : before.faults ≤ after.faults
  pub all : whole ≡ true → told ≡ length text
  pub failed : whole ≡ false → SinkFailed before.faults after.faults before.room (length text)
