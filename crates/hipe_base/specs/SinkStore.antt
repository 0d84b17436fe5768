-- What the sinks in memory hold, and what a write to them does: this crate's README, "Stand-ins".
use Rattle.std.specs.Prelude.{ℕ, ◌-◌, nat_eq, List, [], ◌++◌, take, min, Result, Ok, Err, if◌then◌else◌}
use Rattle.hipe_base.specs.declared.outside.Failed.{Failed}

-- the bytes written, the number of bytes that there is room for, and the most that one write takes
pub record SinkStore : Type 0 where
  pub written : List ℕ
  pub room : ℕ
  pub piece : ℕ

-- nothing is written
abbrev pub empty_sink : ℕ → ℕ → SinkStore
empty_sink piece room = record { written = []; room = room; piece = piece }

-- the answer to a write of n bytes: as many as a piece and the room allow, and a failure where there
-- is no room
abbrev pub write_answer : SinkStore → ℕ → Result ℕ Failed
write_answer sink n =
    if nat_eq n 0
    then Ok 0
    else (if nat_eq sink.room 0 then Err record {} else Ok (min n (min sink.piece sink.room)))

-- the sink after a write of these bytes and its answer
abbrev pub after_write : SinkStore → List ℕ → Result ℕ Failed → SinkStore
after_write sink from (Ok n) =
    record sink { written = sink.written ++ take n from; room = sink.room - n }
after_write sink from (Err e) = sink
