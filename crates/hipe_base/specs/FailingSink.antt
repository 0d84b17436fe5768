-- A sink in memory with calls that are to fail: this crate's README, "Stand-ins".
use Rattle.std.specs.Prelude.{ℕ, ◌==◌, nat_eq, ◌&&◌, not, Result, Ok, Err, if◌then◌else◌}
use Rattle.hipe_base.specs.FailurePlan.{FailurePlan, next_fails, after_call, after_fault}
use Rattle.hipe_base.specs.SinkStore.{SinkStore, write_answer}
use Rattle.hipe_base.specs.declared.outside.Failed.{Failed}

-- a sink in memory, and which writes are to fail
pub record FailingSink : Type 0 where
  pub store : SinkStore
  pub plan : FailurePlan

-- the answer to a write of n bytes: an empty one has no number and does not fail
abbrev pub failing_write_answer : FailingSink → ℕ → Result ℕ Failed
failing_write_answer sink n =
    if nat_eq n 0
    then Ok 0
    else (if next_fails sink.plan then Err record {} else write_answer sink.store n)

-- the plan after a write of n bytes: a write that finds no room is counted and is no fault
abbrev pub plan_after_write : FailingSink → ℕ → FailurePlan
plan_after_write sink n =
    if nat_eq n 0
    then sink.plan
    else (if next_fails sink.plan && not (sink.store.room == 0) then after_fault (after_call sink.plan) else after_call sink.plan)
