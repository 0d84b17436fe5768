-- Files in memory with calls that are to fail: this crate's README, "Stand-ins".
use Rattle.std.specs.Prelude.{ℕ, ◌&&◌, List, is_some, Result, Ok, Err, if◌then◌else◌}
use Rattle.hipe_base.specs.FailurePlan.{FailurePlan, next_fails, after_call, after_fault}
use Rattle.hipe_base.specs.FileStore.{FileStore, bytes_of, after_close, read_count, after_open, open_answer, after_read}
use Rattle.hipe_base.specs.declared.outside.Failed.{Failed}

-- files in memory, and which calls are to fail
pub record FailingFiles : Type 0 where
  pub store : FileStore
  pub plan : FailurePlan

-- after a call that failed as it was to: no file is open
abbrev pub after_planned_fault : FailingFiles → FailingFiles
after_planned_fault files = record {
  store = after_close files.store;
  plan = after_fault (after_call files.plan);
}

-- the answer to an open
abbrev pub failing_open_answer : FailingFiles → List ℕ → Result Unit Failed
failing_open_answer files name =
    if next_fails files.plan then Err record {} else open_answer files.store name

-- the files after an open; one of a file that is lacking is counted and is no fault
abbrev pub after_failing_open : FailingFiles → List ℕ → FailingFiles
after_failing_open files name =
    if next_fails files.plan && is_some (bytes_of files.store.files name)
    then after_planned_fault files
    else record { store = after_open files.store name; plan = after_call files.plan }

-- the answer to a read into n places
abbrev pub failing_read_answer : FailingFiles → ℕ → Result ℕ Failed
failing_read_answer files n =
    if next_fails files.plan then Err record {} else Ok (read_count files.store n)

-- the files after a read into n places
abbrev pub after_failing_read : FailingFiles → ℕ → FailingFiles
after_failing_read files n =
    if next_fails files.plan
    then after_planned_fault files
    else record { store = after_read files.store (read_count files.store n); plan = after_call files.plan }
