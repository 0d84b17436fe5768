-- What files and streams of the system count, and when: this crate's README, "How its values are
-- stated".
use Rattle.std.specs.Prelude.{ℕ, Bool, true, false, List, Option, Some, None, Result, Ok, Err}
use Rattle.hipe_base.specs.Count.{counted}

-- whether a file is open; the number of bytes that the reads gave; the number of failures
pub record FileCounts : Type 0 where
  pub is_open : Bool
  pub taken : ℕ
  pub faults : ℕ

-- the counts, and the bytes that the open file has still to give, where its reader says
pub record FileState : Type 0 where
  pub counts : FileCounts
  pub known : Option (List ℕ)

-- what the open file's reader says, nothing where none is open
abbrev pub left_of : {F : Type 0} → (F → Option (List ℕ)) → Option F → Option (List ℕ)
left_of remaining None = None
left_of remaining (Some file) = remaining file

-- no file is open, and nothing was counted
abbrev pub none_open : FileCounts
none_open = record { is_open = false; taken = 0; faults = 0 }

-- after a failure no file is open
abbrev pub after_failure : FileCounts → FileCounts
after_failure files = record {
  is_open = false;
  taken = files.taken;
  faults = counted files.faults 1;
}

-- after the answer to an open
abbrev pub after_open : {E : Type 0} → FileCounts → Result Unit E → FileCounts
after_open files (Ok u) = record files { is_open = true }
after_open files (Err e) = after_failure files

-- after the answer to a read, whose bytes are counted
abbrev pub after_read : {E : Type 0} → FileCounts → Result ℕ E → FileCounts
after_read files (Ok n) = record files { taken = counted files.taken n }
after_read files (Err e) = after_failure files

-- the bytes that the stream's writer holds, where it says; the number of failures
pub record StreamState : Type 0 where
  pub known : Option (List ℕ)
  pub faults : ℕ

-- the failures of a stream after the answer to a write
abbrev pub faults_after : {E : Type 0} → ℕ → Result ℕ E → ℕ
faults_after faults (Ok n) = faults
faults_after faults (Err e) = counted faults 1
