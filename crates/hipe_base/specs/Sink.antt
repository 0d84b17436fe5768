-- What a sink has taken, what it can still take, and when it may fail: this crate's README, "Sinks".
use Rattle.std.specs.Prelude.{◌≡◌, ◌⊎◌, ℕ, ◌-◌, ◌≤◌, ◌<◌, List, ◌++◌, take, Option, Some, None, Result, Ok, Err}
use Rattle.hipe_base.specs.Count.{Rose}

-- what a sink tells: the bytes written and the room that is left, or neither; and its failures, counted
pub record Seen : Type 0 where
  pub written : Option (List ℕ)
  pub room : Option ℕ
  pub faults : ℕ

-- the bytes written and more, where they are told
abbrev pub with_more : Option (List ℕ) → List ℕ → Option (List ℕ)
with_more None more = None
with_more (Some had) more = Some (had ++ more)

-- it is told that there is no room for n bytes
abbrev pub IsShort : Option ℕ → ℕ → Type 0
IsShort None n = ⊥
IsShort (Some room) n = room < n

-- the room falls by n, where it is told
abbrev pub FallsBy : ℕ → Option ℕ → Option ℕ → Type 0
FallsBy n None after = after ≡ None
FallsBy n (Some room) after = (n ≤ room) × (after ≡ Some (room - n))

-- a failure has its cause: the count rose, or it is told that there was no room for n bytes
abbrev pub SinkFailed : ℕ → ℕ → Option ℕ → ℕ → Type 0
SinkFailed before now room n = Rose before now ⊎ IsShort room n

-- the first n bytes are appended by a write that took n, none by one that failed
abbrev pub WritesBytes : {E : Type 0} → Result ℕ E → List ℕ → Option (List ℕ) → Option (List ℕ) → Type 0
WritesBytes (Ok n) from before after = after ≡ with_more before (take n from)
WritesBytes (Err e) from before after = after ≡ before

-- the room falls by what a write took, and stays where it failed
abbrev pub TakesRoom : {E : Type 0} → Result ℕ E → Option ℕ → Option ℕ → Type 0
TakesRoom (Ok n) before after = FallsBy n before after
TakesRoom (Err e) before after = after ≡ before
