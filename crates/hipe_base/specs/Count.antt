-- Counts that never fall and stand still at the end of 64 bits: this crate's README, "Counts".
use Rattle.std.specs.Prelude.{ℕ, ◌+◌, ◌-◌, ◌^◌, ◌≤◌, min}

-- the greatest value of a counter
abbrev pub most : ℕ
most = 2 ^ 64 - 1

-- a counter after n more
abbrev pub counted : ℕ → ℕ → ℕ
counted before n = min (before + n) most

-- the count rose, or stands at its end
abbrev pub Rose : ℕ → ℕ → Type 0
Rose before now = min (before + 1) most ≤ now

-- the count rose by more than n, or stands at its end
abbrev pub RoseBy : ℕ → ℕ → ℕ → Type 0
RoseBy before n now = min (before + n + 1) most ≤ now
