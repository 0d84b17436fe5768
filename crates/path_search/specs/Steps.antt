-- Moves from item to item, as they are noted (README.md).
use Rattle.std.specs.Prelude.{◌≡◌, ℕ, ◌<◌, Bool, true, List, Some, slice_get, length, ◌⊎◌, ◌↔◌}
use Rattle.std.specs.List.{Contains}
use Rattle.paths.specs.Rules.{Ways}
use Rattle.path_search.specs.Found.{row_of}

-- every item that is noted has a row
abbrev pub AreWithin : List (List ℕ) → Type 0
AreWithin next = (a b : ℕ) → Contains (row_of next a) b → b < length next

-- the move from a to b is noted beside those that were
pub record Notes (a b : ℕ) (next new : List (List ℕ)) : Type 0 where
  pub moves : (c d : ℕ) → Contains (row_of new c) d ↔ (Contains (row_of next c) d ⊎ ((c ≡ a) × (d ≡ b)))
  pub within : AreWithin next → AreWithin new

-- those from a to the items of these points are noted beside those that were
pub record NotesAll {P : Type 0} (item : P → ℕ) (a : ℕ) (to : List P) (next new : List (List ℕ)) : Type 0 where
  pub moves : (c d : ℕ) → Contains (row_of new c) d ↔ (Contains (row_of next c) d ⊎ ((c ≡ a) × (y : P) × Contains to y × (item y ≡ d)))
  pub within : AreWithin next → AreWithin new

-- a move from c to d, from one of the first k points, from which paths go on
abbrev pub Moves : {P : Type 0} → Ways P → (P → ℕ) → List P → List Bool → ℕ → ℕ → ℕ → Type 0
Moves {P} ways item points went k c d =
    (j : ℕ) × (x : P) × (y : P) × (j < k) × (slice_get points j ≡ Some x) × (slice_get went j ≡ Some true) × Contains (ways.graph.moves x) y × (item x ≡ c) × (item y ≡ d)

-- those are noted, and no others
pub record AreNoted {P : Type 0} (ways : Ways P) (item : P → ℕ) (points : List P) (went : List Bool) (k : ℕ) (next : List (List ℕ)) : Type 0 where
  pub moves : (c d : ℕ) → Contains (row_of next c) d ↔ Moves ways item points went k c d
  pub within : AreWithin next
