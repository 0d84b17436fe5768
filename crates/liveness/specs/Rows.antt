-- What a table of live names shows.
use Rattle.std.specs.Prelude.{ℕ, ◌+◌, ◌/◌, ◌%◌, ◌<◌, Bool, List, IsTrue, nat_eq, slice_index, ◌↔◌}
use Rattle.std.specs.Int.{bit_at}
use Rattle.liveness.specs.declared.graph.Graph.{Graph}
use Rattle.liveness.specs.declared.graph.Rows.{Rows}
use Rattle.liveness.specs.Live.{IsLive, list_of}
use Rattle.liveness.specs.Words.{HasBit}

-- the words of the 64 names from `first` on: a bit exactly where the name is live
abbrev pub IsColumn : Graph → ℕ → List ℕ → Type 0
IsColumn graph first column = (node k : ℕ) → k < 64 → HasBit column node k ↔ IsLive graph node (first + k)

-- whether the rows say that the name is live at the node
unfoldable pub is_live : Rows → ℕ → ℕ → Bool
is_live rows node name = nat_eq (bit_at (slice_index (list_of rows.columns (name / 64)) node) (name % 64)) 1

-- The rows say of each node and each name whether it is live there.
abbrev pub AreRowsOf : Graph → Rows → Type 0
AreRowsOf graph rows = (node name : ℕ) → IsTrue (is_live rows node name) ↔ IsLive graph node name
