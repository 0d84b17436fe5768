-- Which nodes of a graph lie on a cycle (README.md).
use Rattle.std.specs.Prelude.{◌≡◌, ℕ, ◌<◌, ◌≤◌, List, [], ◌∷◌, length, Option, Some, None, slice_index}
use Rattle.std.specs.List.{Contains}
use Rattle.liveness.specs.Live.{list_of}

-- from a the way goes on over these nodes, the last of which is b
abbrev pub Walk : List (List ℕ) → ℕ → ℕ → List ℕ → Type 0
Walk next a b [] = a ≡ b
Walk next a b (m ∷ path) = Contains (list_of next a) m × Walk next m b path

-- a way from the node leads back to it
abbrev pub OnCycle : List (List ℕ) → ℕ → Type 0
OnCycle next i = (m : ℕ) × (path : List ℕ) × Walk next i i (m ∷ path)

-- the lowest node on a cycle, or none
pub record IsLowest (next : List (List ℕ)) (said : Option ℕ) : Type 0 where
  pub none : said ≡ None → (i : ℕ) → OnCycle next i → ⊥
  pub some : (i : ℕ) → said ≡ Some i → OnCycle next i × ((j : ℕ) → OnCycle next j → i ≤ j)

-- nodes lead to nodes of the graph alone
abbrev pub AreWithin : List (List ℕ) → Type 0
AreWithin next = (a b : ℕ) → Contains (list_of next a) b → b < length next

-- each node leads to nodes of lower rank
abbrev pub IsRanked : List (List ℕ) → List ℕ → Type 0
IsRanked next ranks = (a b : ℕ) → Contains (list_of next a) b → slice_index ranks b < slice_index ranks a
