-- Which names are live at a node of a graph: those that some path from it leads to a use of (README.md).
use Rattle.std.specs.Prelude.{◌≡◌, ℕ, ◌<◌, List, [], ◌∷◌, length, slice_get, unwrap_or}
use Rattle.std.specs.List.{All, Contains}
use Rattle.liveness.specs.declared.graph.Graph.{Graph}

-- the list of a node, with nothing in it past the last node
abbrev pub list_of : {A : Type 0} → List (List A) → ℕ → List A
list_of lists node = unwrap_or (slice_get lists node) []

-- A path goes from this node over these ones, and its last one uses the name, which none before it writes.
abbrev pub Leads : Graph → ℕ → ℕ → List ℕ → Type 0
Leads graph name node [] = Contains (list_of graph.uses node) name
Leads graph name node (m ∷ path) = Contains (list_of graph.next node) m × (Contains (list_of graph.writes node) name → ⊥) × Leads graph name m path

-- The name is live at the node: some path leads to a use of it.
abbrev pub IsLive : Graph → ℕ → ℕ → Type 0
IsLive graph node name = (path : List ℕ) × Leads graph name node path

-- The lists are of one length, and have nodes and names of the graph.
pub record IsGraph (graph : Graph) : Type 0 where
  pub uses : length graph.uses ≡ length graph.next
  pub writes : length graph.writes ≡ length graph.next
  pub next_nodes : All (All (λ node. node < length graph.next)) graph.next
  pub used_names : All (All (λ name. name < graph.names)) graph.uses
  pub written_names : All (All (λ name. name < graph.names)) graph.writes
