-- A graph in which each node uses its own number, for what is live there (README.md).
use Rattle.std.specs.Prelude.{◌≡◌, ℕ, ◌<◌, List, [], ◌∷◌, length}
use Rattle.liveness.specs.declared.graph.Graph.{Graph}
use Rattle.liveness.specs.Live.{list_of}

-- each node has its own number alone
pub record AreOwn (nodes : ℕ) (uses : List (List ℕ)) : Type 0 where
  pub long : length uses ≡ nodes
  pub own : (k : ℕ) → k < nodes → list_of uses k ≡ k ∷ []

-- each node has nothing
pub record AreNone (nodes : ℕ) (writes : List (List ℕ)) : Type 0 where
  pub long : length writes ≡ nodes
  pub none : (k : ℕ) → list_of writes k ≡ []

-- each node uses its own number alone, and writes nothing
pub record IsMarked (next : List (List ℕ)) (graph : Graph) : Type 0 where
  pub same : graph.next ≡ next
  pub names : graph.names ≡ length next
  pub uses : AreOwn (length next) graph.uses
  pub writes : AreNone (length next) graph.writes
