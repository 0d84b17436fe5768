-- The edges of a graph, turned round.
use Rattle.std.specs.Prelude.{◌≡◌, ℕ, List, length, ◌⊎◌, ◌↔◌}
use Rattle.std.specs.List.{Contains}
use Rattle.liveness.specs.Live.{list_of}

-- a node is in the list of m exactly where it leads to m
pub record IsBackward (next prev : List (List ℕ)) : Type 0 where
  pub long : length prev ≡ length next
  pub edges : (node m : ℕ) → Contains (list_of prev m) node ↔ Contains (list_of next node) m

-- the lists have gained this node where it leads to
pub record Adds (node : ℕ) (targets : List ℕ) (old new : List (List ℕ)) : Type 0 where
  pub long : length new ≡ length old
  pub edges : (a m : ℕ) → Contains (list_of new m) a ↔ (Contains (list_of old m) a ⊎ ((a ≡ node) × Contains targets m))
