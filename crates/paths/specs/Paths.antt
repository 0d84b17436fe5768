-- Paths through a graph: what they come to where nothing ends them (README.md, Paths).
use Rattle.std.specs.Prelude.{◌≡◌, ℕ, zero, suc, List}
use Rattle.std.specs.List.{Contains}

-- A point is a place and what a path that ends there carries.
pub record Graph (P : Type 0) : Type 0 where
  pub start : P  -- where each path begins
  pub moves : P → List P  -- where a path may go on to

-- A path of n moves ends at this point, whatever it passed.
abbrev pub Free : {P : Type 0} → Graph P → ℕ → P → Type 0
Free graph zero y = y ≡ graph.start
Free {P} graph (suc n) y = (x : P) × Free graph n x × Contains (graph.moves x) y
