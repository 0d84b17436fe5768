-- The test for a graph.
use Rattle.std.specs.Prelude.{ℕ, Bool, true, ◌&&◌, List, [], ◌∷◌, length, nat_eq, nat_lt}
use Rattle.liveness.specs.declared.graph.Graph.{Graph}

abbrev pub all_below : ℕ → List ℕ → Bool
all_below most [] = true
all_below most (x ∷ xs) = nat_lt x most && all_below most xs

abbrev pub lists_below : ℕ → List (List ℕ) → Bool
lists_below most [] = true
lists_below most (x ∷ xs) = all_below most x && lists_below most xs

abbrev pub passes : Graph → Bool
passes graph =
    nat_eq (length graph.uses) (length graph.next) && nat_eq (length graph.writes) (length graph.next) && lists_below (length graph.next) graph.next && lists_below graph.names graph.uses && lists_below graph.names graph.writes
