-- How many y registers the paths of a function carry to an item (docs/BEAM.md, Paths).
use Rattle.std.specs.Prelude.{ℕ, zero, suc, Option, Some, None, List, [], ◌∷◌, ◌++◌, flat_map, length, nat_eq, if◌then◌else◌, option_map}
use Rattle.paths.specs.Paths.{Graph}
use Rattle.beam_code.specs.declared.module.Module.{Module}
use Rattle.beam_code.specs.declared.module.Function.{Function}
use Rattle.path_rules.specs.Points.{Point, graph}

-- where the paths of so many moves end
abbrev pub points_after : {P : Type 0} → Graph P → ℕ → List P
points_after g zero = g.start ∷ []
points_after g (suc n) = flat_map g.moves (points_after g n)

-- the first of these points at an item
abbrev pub first_at : ℕ → List Point → Option Point
first_at item [] = None
first_at item (p ∷ ps) = if nat_eq p.item item then Some p else first_at item ps

-- and those of fewer moves
abbrev pub points_below : {P : Type 0} → Graph P → ℕ → List P
points_below g zero = []
points_below g (suc n) = points_below g n ++ points_after g n

-- where the first path that comes to an item ends, or nothing where none comes; a path has fewer moves than the function has items
abbrev pub point_at : List Module → Function → ℕ → Option Point
point_at ms f item = first_at item (points_below (graph ms f) (length f.items))

-- the stack that it carries there: so many y registers, or none
abbrev pub stack_at : List Module → Function → ℕ → Option (Option ℕ)
stack_at ms f item = option_map (λ p. p.stack) (point_at ms f item)
