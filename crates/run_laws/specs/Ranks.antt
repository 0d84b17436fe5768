-- The rank of a point of a path: the most items on a path onward from it (docs/BEAM.md, Paths).
use Rattle.std.specs.Prelude.{◌≡◌, ℕ, zero, suc, ◌+◌, ◌<◌, max, List, [], ◌∷◌, length, Some}
use Rattle.std.specs.List.{Contains}
use Rattle.paths.specs.Paths.{Free, Graph}
use Rattle.beam_code.specs.declared.module.Function.{Function}
use Rattle.beam_code.specs.declared.module.Module.{Module}
use Rattle.beam_code.specs.Function.{Placed, function_at}
use Rattle.path_rules.specs.Points.{Point, graph}
use Rattle.run_laws.specs.Formed.{AreChecked}

abbrev pub most_by : {P : Type 0} → (P → ℕ) → List P → ℕ
most_by number [] = 0
most_by number (p ∷ ps) = max (number p) (most_by number ps)

-- in so many rounds
abbrev pub rank : {P : Type 0} → Graph P → ℕ → P → ℕ
rank g zero p = 0
rank g (suc n) p = most_by (λ q. 1 + rank g n q) (g.moves p)

-- in as many rounds as the function has items
abbrev pub rank_of : List Module → Function → Point → ℕ
rank_of ms f p = rank (graph ms f) (length f.items) p

-- it falls at each move of a path
abbrev pub RanksFall : Type 0
RanksFall =
    (ms : List Module) (function : ℕ) (f : Placed) → AreChecked ms → function_at ms function ≡ Some f → (n : ℕ) (p q : Point) → Free (graph ms f.function) n p
    → Contains ((graph ms f.function).moves p) q → rank_of ms f.function q < rank_of ms f.function p

-- and all paths to an item have one rank there
abbrev pub RanksAreOfItems : Type 0
RanksAreOfItems =
    (ms : List Module) (function : ℕ) (f : Placed) → AreChecked ms → function_at ms function ≡ Some f → (m n : ℕ) (p q : Point) → Free (graph ms f.function) m p → Free (graph ms f.function) n q
    → p.item ≡ q.item → rank_of ms f.function p ≡ rank_of ms f.function q
