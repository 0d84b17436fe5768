-- Paths as whole lists (docs/BEAM.md, Rules).
use Rattle.std.specs.Prelude.{◌≡◌, ℕ, zero, suc, true, false, List, [], ◌∷◌, length, ◌⊎◌}
use Rattle.std.specs.List.{Contains}
use Rattle.paths.specs.Rules.{Ways}

-- A path is the list of the points that it passed, the last first, and the point where it ends. It begins at the start. A
-- path of n moves goes on unless the point where it ends breaks the rule, or a path of no more moves ends at one apart
-- from it.
abbrev pub IsPath : {P : Type 0} → Ways P → ℕ → List P → P → Type 0
IsPath ways zero passed y = (passed ≡ []) × (y ≡ ways.graph.start)
IsPath {P} ways (suc n) passed y =
    IsPath ways n passed y
    ⊎ ((x : P) × (before : List P) × (passed ≡ x ∷ before) × (length before ≡ n) × IsPath ways n before x
    × (ways.breaks x ≡ false) × ((others : List P) (z : P) → IsPath ways n others z → ways.apart z x ≡ false) × Contains (ways.graph.moves x) y)

-- a path breaks the rule by itself, or two do together
pub record IsBrokenBy {P : Type 0} (ways : Ways P) (y : P) : Type 0 where
  pub n : ℕ
  pub passed : List P
  pub path : IsPath ways n passed y
  pub why : (ways.breaks y ≡ true) ⊎ ((others : List P) × (x : P) × IsPath ways n others x × (ways.splits x y ≡ true))
