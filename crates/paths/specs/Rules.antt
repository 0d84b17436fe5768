-- A rule on the paths of a graph: where paths end, and where the rule is broken (README.md, Rules).
use Rattle.std.specs.Prelude.{◌≡◌, ℕ, zero, suc, Bool, true, false, map, ◌⊎◌, Option, Some, None, ◌≤◌}
use Rattle.std.specs.List.{Contains}
use Rattle.paths.specs.Paths.{Graph}

-- A graph, and what one rule says of its points.
pub record Ways (P : Type 0) : Type 0 where
  pub graph : Graph P
  pub breaks : P → Bool  -- a path that ends there breaks the rule by itself
  pub splits : P → P → Bool  -- a path to the first and one to the second break the rule together
  pub apart : P → P → Bool  -- a path to the first ends one to the second

-- A path goes on from its last point x, where R holds of the points that paths of no more moves come to.
pub record GoesOn {P : Type 0} (ways : Ways P) (R : P → Type 0) (x : P) : Type 0 where
  pub fine : ways.breaks x ≡ false
  pub alone : (y : P) → R y → ways.apart y x ≡ false

-- A path of at most n moves comes to this point, each point before it one that paths go on from.
abbrev pub Reached : {P : Type 0} → Ways P → ℕ → P → Type 0
Reached ways zero y = y ≡ ways.graph.start
Reached {P} ways (suc n) y =
    Reached ways n y ⊎ ((x : P) × Reached ways n x × GoesOn ways (Reached ways n) x × Contains (ways.graph.moves x) y)

-- The rule is broken at this point, by one path or by two.
pub record Broken {P : Type 0} (ways : Ways P) (y : P) : Type 0 where
  pub n : ℕ
  pub reached : Reached ways n y
  pub why : (ways.breaks y ≡ true) ⊎ ((x : P) × Reached ways n x × (ways.splits x y ≡ true))

abbrev pub Holds : {P : Type 0} → Ways P → Type 0
Holds {P} ways = (y : P) → Broken ways y → ⊥

-- What is said of a rule: the lowest item where it is broken, or none where it holds.
pub record Says {P : Type 0} (ways : Ways P) (item : P → ℕ) (said : Option ℕ) : Type 0 where
  pub none : said ≡ None → Holds ways
  pub some : (i : ℕ) → said ≡ Some i → ((y : P) × Broken ways y × (item y ≡ i)) × ((y : P) → Broken ways y → i ≤ item y)

-- A move that paths make, from the item a to the item b.
pub record Step {P : Type 0} (ways : Ways P) (item : P → ℕ) (a b : ℕ) : Type 0 where
  pub n : ℕ
  pub from : P
  pub to : P
  pub reached : Reached ways n from
  pub goes_on : GoesOn ways (Reached ways n) from
  pub move : Contains (ways.graph.moves from) to
  pub leaves : item from ≡ a
  pub arrives : item to ≡ b

-- n + 1 such moves lead from the item a to the item b.
abbrev pub Leads : {P : Type 0} → Ways P → (P → ℕ) → ℕ → ℕ → ℕ → Type 0
Leads ways item zero a b = Step ways item a b
Leads ways item (suc n) a b = (c : ℕ) × Leads ways item n a c × Step ways item c b

-- No item lies on a cycle of moves.
abbrev pub NoLoop : {P : Type 0} → Ways P → (P → ℕ) → Type 0
NoLoop ways item = (n a : ℕ) → Leads ways item n a a → ⊥

-- The points of v carry less than those of w and go the same ways, at the points where On holds: it holds at all to which paths come.
pub record Forgets {P Q : Type 0} (w : Ways P) (v : Ways Q) (less : P → Q) (On : P → Type 0) : Type 0 where
  pub on_start : On w.graph.start
  pub on_move : (x y : P) → On x → Contains (w.graph.moves x) y → On y
  pub start : less w.graph.start ≡ v.graph.start
  pub moves : (x : P) → On x → v.graph.moves (less x) ≡ map less (w.graph.moves x)
  pub breaks : (x : P) → On x → v.breaks (less x) ≡ w.breaks x
  pub splits : (x y : P) → On x → On y → v.splits (less x) (less y) ≡ w.splits x y
  pub apart : (x y : P) → On x → On y → v.apart (less x) (less y) ≡ w.apart x y
