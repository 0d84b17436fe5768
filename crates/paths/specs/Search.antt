-- A search for all the points that paths come to, in rounds, and the lowest item where the rule is broken (README.md, Search).
use Rattle.std.specs.Prelude.{◌≡◌, ℕ, Bool, not, ◌&&◌, ◌||◌, if◌then◌else◌, List, [], ◌∷◌, ◌++◌, take, ◌⊎◌, Option, Some, None, nat_lt}
use Rattle.std.specs.List.{Contains, list_any}
use Rattle.paths.specs.Rules.{Ways, GoesOn, Reached}

abbrev pub IsFront : {P : Type 0} → List P → List P → Type 0
IsFront {P} xs ys = (rest : List P) × (ys ≡ xs ++ rest)

-- exactly the points that paths come to
pub record IsReach {P : Type 0} (ways : Ways P) (xs : List P) : Type 0 where
  pub sound : (y : P) → Contains xs y → (n : ℕ) × Reached ways n y
  pub full : (n : ℕ) (y : P) → Reached ways n y → Contains xs y

-- whether a path goes on from x, where these are the points that paths of no more moves come to
abbrev pub goes_on_in : {P : Type 0} → Ways P → List P → P → Bool
goes_on_in ways xs x = not (ways.breaks x) && not (list_any (λ y. ways.apart y x) xs)

-- the points that paths of at most n moves come to, the first k of them done: where these lead is there
pub record Level {P : Type 0} (ways : Ways P) (xs : List P) (k : ℕ) : Type 0 where
  pub n : ℕ
  pub here : (y : P) → Contains xs y → Reached ways n y
  pub there : (y : P) → Reached ways n y → Contains xs y
  pub expanded : (x : P) → Contains (take k xs) x → GoesOn ways (Contains xs) x → (y : P) → Contains (ways.graph.moves x) y → Contains xs y

-- the points ys in a round over the points xs, of which the first k are done
pub record Round {P : Type 0} (ways : Ways P) (xs : List P) (k : ℕ) (ys : List P) : Type 0 where
  pub front : IsFront xs ys
  pub sound : (y : P) → Contains ys y → Contains xs y ⊎ ((x : P) × Contains xs x × GoesOn ways (Contains xs) x × Contains (ways.graph.moves x) y)
  pub full : (x : P) → Contains (take k xs) x → GoesOn ways (Contains xs) x → (y : P) → Contains (ways.graph.moves x) y → Contains ys y

-- whether the rule is broken at x, where these are the points that paths come to
abbrev pub broken_in : {P : Type 0} → Ways P → List P → P → Bool
broken_in ways xs x = ways.breaks x || list_any (λ y. ways.splits y x) xs

abbrev pub smaller : Option ℕ → ℕ → Option ℕ
smaller None n = Some n
smaller (Some best) n = if nat_lt n best then Some n else Some best

-- the least item of the bad points among these, or of those before
abbrev pub least_of : {P : Type 0} → (P → Bool) → (P → ℕ) → Option ℕ → List P → Option ℕ
least_of bad item best [] = best
least_of bad item best (x ∷ xs) = least_of bad item (if bad x then smaller best (item x) else best) xs
