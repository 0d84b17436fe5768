-- What a search says of the points that it found, and of what it found of each item (README.md).
use Rattle.std.specs.Prelude.{◌≡◌, ◌≢◌, ℕ, ◌+◌, ◌<◌, ◌≤◌, ◌++◌, Bool, true, false, ◌&&◌, not, nat_eq, nat_lt, List, [], ◌∷◌, Option, Some, None, slice_get, get_or, length, ◌⊎◌, ◌||◌, ◌↔◌, if◌then◌else◌}
use Rattle.std.specs.List.{Contains, list_any}
use Rattle.paths.specs.Rules.{Ways, GoesOn, Reached, Step}

-- a path ends only such as come to its own item, and breaks the rule only with these; where two break it together, any
-- third one there breaks it with one of them
pub record IsByItem {P : Type 0} (ways : Ways P) (item : P → ℕ) : Type 0 where
  pub apart : (x y : P) → ways.apart x y ≡ true → item x ≡ item y
  pub splits : (x y : P) → ways.splits x y ≡ true → item x ≡ item y
  pub third : (x y z : P) → ways.splits x y ≡ true → item z ≡ item x → (ways.splits z x || ways.splits z y) ≡ true

abbrev pub row_of : {A : Type 0} → List (List A) → ℕ → List A
row_of rows item = get_or rows item []

-- each row has the places of the points of its item, and no other
pub record IsListed {P : Type 0} (item : P → ℕ) (points : List P) (rows : List (List ℕ)) : Type 0 where
  pub full : (k : ℕ) (p : P) → slice_get points k ≡ Some p → Contains (row_of rows (item p)) k
  pub sound : (i k : ℕ) → Contains (row_of rows i) k → (p : P) × (slice_get points k ≡ Some p) × (item p ≡ i)

-- no point stands at two places
abbrev pub AreDistinct : {P : Type 0} → List P → Type 0
AreDistinct {P} points = (p : P) (j k : ℕ) → slice_get points j ≡ Some p → slice_get points k ≡ Some p → j ≡ k

-- whether one of these points is at this item
abbrev pub has_item : {P : Type 0} → (P → ℕ) → ℕ → List P → Bool
has_item item i points = list_any (λ q. nat_eq (item q) i) points

-- how many of these points are not the first of their item, where others were before
abbrev pub seconds_behind : {P : Type 0} → (P → ℕ) → List P → List P → ℕ
seconds_behind item before [] = 0
seconds_behind item before (p ∷ ps) = (if has_item item (item p) before then 1 else 0) + seconds_behind item (before ++ p ∷ []) ps

-- how many of these points are not the first of their item
abbrev pub seconds : {P : Type 0} → (P → ℕ) → List P → ℕ
seconds item points = seconds_behind item [] points

-- different points, more of which are not the first of their item than the limit allows
pub record PassesLimit {P : Type 0} (item : P → ℕ) (limit : Option ℕ) (points : List P) : Type 0 where
  pub most : ℕ
  pub limited : limit ≡ Some most
  pub distinct : AreDistinct points
  pub more : most < seconds item points

-- paths come to different points, more of which are not the first of their item than the limit allows
pub record HasMore {P : Type 0} (ways : Ways P) (item : P → ℕ) (limit : Option ℕ) : Type 0 where
  pub points : List P
  pub reached : (p : P) → Contains points p → (n : ℕ) × Reached ways n p
  pub passes : PassesLimit item limit points

-- two paths come to one item with different things
abbrev pub HasTwins : {P : Type 0} → (P → ℕ) → Ways P → Type 0
HasTwins {P} item ways = (n : ℕ) × (x : P) × (y : P) × Reached ways n x × Reached ways n y × (item x ≡ item y) × (x ≢ y)

-- the points with this one, which may have been there
abbrev pub Adds : {P : Type 0} → List P → P → List P → Type 0
Adds xs p zs = ((zs ≡ xs) × Contains xs p) ⊎ (zs ≡ xs ++ p ∷ [])

-- the same rows, and empty ones behind them, with one for this item
pub record Widens {A : Type 0} (item : ℕ) (rows new : List (List A)) : Type 0 where
  pub same : (i : ℕ) → row_of new i ≡ row_of rows i
  pub long : item < length new
  pub longer : length rows ≤ length new

-- whether one of these places is before the end and has such a point
abbrev pub option_any : {P : Type 0} → (P → Bool) → Option P → Bool
option_any test None = false
option_any test (Some p) = test p

abbrev pub meets : {P : Type 0} → (P → Bool) → List P → ℕ → List ℕ → Bool
meets test points end row = list_any (λ k. nat_lt k end && option_any test (slice_get points k)) row

-- whether paths go on from a point, by the row of its item, where the first `end` points are those of no more moves
abbrev pub goes_on_by_row : {P : Type 0} → Ways P → (P → ℕ) → List P → List (List ℕ) → ℕ → P → Bool
goes_on_by_row ways item points rows end x = not (ways.breaks x) && not (meets (λ p. ways.apart p x) points end (row_of rows (item x)))

-- all of these points, some of which may have been there
pub record AddsAll {P : Type 0} (xs ps zs : List P) : Type 0 where
  pub front : (rest : List P) × (zs ≡ xs ++ rest)
  pub sound : (y : P) → Contains zs y → Contains xs y ⊎ Contains ps y
  pub full : (y : P) → Contains ps y → Contains zs y

-- points that are there and of these, which pass the limit
abbrev pub Crowds : {P : Type 0} → (P → ℕ) → Option ℕ → List P → List P → Type 0
Crowds {P} item limit xs ps = (all : List P) × PassesLimit item limit all × ((y : P) → Contains all y → Contains xs y ⊎ Contains ps y)

-- whether paths go on from the point at this place, where these are the points of no more moves, and what they go on to
pub record IsAhead {P : Type 0} (ways : Ways P) (level : List P) (at : ℕ) (xs : List P) (goes : Bool) (fresh : List P) : Type 0 where
  pub from : P
  pub is : slice_get xs at ≡ Some from
  pub goes_on : (goes ≡ true) ↔ GoesOn ways (Contains level) from
  pub moves : fresh ≡ (if goes then ways.graph.moves from else [])

-- goes on from the point at this place, where these are the points of no more moves, and notes whether
pub record Expands {P : Type 0} (ways : Ways P) (level : List P) (at : ℕ) (xs zs : List P) (went new_went : List Bool) : Type 0 where
  pub front : (rest : List P) × (zs ≡ xs ++ rest)
  pub sound : (x : P) → slice_get xs at ≡ Some x → (y : P) → Contains zs y → Contains xs y ⊎ (GoesOn ways (Contains level) x × Contains (ways.graph.moves x) y)
  pub full : (x : P) → slice_get xs at ≡ Some x → GoesOn ways (Contains level) x → (y : P) → Contains (ways.graph.moves x) y → Contains zs y
  pub flag : Bool
  pub noted : new_went ≡ went ++ flag ∷ []
  pub flag_is : (x : P) → slice_get xs at ≡ Some x → (flag ≡ true) ↔ GoesOn ways (Contains level) x

-- points that are there, and some to which paths go on from the point at this place, pass the limit
pub record IsCrowded {P : Type 0} (ways : Ways P) (item : P → ℕ) (limit : Option ℕ) (level : List P) (at : ℕ) (xs : List P) : Type 0 where
  pub from : P
  pub is : slice_get xs at ≡ Some from
  pub points : List P
  pub passes : PassesLimit item limit points
  pub of : (y : P) → Contains points y → Contains xs y ⊎ (GoesOn ways (Contains level) from × Contains (ways.graph.moves from) y)

-- none of the points behind the first ones was come to before the others
abbrev pub AreLatest : {P : Type 0} → Ways P → List P → ℕ → Type 0
AreLatest {P} ways points done = (k : ℕ) (x : P) → done ≤ k → slice_get points k ≡ Some x → (n : ℕ) → Reached ways n x → (y : P) → Contains points y → Reached ways n y

-- paths go on from this point when they first come to it
abbrev pub GoesFrom : {P : Type 0} → Ways P → P → Type 0
GoesFrom ways x = (n : ℕ) × Reached ways n x × GoesOn ways (Reached ways n) x

-- from which of the first points paths go on, one flag a point
pub record AreFlags {P : Type 0} (ways : Ways P) (points : List P) (count : ℕ) (went : List Bool) : Type 0 where
  pub long : length went ≡ count
  pub flags : (k : ℕ) (x : P) (flag : Bool) → slice_get points k ≡ Some x → slice_get went k ≡ Some flag → (flag ≡ true) ↔ GoesFrom ways x

-- whether the rule is broken at a point, by itself or with the first that is there at its item
abbrev pub is_bad : {P : Type 0} → Ways P → (P → ℕ) → List P → List (List ℕ) → P → Bool
is_bad ways item points rows p = ways.breaks p || option_any (λ k. option_any (λ q. ways.splits q p) (slice_get points k)) (slice_get (row_of rows (item p)) 0)

-- the moves that paths make, by item: each row has the items to which paths go on from its own
pub record AreSteps {P : Type 0} (ways : Ways P) (item : P → ℕ) (next : List (List ℕ)) : Type 0 where
  pub steps : (a b : ℕ) → Contains (row_of next a) b ↔ Step ways item a b
  pub within : (a b : ℕ) → Contains (row_of next a) b → b < length next
