-- How a search finds a point again, and counts (README.md).
use Rattle.std.specs.Prelude.{◌≡◌, ◌≢◌, ℕ, suc, ◌+◌, ◌<◌, ◌≤◌, ◌%◌, ◌++◌, List, [], ◌∷◌, Option, Some, slice_get, slice_index, slice_set, length}
use Rattle.path_search.specs.declared.found.Found.{Found}
use Rattle.path_search.specs.Found.{IsListed, AreDistinct, row_of, seconds}

-- 1 and the last place before the end with a point of this bucket, or 0 where there is none
pub record IsLast {P : Type 0} (bucket : P → ℕ) (points : List P) (b end at : ℕ) : Type 0 where
  pub low : at ≤ end
  pub of : (k : ℕ) → at ≡ suc k → (p : P) × (slice_get points k ≡ Some p) × (bucket p ≡ b)
  pub all : (k : ℕ) (p : P) → slice_get points k ≡ Some p → bucket p ≡ b → k < end → k < at

-- each bucket has its last place, and each place the one before it in its bucket
pub record IsChained {P : Type 0} (bucket : P → ℕ) (points : List P) (older buckets : List ℕ) : Type 0 where
  pub long : length older ≡ length points
  pub last : (b : ℕ) → IsLast bucket points b (length points) (slice_index buckets b)
  pub before : (k : ℕ) (p : P) → slice_get points k ≡ Some p → IsLast bucket points (bucket p) k (slice_index older k)

-- into which of the buckets a point goes
abbrev pub bucket_in : {P : Type 0} → (P → ℕ) → List ℕ → P → ℕ
bucket_in number buckets p = number p % length buckets

-- what holds of what is kept: each point once, each found by its item and by its number, and how many are not the first of their item
pub record IsKept {P : Type 0} (item number : P → ℕ) (limit : Option ℕ) (found : Found P) : Type 0 where
  pub listed : IsListed item found.points found.rows.items
  pub distinct : AreDistinct found.points
  pub some : 0 < length found.buckets.items
  pub chained : IsChained (bucket_in number found.buckets.items) found.points found.older.items found.buckets.items
  pub counted : (most : ℕ) → limit ≡ Some most → found.seconds ≡ seconds item found.points

-- nothing is there
pub record IsEmpty {P : Type 0} (found : Found P) : Type 0 where
  pub points : found.points ≡ []
  pub rows : found.rows.items ≡ []
  pub older : found.older.items ≡ []
  pub went : found.went.items ≡ []
  pub some : 0 < length found.buckets.items
  pub none : (b : ℕ) → slice_index found.buckets.items b ≡ 0
  pub seconds : found.seconds ≡ 0

-- a point goes to the end, its place into the row of its item and to the front of its bucket
pub record Pushes {P : Type 0} (item bucket count : ℕ) (p : P) (old new : Found P) : Type 0 where
  pub grown : new.points ≡ old.points ++ p ∷ []
  pub here : row_of new.rows.items item ≡ row_of old.rows.items item ++ length old.points ∷ []
  pub elsewhere : (i : ℕ) → i ≢ item → row_of new.rows.items i ≡ row_of old.rows.items i
  pub older : new.older.items ≡ old.older.items ++ slice_index old.buckets.items bucket ∷ []
  pub buckets : new.buckets.items ≡ slice_set old.buckets.items bucket (length old.points + 1)
  pub seconds : new.seconds ≡ count
  pub went : new.went.items ≡ old.went.items
