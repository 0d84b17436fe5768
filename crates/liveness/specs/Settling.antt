-- Words of names that go against the edges of a graph.
use Rattle.std.specs.Prelude.{◌≡◌, ℕ, ◌+◌, ◌-◌, ◌*◌, ◌^◌, ◌<◌, ◌≤◌, List, [], ◌∷◌, length, slice_index, ◌⊎◌}
use Rattle.std.specs.Int.{bit_at}
use Rattle.std.specs.List.{All, Contains}
use Rattle.liveness.specs.Live.{list_of}
use Rattle.liveness.specs.Words.{HasBit, LacksBit}

-- how many numbers are above the words, in all
abbrev pub spare : List ℕ → ℕ
spare [] = 0
spare (w ∷ ws) = (2 ^ 64 - w) + spare ws

-- what is left to do
abbrev pub work : List ℕ → List ℕ → ℕ
work column pending = 2 * spare column + length pending

-- the names of the word were given to these nodes, but for what they write, and each node that gained a name is pending
pub record Spread (from : List ℕ) (word : ℕ) (writes old before new after : List ℕ) : Type 0 where
  pub long : length new ≡ length old
  pub kept : (a k : ℕ) → k < 64 → HasBit old a k → HasBit new a k
  pub only : (a k : ℕ) → k < 64 → HasBit new a k → HasBit old a k ⊎ (Contains from a × (bit_at word k ≡ 1) × LacksBit writes a k)
  pub given : (a k : ℕ) → k < 64 → Contains from a → bit_at word k ≡ 1 → LacksBit writes a k → HasBit new a k
  pub told : (a : ℕ) → (slice_index new a ≡ slice_index old a) ⊎ Contains after a
  pub pending : (a : ℕ) → Contains before a → Contains after a
  pub nodes : All (λ a. a < length old) before → All (λ a. a < length old) after
  pub less : work new after ≤ work old before

-- a path of nodes that do not write the name k, to one that uses it
abbrev pub Goes : List (List ℕ) → List ℕ → List ℕ → ℕ → ℕ → List ℕ → Type 0
Goes prev writes uses k node [] = HasBit uses node k
Goes prev writes uses k node (m ∷ path) = Contains (list_of prev m) node × LacksBit writes node k × Goes prev writes uses k m path

-- the node a has what m has and a does not write
abbrev pub TakesFrom : List ℕ → List ℕ → ℕ → ℕ → Type 0
TakesFrom writes column a m = (k : ℕ) → k < 64 → LacksBit writes a k → HasBit column m k → HasBit column a k

-- exactly the names that paths lead to
pub record Settled (prev : List (List ℕ)) (writes old new : List ℕ) : Type 0 where
  pub long : length new ≡ length old
  pub kept : (a k : ℕ) → k < 64 → HasBit old a k → HasBit new a k
  pub sound : (a k : ℕ) → k < 64 → HasBit new a k → (path : List ℕ) × Goes prev writes old k a path
  pub closed : (a m : ℕ) → Contains (list_of prev m) a → TakesFrom writes new a m
