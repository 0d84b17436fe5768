-- What files hold, what an open and a read do to them, and when they may fail: this crate's README,
-- "Files".
use Rattle.std.specs.Prelude.{◌≡◌, ◌⊎◌, ℕ, Bool, ◌≤◌, List, [], length, take, drop, Option, Some, None, IsSome, Result, Ok, Err, ⊤}
use Rattle.hipe_base.specs.Count.{Rose, counted}

-- the bytes of each file by its name, where they are told
abbrev pub Held : Type 0
Held = Option (List ℕ → Option (List ℕ))

-- what files tell: the bytes of each, and those left of the open one, or neither; whether one is open; the bytes that
-- the reads have given, and the failures, counted
pub record Told : Type 0 where
  pub held : Held
  pub left : Option (List ℕ)
  pub is_open : Bool
  pub taken : ℕ
  pub faults : ℕ

-- it is told that there is no such file
abbrev pub Lacks : Held → List ℕ → Type 0
Lacks None name = ⊥
Lacks (Some file) name = file name ≡ None

-- these are all the bytes of the file, where they are told
abbrev pub HoldsFile : Held → List ℕ → List ℕ → Type 0
HoldsFile None name bytes = ⊤
HoldsFile (Some file) name bytes = file name ≡ Some bytes

-- a failure has its cause: the count rose, or it is told that there is no such file
abbrev pub FilesFailed : ℕ → ℕ → Held → List ℕ → Type 0
FilesFailed before now held name = Rose before now ⊎ Lacks held name

-- all bytes of the file are left, where they are told
abbrev pub IsAtStart : Held → List ℕ → Option (List ℕ) → Type 0
IsAtStart None name left = left ≡ None
IsAtStart (Some file) name left = (left ≡ file name) × IsSome left

-- a read moved n of the bytes left, where they are told, and 0 only where none was left
abbrev pub MovesBytes : ℕ → List ℕ → Option (List ℕ) → Option (List ℕ) → Type 0
MovesBytes n to None after = after ≡ None
MovesBytes n to (Some left) after =
    (n ≤ length left) × (take n to ≡ take n left) × (after ≡ Some (drop n left))
    × (n ≡ 0 → left ≡ [])

-- what the answer to a read says of the bytes left before and after it
abbrev pub ReadsBytes : {E : Type 0}
    → Result ℕ E → List ℕ → Option (List ℕ) → Option (List ℕ) → Type 0
ReadsBytes (Ok n) to before after = MovesBytes n to before after
ReadsBytes (Err e) to before after = ⊤

-- a read that gave n bytes counts them, and no other answer counts any
abbrev pub CountsBytes : {E : Type 0} → Result ℕ E → ℕ → ℕ → Type 0
CountsBytes (Ok n) before after = after ≡ counted before n
CountsBytes (Err e) before after = after ≡ before
