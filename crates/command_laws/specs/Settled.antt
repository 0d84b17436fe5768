-- Statuses that tell of no fault and no want of memory, and the law that what a command asks and its files hold settle
-- these (docs/COMMANDS.md, Statuses).
use Rattle.std.specs.Prelude.{ℕ, ◌≡◌, Option, Some, List}
use Rattle.hipe_core.specs.Answer.{Case, IsAnswer}

-- no file was unreadable, the output was not unwritable, and no memory was wanting
pub record IsSettled (status : ℕ) : Type 0 where
  pub read : status ≡ 7 → ⊥
  pub written : status ≡ 8 → ⊥
  pub stored : status ≡ 9 → ⊥

-- the files of a command told these bytes when it began
abbrev pub Tells : Case → (List ℕ → Option (List ℕ)) → Type 0
Tells c file = c.effects.files.before.held ≡ Some file

-- two commands that ask the same of the same bytes
pub record AreAlike (c d : Case) : Type 0 where
  pub asks : c.asks ≡ d.asks
  pub file : List ℕ → Option (List ℕ)
  pub first : Tells c file
  pub second : Tells d file

-- they have one status, if both are settled
abbrev pub TheStatusIsThatOfTheCause : Type 0
TheStatusIsThatOfTheCause = (c d : Case) (s t : ℕ) → AreAlike c d → IsAnswer c s → IsAnswer d t → IsSettled s → IsSettled t → s ≡ t
