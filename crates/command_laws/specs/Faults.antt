-- A command that no fault comes into, and the law that it then answers for another cause (docs/COMMANDS.md, Statuses).
use Rattle.std.specs.Prelude.{ℕ, ◌≡◌, ◌<◌, ◌≤◌, Option, Some, None, IsSome, List, [], ◌∷◌, length}
use Rattle.hipe_base.specs.Count.{most}
use Rattle.hipe_base.specs.Files.{Held}
use Rattle.hipe_core.specs.Answer.{Case, IsAnswer}
use Rattle.command_laws.specs.Output.{IsOutput, files_of}

-- there is such a file, where that is told
abbrev pub IsThere : Held → List ℕ → Type 0
IsThere None name = Unit {0}
IsThere (Some file) name = IsSome (file name)

abbrev pub AreThere : Held → List (List ℕ) → Type 0
AreThere held [] = Unit {0}
AreThere held (f ∷ fs) = IsThere held f × AreThere held fs

-- there is room for n bytes, where that is told
abbrev pub HasRoom : Option ℕ → ℕ → Type 0
HasRoom None n = Unit {0}
HasRoom (Some room) n = n ≤ room

-- the count stood below its end, and still does where it stood
pub record IsStill (before after : ℕ) : Type 0 where
  pub below : before < most
  pub same : after ≡ before

-- neither the files nor standard output failed, each file is there, and each output has room
pub record HasNoFault (c : Case) : Type 0 where
  pub files : IsStill c.effects.files.before.faults c.effects.files.after.faults
  pub there : AreThere c.effects.files.before.held (files_of c.asks)
  pub out : IsStill c.effects.out.faults c.effects.out_after.faults
  pub room : (text : List ℕ) → IsOutput c text → HasRoom c.effects.out.room (length text)

-- without a fault no file is unreadable, and no output unwritable
abbrev pub FaultsHaveTheirCause : Type 0
FaultsHaveTheirCause = (c : Case) (status : ℕ) → IsAnswer c status → HasNoFault c → (status ≡ 7 → ⊥) × (status ≡ 8 → ⊥)
