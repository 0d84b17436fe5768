-- How an ending is told (docs/COMMANDS.md, Messages).
use Rattle.std.specs.Prelude.{ℕ, ◌≡◌, ◌⊎◌, true, is_some}
use Rattle.asm_text.specs.Entry.{entry_of}
use Rattle.hipe_base.specs.Sink.{Seen}
use Rattle.hipe_core.specs.declared.ending.Ending.{Ending}
use Rattle.hipe_core.specs.declared.ending.Ending.TheVariants.{Said, Usage, NotExported, ArgsDoNotFit, CannotWrite, NoMemory}
use Rattle.hipe_core.specs.Lines.{IsTold, status_of}

-- an entry that is named is one
abbrev pub IsSayable : Ending → Type 0
IsSayable (NotExported entry count) = is_some (entry_of entry.now) ≡ true
IsSayable e = Unit {0}

-- the line wants memory
abbrev pub CanWant : Ending → Type 0
CanWant (Said status) = ⊥
CanWant Usage = ⊥
CanWant ArgsDoNotFit = ⊥
CanWant CannotWrite = ⊥
CanWant NoMemory = ⊥
CanWant (NotExported entry count) = is_some (entry_of entry.now) ≡ true
CanWant e = Unit {0}

-- the status is that of the ending, and its line was said
pub record IsEnding (e : Ending) (status : ℕ) (before after : Seen) : Type 0 where
  pub status_is : status ≡ status_of e
  pub told : IsTold e before after

-- the ending was told, or there was no memory for its line
abbrev pub Finishes : Ending → ℕ → Seen → Seen → Type 0
Finishes e status before after = IsEnding e status before after ⊎ (CanWant e × IsEnding NoMemory status before after)
