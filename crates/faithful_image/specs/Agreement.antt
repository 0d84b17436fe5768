-- When an outcome of the machine, in words, is an outcome of the language, in terms (docs/MACHINE.md, Agreement).
use Rattle.std.specs.Prelude.{ℕ, ◌≡◌, List, Some, slice_get}
use Rattle.beam_code.specs.State as b
use Rattle.mode_switch.specs.declared.outcome.End.{End}
use Rattle.mode_switch.specs.declared.outcome.End.TheVariants as e
use Rattle.mode_switch.specs.declared.outcome.Outcome.{Outcome}
use Rattle.mode_switch.specs.declared.outcome.Outcome.TheVariants.{Returned, Raised, Ended}
use Rattle.mode_switch.specs.State.{Loaded, Finish}
use Rattle.mode_switch.specs.Store.{store_of}
use Rattle.tagged_words.specs.Seen.{IsTreeOf}
use Rattle.tagged_words.specs.Store.{Store}

-- the two ends have one name
abbrev pub IsSameEnd : List (List ℕ) → End → b.End → Type 0
IsSameEnd names e.Bignum b.Bignum = Unit {0}
IsSameEnd names e.HeapFull b.HeapFull = Unit {0}
IsSameEnd names e.StackFull b.StackFull = Unit {0}
IsSameEnd names e.OutOfReductions b.OutOfReductions = Unit {0}
IsSameEnd names e.BadOperand b.BadOperand = Unit {0}
IsSameEnd names (e.NotProvided m f arity) (b.NotProvided module_name name n) =
    (slice_get names m ≡ Some module_name) × (slice_get names f ≡ Some name) × (arity ≡ n)
IsSameEnd names _ _ = ⊥

-- the words stand for the terms
abbrev pub IsSameOutcome : Store → List (List ℕ) → Outcome → b.Outcome → Type 0
IsSameOutcome s names (Returned w) (b.Returned v) = IsTreeOf s names w v
IsSameOutcome s names (Raised class w) (b.Raised meant v) = (class ≡ meant) × IsTreeOf s names w v
IsSameOutcome s names (Ended end) (b.Ended meant) = IsSameEnd names end meant
IsSameOutcome s names _ _ = ⊥

abbrev pub Agrees : Loaded → b.Finish → Finish → Type 0
Agrees g meant said = IsSameOutcome (store_of g said.state) g.names said.outcome meant.outcome
