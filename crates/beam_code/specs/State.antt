-- The state of the virtual machine (docs/BEAM.md, State).
use Rattle.std.specs.Prelude.{ℕ, ◌-◌, Option, Some, None, List, ◌++◌, length, map, replicate}
use Rattle.beam_code.specs.declared.call.RaiseClass.{RaiseClass}
use Rattle.term_tree.specs.Tree.{Tree}

-- how many x registers there are
abbrev pub x_registers : ℕ
x_registers = 256

-- which instruction made a mark, a `try` or a `catch`
pub data TagKind : Type 0 where
  OfTry : TagKind
  OfCatch : TagKind

-- a y register: not written, a term, or the mark of a handler with its label
pub data Slot : Type 0 where
  Undefined : Slot
  Holds : Tree → Slot
  Tag : TagKind → ℕ → Slot

-- what a running function has: its item; x registers, of which some are undefined; y registers, or no stack frame;
-- the heap words used so far and the reductions left
pub record Local : Type 0 where
  pub item : ℕ
  pub xs : List (Option Tree)
  pub ys : Option (List Slot)
  pub used : ℕ
  pub left : ℕ

-- a function that waits for a call of its own to return: its number, the item of the call, its y registers
pub record Frame : Type 0 where
  pub function : ℕ
  pub item : ℕ
  pub ys : Option (List Slot)

-- the running function, and the frames that wait, innermost first
pub record BeamState : Type 0 where
  pub function : ℕ
  pub here : Local
  pub frames : List Frame

-- the ends that are neither a value nor an exception; `Stuck` is none of the language, but of a text that breaks its rules
pub data End : Type 0 where
  Bignum : End
  HeapFull : End
  StackFull : End
  OutOfReductions : End
  BadOperand : End
  NotProvided : List ℕ → List ℕ → ℕ → End
  Stuck : End

pub data Outcome : Type 0 where
  Returned : Tree → Outcome
  Raised : RaiseClass → Tree → Outcome
  Ended : End → Outcome

-- how a run ended, and in which state
pub record Finish : Type 0 where
  pub outcome : Outcome
  pub state : BeamState

-- what a running function does to the frames around it: it calls a function by number with these arguments, and so on
pub data Event : Type 0 where
  Calls : ℕ → List Tree → Local → Event
  TailCalls : ℕ → List Tree → Local → Event
  Returns : Tree → Local → Event
  Raises : RaiseClass → Tree → Local → Event
  Ends : End → Local → Event

-- x registers with these terms in x0 and up, and every other one undefined
abbrev pub only : List Tree → List (Option Tree)
only vs = map (λ v. Some v) vs ++ replicate (x_registers - length vs) None
