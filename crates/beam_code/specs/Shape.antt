-- What an instruction does, by shape (docs/BEAM.md, Instructions): the one place that tells instructions apart.
use Rattle.std.specs.Prelude.{ℕ, Option, Some, None, List, [], ◌∷◌}
use Rattle.beam_code.specs.declared.instr.ArityCase.{ArityCase}
use Rattle.beam_code.specs.declared.instr.Callee.{Callee}
use Rattle.beam_code.specs.declared.instr.Case.{Case}
use Rattle.beam_code.specs.declared.instr.Instr.{Instr}
use Rattle.beam_code.specs.declared.instr.Instr.TheVariants as i
use Rattle.beam_code.specs.declared.instr.Operand.{Operand}
use Rattle.beam_code.specs.declared.instr.Place.{Place}

-- which part of a term is moved
pub data Piece : Type 0 where
  Whole : Piece
  Head : Piece
  Tail : Piece
  Element : ℕ → Piece

-- where a selection goes: by equal terms, or by the size of a tuple
pub data Branches : Type 0 where
  ByValue : List Case → Branches
  BySize : List ArityCase → Branches

-- y registers, a heap test or none, and Live; a heap test and Live; N and what is left; N; an index
pub data StackOp : Type 0 where
  Allocates : ℕ → Option ℕ → ℕ → StackOp
  Asks : ℕ → ℕ → StackOp
  Trims : ℕ → ℕ → StackOp
  Frees : ℕ → StackOp
  Clears : ℕ → StackOp

-- a mark is made for a label, or goes: behind a `try`, at its handler, and behind or at the handler of a `catch`
pub data TagOp : Type 0 where
  Tries : ℕ → ℕ → TagOp
  Catches : ℕ → ℕ → TagOp
  TryEnds : ℕ → TagOp
  TryHandles : ℕ → TagOp
  CatchEnds : ℕ → TagOp

-- a function of the module by its label; a function of any module by its names and arity
pub data Target : Type 0 where
  Inside : ℕ → Target
  Outside : Callee → Target

-- how a call leaves its function: not; with so many y registers let go; with none
pub data Leaving : Type 0 where
  Stays : Leaving
  Drops : ℕ → Leaving
  HasNone : Leaving

-- no clause of a function by its names and arity; the other errors of pattern matching; a class and a reason that are
-- given, with a place that is not written; the class of x0 and the reason of x1
pub data Reason : Type 0 where
  Clause : List ℕ → List ℕ → ℕ → Reason
  Match : Operand → Reason
  InCase : Operand → Reason
  InTry : Operand → Reason
  InIf : Reason
  Given : Operand → Operand → Place → Reason
  Raw : Reason

pub data Shape : Type 0 where
  -- nothing
  Passes : Shape
  -- parts of one term go to places, in order
  Moves : Operand → List (Piece × Place) → Shape
  Swaps : Place → Place → Shape
  -- a new cons; a new tuple
  Conses : Operand → Operand → Place → Shape
  Tuples : List Operand → Place → Shape
  -- on where a test by its name holds, else to a label
  Tests : List ℕ → List Operand → ℕ → Shape
  -- to the label of a branch, else to a label
  Selects : Operand → Branches → ℕ → Shape
  Jumps : ℕ → Shape
  Stacks : StackOp → Shape
  Tags : TagOp → Shape
  -- a built-in by its name: its operands, its fail label or 0, Live where it may collect, its place
  Computes : List ℕ → List Operand → ℕ → Option ℕ → Place → Shape
  -- a call with so many arguments
  Calls : Target → ℕ → Leaving → Shape
  Returns : Shape
  Raises : Reason → Shape

abbrev pub shape_of : Instr → Shape
shape_of (i.Label n) = Passes
shape_of (i.Line about) = Passes
shape_of (i.Comment about) = Passes
shape_of (i.FuncInfo m f arity) = Raises (Clause m f arity)
shape_of (i.Move from to) = Moves from ((Whole, to) ∷ [])
shape_of (i.Swap a b) = Swaps a b
shape_of (i.GetList from a b) = Moves from ((Head, a) ∷ (Tail, b) ∷ [])
shape_of (i.GetHd from to) = Moves from ((Head, to) ∷ [])
shape_of (i.GetTl from to) = Moves from ((Tail, to) ∷ [])
shape_of (i.GetTupleElement from n to) = Moves from ((Element n, to) ∷ [])
shape_of (i.PutList head tail to) = Conses head tail to
shape_of (i.PutTuple2 to parts) = Tuples parts to
shape_of (i.Test name label operands) = Tests name operands label
shape_of (i.SelectVal from label cases) = Selects from (ByValue cases) label
shape_of (i.SelectTupleArity from label cases) = Selects from (BySize cases) label
shape_of (i.Jump label) = Jumps label
shape_of (i.Allocate n live) = Stacks (Allocates n None live)
shape_of (i.AllocateZero n live) = Stacks (Allocates n None live)
shape_of (i.AllocateHeap n need live) = Stacks (Allocates n (Some need) live)
shape_of (i.AllocateHeapZero n need live) = Stacks (Allocates n (Some need) live)
shape_of (i.TestHeap need live) = Stacks (Asks need live)
shape_of (i.Init y) = Stacks (Clears y)
shape_of (i.Kill y) = Stacks (Clears y)
shape_of (i.Trim n rest) = Stacks (Trims n rest)
shape_of (i.Deallocate n) = Stacks (Frees n)
shape_of i.Return = Returns
shape_of (i.Call arity label) = Calls (Inside label) arity Stays
shape_of (i.CallExt arity callee) = Calls (Outside callee) arity Stays
shape_of (i.CallLast arity label n) = Calls (Inside label) arity (Drops n)
shape_of (i.CallExtLast arity callee n) = Calls (Outside callee) arity (Drops n)
shape_of (i.CallOnly arity label) = Calls (Inside label) arity HasNone
shape_of (i.CallExtOnly arity callee) = Calls (Outside callee) arity HasNone
shape_of (i.Bif name fail operands to) = Computes name operands fail None to
shape_of (i.GcBif name fail live operands to) = Computes name operands fail (Some live) to
shape_of (i.Badmatch operand) = Raises (Match operand)
shape_of (i.CaseEnd operand) = Raises (InCase operand)
shape_of (i.TryCaseEnd operand) = Raises (InTry operand)
shape_of i.IfEnd = Raises InIf
shape_of (i.Try y label) = Tags (Tries y label)
shape_of (i.Catch y label) = Tags (Catches y label)
shape_of (i.TryEnd y) = Tags (TryEnds y)
shape_of (i.TryCase y) = Tags (TryHandles y)
shape_of (i.CatchEnd y) = Tags (CatchEnds y)
shape_of (i.BifRaise class reason to) = Raises (Given class reason to)
shape_of (i.Raise class reason to) = Raises (Given class reason to)
shape_of i.RawRaise = Raises Raw
