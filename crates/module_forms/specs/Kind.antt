-- The kinds of parts that forms have (docs/BEAM.md, Instructions), and the values of each kind.
use Rattle.std.specs.Prelude.{ℕ, List, [], ◌∷◌}
use Rattle.term_tree.specs.declared.term.Term.{Term}
use Rattle.beam_code.specs.declared.instr.Operand.{Operand}
use Rattle.beam_code.specs.declared.instr.Place.{Place}
use Rattle.beam_code.specs.declared.instr.Case.{Case}
use Rattle.beam_code.specs.declared.instr.ArityCase.{ArityCase}
use Rattle.beam_code.specs.declared.instr.Callee.{Callee}
use Rattle.module_forms.specs.declared.part.Look.{Look}

pub data Kind : Type 0 where
  Number : Kind  -- a number from 0
  Stack : Kind  -- a stack number, or Live
  Arity : Kind  -- 0 to 255
  Any : Kind  -- any term
  Named : Kind  -- {atom,A}
  Source : Kind  -- a register or a constant
  Dest : Kind  -- {x,N} or {y,N}
  Slot : Kind  -- {y,N}
  Jump : Kind  -- {f,N}, a label of its function
  Entry : Kind  -- {f,N}, the entry label of a function
  Fail : Kind  -- {f,N}, where {f,0} means to raise
  NoFail : Kind  -- {f,0}
  TwoSources : Kind  -- [S,S]
  Elements : Kind  -- {list,[S,...]}
  Cases : Kind  -- {list,[V,{f,N},...]}, where V is an integer or an atom
  ArityCases : Kind  -- {list,[N,{f,N},...]}
  Function : Kind  -- {extfunc,M,F,A}
  Looks : List Look → Kind  -- [P,...], what a test looks at
  Arguments : List ℕ → Kind  -- [S,...], as many as the built-in with this name takes

-- what a test looks at: an operand in its own spelling, or a bare number
pub data Spelled : Type 0 where
  Full : Operand → Spelled
  Bare : ℕ → Spelled

abbrev pub Val : Kind → Type 0
Val Number = ℕ
Val Stack = ℕ
Val Arity = ℕ
Val Any = Term
Val Named = List ℕ
Val Source = Operand
Val Dest = Place
Val Slot = ℕ
Val Jump = ℕ
Val Entry = ℕ
Val Fail = ℕ
Val NoFail = Unit {0}
Val TwoSources = Operand × Operand
Val Elements = List Operand
Val Cases = List Case
Val ArityCases = List ArityCase
Val Function = Callee
Val (Looks ls) = List Spelled
Val (Arguments name) = List Operand

-- the values of parts of these kinds
abbrev pub Vals : List Kind → Type 0
Vals [] = Unit {0}
Vals (k ∷ ks) = Val k × Vals ks
