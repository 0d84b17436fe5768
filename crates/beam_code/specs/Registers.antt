-- The registers that an instruction names or uses, as numbers (docs/BEAM.md, Functions).
use Rattle.std.specs.Prelude.{ℕ, ◌+◌, max, List, [], ◌∷◌}
use Rattle.beam_code.specs.declared.instr.Instr.{Instr}
use Rattle.beam_code.specs.declared.instr.Operand.{Operand}
use Rattle.beam_code.specs.declared.instr.Operand.TheVariants.{X}
use Rattle.beam_code.specs.declared.instr.Place.{Place}
use Rattle.beam_code.specs.declared.instr.Place.TheVariants as place
use Rattle.beam_code.specs.Shape.{Shape, Moves, Swaps, Conses, Tuples, Tests, Selects, Stacks, Tags, Computes, Calls, Returns, Raises, Piece, StackOp, Allocates, TagOp, CatchEnds, Reason, Match, InCase, InTry, Given, Raw, shape_of}

-- one more than the greatest index of an x register that an operand or a place names, or 0
abbrev pub operand_xs : Operand → ℕ
operand_xs (X n) = n + 1
operand_xs other = 0

abbrev pub place_xs : Place → ℕ
place_xs (place.X n) = n + 1
place_xs (place.Y n) = 0

abbrev pub operands_xs : List Operand → ℕ
operands_xs [] = 0
operands_xs (o ∷ os) = max (operand_xs o) (operands_xs os)

abbrev pub parts_xs : List (Piece × Place) → ℕ
parts_xs [] = 0
parts_xs (p ∷ ps) = max (place_xs p.1) (parts_xs ps)

-- an exception reads its operands; `catch_end` reads and writes x0; `raw_raise` reads x0 to x2
abbrev pub reason_xs : Reason → ℕ
reason_xs (Match o) = operand_xs o
reason_xs (InCase o) = operand_xs o
reason_xs (InTry o) = operand_xs o
reason_xs (Given o p to) = max (operand_xs o) (operand_xs p)
reason_xs Raw = 3
reason_xs other = 0

abbrev pub tag_xs : TagOp → ℕ
tag_xs (CatchEnds n) = 1
tag_xs other = 0

-- the same of a shape, registers that it reads or writes without naming them included
abbrev pub shape_xs : Shape → ℕ
shape_xs (Moves from parts) = max (operand_xs from) (parts_xs parts)
shape_xs (Swaps a b) = max (place_xs a) (place_xs b)
shape_xs (Conses head tail to) = max (operand_xs head) (max (operand_xs tail) (place_xs to))
shape_xs (Tuples parts to) = max (operands_xs parts) (place_xs to)
shape_xs (Tests name operands label) = operands_xs operands
shape_xs (Selects from branches label) = operand_xs from
shape_xs (Tags op) = tag_xs op
shape_xs (Computes name operands fail live to) = max (operands_xs operands) (place_xs to)
shape_xs (Calls target arity leaving) = max arity 1
shape_xs Returns = 1
shape_xs (Raises reason) = reason_xs reason
shape_xs other = 0

-- the y registers that a shape allocates
abbrev pub stack_ys : StackOp → ℕ
stack_ys (Allocates n need live) = n
stack_ys other = 0

abbrev pub shape_ys : Shape → ℕ
shape_ys (Stacks op) = stack_ys op
shape_ys other = 0

abbrev pub instr_xs : Instr → ℕ
instr_xs i = shape_xs (shape_of i)

abbrev pub instr_ys : Instr → ℕ
instr_ys i = shape_ys (shape_of i)
