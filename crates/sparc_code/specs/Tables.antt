-- The numbers of operations and conditions: The SPARC Architecture Manual, Version 8, appendix F, tables of op3 and of the icc tests.
use Rattle.std.specs.Prelude.{ℕ, Option, Some, None, List, [], ◌∷◌, nat_eq, if◌then◌else◌}
use Rattle.sparc_code.specs.declared.instruction.ArithOp.{ArithOp}
use Rattle.sparc_code.specs.declared.instruction.ArithOp.TheVariants.{Add, And, Or, Xor, Sub, AndNot, SignedMultiply, AddCc, AndCc, OrCc, XorCc, SubCc, ShiftLeft, ShiftRightLogical, ShiftRightArithmetic, JumpAndLink}
use Rattle.sparc_code.specs.declared.instruction.Cond.{Cond}
use Rattle.sparc_code.specs.declared.instruction.Cond.TheVariants.{Never, Equal, LessOrEqual, Less, LessOrEqualUnsigned, CarrySet, Negative, OverflowSet, Always, NotEqual, Greater, GreaterOrEqual, GreaterUnsigned, CarryClear, Positive, OverflowClear}

-- op3 of an operation
abbrev pub op3_of : ArithOp → ℕ
op3_of Add = 0x00
op3_of And = 0x01
op3_of Or = 0x02
op3_of Xor = 0x03
op3_of Sub = 0x04
op3_of AndNot = 0x05
op3_of SignedMultiply = 0x0B
op3_of AddCc = 0x10
op3_of AndCc = 0x11
op3_of OrCc = 0x12
op3_of XorCc = 0x13
op3_of SubCc = 0x14
op3_of ShiftLeft = 0x25
op3_of ShiftRightLogical = 0x26
op3_of ShiftRightArithmetic = 0x27
op3_of JumpAndLink = 0x38

-- cond of a condition
abbrev pub number_of : Cond → ℕ
number_of Never = 0
number_of Equal = 1
number_of LessOrEqual = 2
number_of Less = 3
number_of LessOrEqualUnsigned = 4
number_of CarrySet = 5
number_of Negative = 6
number_of OverflowSet = 7
number_of Always = 8
number_of NotEqual = 9
number_of Greater = 10
number_of GreaterOrEqual = 11
number_of GreaterUnsigned = 12
number_of CarryClear = 13
number_of Positive = 14
number_of OverflowClear = 15

abbrev pub all_ops : List ArithOp
all_ops = Add ∷ And ∷ Or ∷ Xor ∷ Sub ∷ AndNot ∷ SignedMultiply ∷ AddCc ∷ AndCc ∷ OrCc ∷ XorCc ∷ SubCc ∷ ShiftLeft ∷ ShiftRightLogical ∷ ShiftRightArithmetic ∷ JumpAndLink ∷ []

abbrev pub all_conds : List Cond
all_conds = Never ∷ Equal ∷ LessOrEqual ∷ Less ∷ LessOrEqualUnsigned ∷ CarrySet ∷ Negative ∷ OverflowSet ∷ Always ∷ NotEqual ∷ Greater ∷ GreaterOrEqual ∷ GreaterUnsigned ∷ CarryClear ∷ Positive ∷ OverflowClear ∷ []

-- the first of a list that has this number
abbrev pub first_with : {A : Type 0} → (A → ℕ) → List A → ℕ → Option A
first_with number [] n = None
first_with number (a ∷ rest) n = if nat_eq (number a) n then Some a else first_with number rest n

-- the operation with this op3
abbrev pub op_at : ℕ → Option ArithOp
op_at n = first_with op3_of all_ops n

-- the condition with this number
abbrev pub cond_at : ℕ → Option Cond
cond_at n = first_with number_of all_conds n
