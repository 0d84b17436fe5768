-- Instructions and words: The SPARC Architecture Manual, Version 8, appendix B (the format at each instruction) and section 5.1 (formats).
use Rattle.std.specs.Prelude.{ℕ, ◌^◌, ◌<◌, Bool, true, false, Option, Some, None, nat_eq, if◌then◌else◌}
use Rattle.std.specs.Option.{option_and_then}
use Rattle.sparc_code.specs.declared.instruction.Instr.{Instr}
use Rattle.sparc_code.specs.declared.instruction.Instr.TheVariants.{Call, Sethi, Branch, Arith, ReadY, Load, Store}
use Rattle.sparc_code.specs.declared.instruction.Source.{Source}
use Rattle.sparc_code.specs.declared.instruction.Source.TheVariants.{Reg, Imm}
use Rattle.sparc_code.specs.Bits.{joined, field_at, unsigned_of, signed_of, IsWithin}
use Rattle.sparc_code.specs.Tables.{op3_of, number_of, op_at, cond_at}

-- a register has one of the 32 numbers
abbrev pub IsRegister : ℕ → Type 0
IsRegister n = n < 32

-- a second operand fits its 14 bits
abbrev pub IsSource : Source → Type 0
IsSource (Reg n) = IsRegister n
IsSource (Imm z) = IsWithin 13 z

-- each part of an instruction fits its bits
abbrev pub IsInWidth : Instr → Type 0
IsInWidth (Call disp) = IsWithin 30 disp
IsInWidth (Sethi rd imm) = IsRegister rd × (imm < 2 ^ 22)
IsInWidth (Branch cond annul disp) = IsWithin 22 disp
IsInWidth (Arith op rd rs1 src) = IsRegister rd × IsRegister rs1 × IsSource src
IsInWidth (ReadY rd) = IsRegister rd
IsInWidth (Load rd rs1 src) = IsRegister rd × IsRegister rs1 × IsSource src
IsInWidth (Store rd rs1 src) = IsRegister rd × IsRegister rs1 × IsSource src

-- the lower 14 bits: i, and a register with the 8 bits of asi zero, or simm13
abbrev pub source_of : Source → ℕ
source_of (Reg n) = n
source_of (Imm z) = joined 1 13 (unsigned_of 13 z)

abbrev pub annul_bit : Bool → ℕ
annul_bit true = 1
annul_bit false = 0

-- format 2, for SETHI: op, rd, op2, imm22
abbrev pub sethi_of : ℕ → ℕ → ℕ
sethi_of rd imm = joined (joined rd 3 4) 22 imm

-- format 2, for branches: op, a, cond, op2, disp22
abbrev pub branch_of : ℕ → ℕ → ℕ → ℕ
branch_of a cond disp = joined (joined (joined a 4 cond) 3 2) 22 disp

-- format 3: op, rd, op3, rs1, and the lower 14 bits
abbrev pub format3_of : ℕ → ℕ → ℕ → ℕ → ℕ → ℕ
format3_of op rd op3 rs1 source = joined (joined (joined (joined op 5 rd) 6 op3) 5 rs1) 14 source

-- the word of an instruction
abbrev pub encoded : Instr → ℕ
encoded (Call disp) = joined 1 30 (unsigned_of 30 disp)
encoded (Sethi rd imm) = sethi_of rd imm
encoded (Branch cond annul disp) = branch_of (annul_bit annul) (number_of cond) (unsigned_of 22 disp)
encoded (Arith op rd rs1 src) = format3_of 2 rd (op3_of op) rs1 (source_of src)
encoded (ReadY rd) = format3_of 2 rd 0x28 0 0
encoded (Load rd rs1 src) = format3_of 3 rd 0x00 rs1 (source_of src)
encoded (Store rd rs1 src) = format3_of 3 rd 0x04 rs1 (source_of src)

-- the second operand of a word
abbrev pub source_at : ℕ → Option Source
source_at word =
    if nat_eq (field_at word 13 1) 1 then Some (Imm (signed_of 13 (field_at word 0 13)))
    else if nat_eq (field_at word 5 8) 0 then Some (Reg (field_at word 0 5))
    else None

-- op 0: SETHI and branches
abbrev pub format2_at : ℕ → Option Instr
format2_at word =
    if nat_eq (field_at word 22 3) 4 then Some (Sethi (field_at word 25 5) (field_at word 0 22))
    else if nat_eq (field_at word 22 3) 2 then option_and_then (λ cond. Some (Branch cond (nat_eq (field_at word 29 1) 1) (signed_of 22 (field_at word 0 22)))) (cond_at (field_at word 25 4))
    else None

-- op 2: arithmetic, and the read of Y, which has no operands
abbrev pub arith_at : ℕ → Option Instr
arith_at word =
    if nat_eq (field_at word 19 6) 0x28 then (if nat_eq (field_at word 0 19) 0 then Some (ReadY (field_at word 25 5)) else None)
    else option_and_then (λ op. option_and_then (λ src. Some (Arith op (field_at word 25 5) (field_at word 14 5) src)) (source_at word)) (op_at (field_at word 19 6))

-- op 3: load and store
abbrev pub memory_at : ℕ → Option Instr
memory_at word =
    if nat_eq (field_at word 19 6) 0x00 then option_and_then (λ src. Some (Load (field_at word 25 5) (field_at word 14 5) src)) (source_at word)
    else if nat_eq (field_at word 19 6) 0x04 then option_and_then (λ src. Some (Store (field_at word 25 5) (field_at word 14 5) src)) (source_at word)
    else None

-- the instruction of a word
abbrev pub decoded : ℕ → Option Instr
decoded word =
    if nat_eq (field_at word 30 2) 0 then format2_at word
    else if nat_eq (field_at word 30 2) 1 then Some (Call (signed_of 30 (field_at word 0 30)))
    else if nat_eq (field_at word 30 2) 2 then arith_at word
    else memory_at word
