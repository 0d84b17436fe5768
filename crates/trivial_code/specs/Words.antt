-- The native words of a trivial function (docs/MACHINE.md, Entry).
use Rattle.std.specs.Prelude.{ℕ, pos, ◌+◌, ◌*◌, ◌/◌, ◌%◌, ◌^◌, ◌<◌, List, [], ◌∷◌, ◌++◌, map, false}
use Rattle.mode_switch.specs.declared.addresses.TheConstants.{GATE_START, X_WORDS}
use Rattle.sparc_code.specs.declared.instruction.Instr.{Instr}
use Rattle.sparc_code.specs.declared.instruction.Instr.TheVariants.{Sethi, Branch, Arith, Load}
use Rattle.sparc_code.specs.declared.instruction.Source.TheVariants.{Reg, Imm}
use Rattle.sparc_code.specs.declared.instruction.ArithOp.TheVariants.{Or, Sub, SubCc, JumpAndLink}
use Rattle.sparc_code.specs.declared.instruction.Cond.TheVariants.{Equal, CarrySet}
use Rattle.sparc_code.specs.Code.{encoded}
use Rattle.trivial_code.specs.declared.emitting.Given.{Given}
use Rattle.trivial_code.specs.declared.emitting.Given.TheVariants.{Came, Register, Area, Word}

-- the upper 22 bits and the lower 10 bits of a word
abbrev pub upper : ℕ → ℕ
upper w = w / 2 ^ 10

abbrev pub lower : ℕ → ℕ
lower w = w % 2 ^ 10

-- the upper bits of the gates' addresses
abbrev pub gate_page : ℕ
gate_page = upper GATE_START

-- nothing is asked of a delay slot
abbrev pub nop : Instr
nop = Sethi 0 0

-- the entry of a function whose frame has so many words. %g6 has the reductions left, %g5 the stack limit, %o6 the
-- stack pointer, %o7 the return
abbrev pub entry_instrs : ℕ → List Instr
entry_instrs cost =
    Arith SubCc 0 6 (Imm (pos 0))  -- are reductions left?
    ∷ Branch Equal false (pos 10)  -- if not, on to the first end
    ∷ Sethi 1 gate_page
    ∷ Arith Sub 6 6 (Imm (pos 1))  -- one is taken
    ∷ Arith Sub 23 14 (Imm (pos (4 * cost)))  -- where the frame would begin
    ∷ Arith SubCc 0 23 (Reg 5)  -- is it below the limit?
    ∷ Branch CarrySet false (pos 7)  -- if so, on to the second end
    ∷ nop
    ∷ []

-- what is returned can be: an argument register, a place of the x area, a word
abbrev pub FitsWord : Given → Type 0
FitsWord Came = Unit {0}
FitsWord (Register number) = number < 5
FitsWord (Area number) = number < X_WORDS
FitsWord (Word w) = w < 2 ^ 32

-- what is returned comes into %o0, a word in its two parts; what came there stays. %g7 has the x area
abbrev pub high_part : Given → Instr
high_part Came = nop
high_part (Register number) = nop
high_part (Area number) = nop
high_part (Word w) = Sethi 8 (upper w)

abbrev pub low_part : Given → Instr
low_part Came = nop
low_part (Register number) = Arith Or 8 0 (Reg (8 + number))
low_part (Area number) = Load 8 7 (Imm (pos (4 * number)))
low_part (Word w) = Arith Or 8 8 (Imm (pos (lower w)))

abbrev pub return_instrs : Given → List Instr
return_instrs given = high_part given ∷ Arith JumpAndLink 0 15 (Imm (pos 8)) ∷ low_part given ∷ []

-- the two ends of an entry: gates 1 and 2, reached with %o6 and %o7 as at the entry
abbrev pub end_instrs : List Instr
end_instrs =
    Arith JumpAndLink 0 1 (Imm (pos 4))  -- out of reductions
    ∷ nop
    ∷ Arith JumpAndLink 0 1 (Imm (pos 8))  -- no room on the stack
    ∷ nop
    ∷ []

-- a function that returns this, and whose frame has so many words
abbrev pub trivial_instrs : Given → ℕ → List Instr
trivial_instrs given cost = entry_instrs cost ++ return_instrs given ++ end_instrs

abbrev pub trivial_words : Given → ℕ → List ℕ
trivial_words given cost = map encoded (trivial_instrs given cost)
