-- The word of what a trivial function returns (docs/BEAM.md, Trivial functions; docs/FORMAT.md, Atoms, Literals): arguments come in registers and in
-- the x area, constants are words. The root of a literal operand is found by the number of literal operands before it.
use Rattle.std.specs.Prelude.{ℕ, ◌+◌, Option, Some, None, List, [], ◌∷◌, nat_eq, nat_lt, if◌then◌else◌, slice_get, slice_index, take}
use Rattle.beam_code.specs.declared.instr.Operand.{Operand}
use Rattle.beam_code.specs.declared.instr.Operand.TheVariants.{X, Y, Int, Atom, Nil, Literal}
use Rattle.beam_code.specs.declared.module.Function.{Function}
use Rattle.beam_code.specs.declared.module.Module.{Module}
use Rattle.beam_code.specs.Lined.{Lined}
use Rattle.ir_code.specs.Constants.{Constants}
use Rattle.tagged_words.specs.Laid.{atom_number}
use Rattle.tagged_words.specs.Word.{small_word, atom_word, nil_word}
use Rattle.trivial_code.specs.declared.emitting.Given.{Given}
use Rattle.trivial_code.specs.declared.emitting.Given.TheVariants.{Came, Register, Area, Word}
use Rattle.trivial_code.specs.declared.trivial.Origin.{Origin}
use Rattle.trivial_code.specs.declared.trivial.Origin.TheVariants.{Argument, Moved}
use Rattle.trivial_code.specs.Trivial.{moved_operand}

-- ---- how many literal operands there are

abbrev pub literals_at : Option Operand → ℕ
literals_at (Some (Literal term)) = 1
literals_at _ = 0

abbrev pub literals_in : List Lined → ℕ
literals_in [] = 0
literals_in (i ∷ is) = literals_at (moved_operand i.instr) + literals_in is

abbrev pub literals_among : List Function → ℕ
literals_among [] = 0
literals_among (f ∷ fs) = literals_in f.items + literals_among fs

abbrev pub literals_within : List Module → ℕ
literals_within [] = 0
literals_within (m ∷ ms) = literals_among m.functions + literals_within ms

-- ---- words

-- the word of a constant, where so many literal operands stand before it
abbrev pub constant_word : Constants → ℕ → Operand → ℕ
constant_word c before (X n) = nil_word
constant_word c before (Y n) = nil_word
constant_word c before (Int value) = small_word value
constant_word c before (Atom a) = atom_word (atom_number c.atoms a)
constant_word c before Nil = nil_word
constant_word c before (Literal term) = slice_index c.roots before

abbrev pub operand_word : Constants → ℕ → Option Operand → ℕ
operand_word c before None = nil_word
operand_word c before (Some from) = constant_word c before from

abbrev pub item_word : Constants → ℕ → Option Lined → ℕ
item_word c before None = nil_word
item_word c before (Some i) = operand_word c before (moved_operand i.instr)

-- the first five arguments come in registers, of which the first is that of what is returned
abbrev pub argument : ℕ → Given
argument n = if nat_eq n 0 then Came else if nat_lt n 5 then Register n else Area n

-- what is returned by a function with these items, where so many literal operands stand before it
abbrev pub given_by : Constants → ℕ → List Lined → Origin → Given
given_by c before items (Argument n) = argument n
given_by c before items (Moved at) = Word (item_word c (before + literals_in (take at items)) (slice_get items at))
