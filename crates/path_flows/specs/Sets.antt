-- Registers as names: 256 x registers, and 256 slots of the stack (README.md, Names).
use Rattle.std.specs.Prelude.{ℕ, zero, suc, ◌+◌, ◌-◌, ◌^◌, Bool, false, ◌&&◌, Option, Some, None, List, [], ◌∷◌, nat_eq, nat_lt, bit_or, bit_and, if◌then◌else◌}
use Rattle.std.specs.Int.{bit_not, w128}
use Rattle.beam_code.specs.declared.instr.Operand.{Operand}
use Rattle.beam_code.specs.declared.instr.Operand.TheVariants.{X, Y}
use Rattle.beam_code.specs.declared.instr.Place.{Place}
use Rattle.beam_code.specs.declared.instr.Place.TheVariants as place
use Rattle.data_flow.specs.declared.names.Names.{Names}
use Rattle.data_flow.specs.Names.{join, no_names}

-- the first n answers, the first one lowest
abbrev pub bits_by : ℕ → (ℕ → Bool) → ℕ
bits_by zero test = 0
bits_by (suc n) test = bit_or (bits_by n test) (if test n then 2 ^ n else 0)

-- a word of 128 answers, from a number on
unfoldable pub word : (ℕ → Bool) → ℕ → ℕ
word test from = bits_by 128 (λ i. test (from + i))

-- the x registers that pass, and the slots that pass
unfoldable pub names : (ℕ → Bool) → (ℕ → Bool) → Names
names xs slots = record { a = word xs 0; b = word xs 128; c = word slots 0; d = word slots 128 }

unfoldable pub without : Names → Names → Names
without s t = record {
  a = bit_and s.a (bit_not w128 t.a);
  b = bit_and s.b (bit_not w128 t.b);
  c = bit_and s.c (bit_not w128 t.c);
  d = bit_and s.d (bit_not w128 t.d);
}

-- the first x registers and the first slots
abbrev pub below : ℕ → ℕ → Names
below xs slots = names (λ r. nat_lt r xs) (λ k. nat_lt k slots)

abbrev pub x_name : ℕ → Names
x_name n = names (λ r. nat_eq r n) (λ k. false)

abbrev pub slot_name : ℕ → Names
slot_name n = names (λ r. false) (λ k. nat_eq k n)

-- A y register goes by its slot, counted from the other end of the stack, so that a stack that is trimmed keeps the names of what stays.
abbrev pub y_name : Option ℕ → ℕ → Names
y_name None y = no_names
y_name (Some size) y = if nat_lt y size then slot_name (size - (y + 1)) else no_names

-- whether a slot has a y register that passes
abbrev pub at_slot : Option ℕ → (ℕ → Bool) → ℕ → Bool
at_slot None test k = false
at_slot (Some size) test k = nat_lt k size && test (size - (k + 1))

abbrev pub place_name : Option ℕ → Place → Names
place_name stack (place.X n) = x_name n
place_name stack (place.Y y) = y_name stack y

abbrev pub operand_name : Option ℕ → Operand → Names
operand_name stack (X n) = x_name n
operand_name stack (Y y) = y_name stack y
operand_name stack _ = no_names

abbrev pub with_places : Option ℕ → List Place → Names → Names
with_places stack [] set = set
with_places stack (p ∷ ps) set = with_places stack ps (join set (place_name stack p))

abbrev pub with_operands : Option ℕ → List Operand → Names → Names
with_operands stack [] set = set
with_operands stack (o ∷ os) set = with_operands stack os (join set (operand_name stack o))
