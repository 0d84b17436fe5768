-- The numbers of registers and stacks that the profile allows (docs/BEAM.md, Forms).
use Rattle.std.specs.Prelude.{ℕ, Bool, true, ◌&&◌, nat_le, nat_lt}
use Rattle.std.specs.List.{list_all}
use Rattle.beam_code.specs.declared.instr.Operand.{Operand}
use Rattle.beam_code.specs.declared.instr.Operand.TheVariants.{X}
use Rattle.beam_code.specs.declared.instr.Place.{Place}
use Rattle.beam_code.specs.declared.instr.Place.TheVariants as place
use Rattle.beam_code.specs.declared.module.Function.{Function}
use Rattle.beam_code.specs.Shape.{Shape, Stacks, StackOp, Allocates, shape_of}
use Rattle.beam_code.specs.State.{x_registers}
use Rattle.path_rules.specs.Points.{y_registers}
use Rattle.path_rules.specs.Registers.{places_of, reads_of}

abbrev pub operand_in_range : Operand → Bool
operand_in_range (X n) = nat_lt n x_registers
operand_in_range _ = true

abbrev pub place_in_range : Place → Bool
place_in_range (place.X n) = nat_lt n x_registers
place_in_range (place.Y n) = true

abbrev pub allocated_by : StackOp → ℕ
allocated_by (Allocates n need live) = n
allocated_by _ = 0

-- how many y registers an item allocates
abbrev pub allocated : Shape → ℕ
allocated (Stacks op) = allocated_by op
allocated _ = 0

-- each x register that an item reads or gives a value is there, and no stack is too large
abbrev pub is_in_range : Shape → Bool
is_in_range shape = list_all operand_in_range (reads_of shape) && list_all place_in_range (places_of shape) && nat_le (allocated shape) y_registers

abbrev pub all_in_range : Function → Bool
all_in_range f = list_all (λ i. is_in_range (shape_of i.instr)) f.items
