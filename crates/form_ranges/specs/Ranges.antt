-- What is read has its registers in range (docs/BEAM.md, Forms).
use Rattle.std.specs.Prelude.{◌≡◌, ℕ, ◌<◌, ◌+◌, ◌≤◌, true, List, length}
use Rattle.std.specs.List.{Contains}
use Rattle.term_tree.specs.declared.term.Term.{Term}
use Rattle.beam_code.specs.declared.instr.Instr.{Instr}
use Rattle.beam_code.specs.declared.module.Function.{Function}
use Rattle.beam_code.specs.declared.module.Module.{Module}
use Rattle.beam_code.specs.Shape.{shape_of}
use Rattle.beam_code.specs.State.{x_registers}
use Rattle.module_forms.specs.Form.{Reads, form_of}
use Rattle.path_rules.specs.Points.{y_registers}
use Rattle.path_rules.specs.Ranges.{all_in_range, is_in_range}
use Rattle.beam_profile.specs.declared.module.TheConstants.{LAST_INDEX}
use Rattle.beam_profile.specs.Whole.{IsModuleOf}

-- the greatest index of a register, where arities are at most 255
pub record IsLast (last : ℕ) : Type 0 where
  pub arities : 255 < x_registers
  pub xs : last < x_registers
  pub ys : last + 1 ≤ y_registers

-- each form that is read is an instruction whose registers are in range
abbrev pub ReadInRange : ℕ → Type 0
ReadInRange last = (t : Term) (i : Instr) → form_of last t ≡ Reads i → is_in_range (shape_of i) ≡ true

-- what the forms of a function say of it: its registers are in range, and its calls begin at one of its items
pub record IsRead (f : Function) : Type 0 where
  pub range : all_in_range f ≡ true
  pub entry : f.entry < length f.items

-- each function of the module that a text gives is read so
abbrev pub FunctionsAreRead : Type 0
FunctionsAreRead = (text : List ℕ) (m : Module) → IsModuleOf LAST_INDEX text m → (f : Function) → Contains m.functions f → IsRead f
