-- Modules whose runs the laws speak of: in the profile, and formed as their texts are (docs/BEAM.md, Forms and Rules).
use Rattle.std.specs.Prelude.{◌≡◌, ◌≤◌, Bool, true, ◌&&◌, is_some, List, length, Some, slice_get}
use Rattle.std.specs.List.{Contains, list_all}
use Rattle.beam_code.specs.declared.module.Function.{Function}
use Rattle.beam_code.specs.declared.module.Module.{Module}
use Rattle.beam_code.specs.BuiltIns.{inline_number, test_number}
use Rattle.beam_code.specs.Function.{Placed, all_functions, label_in}
use Rattle.beam_code.specs.Lined.{Lined}
use Rattle.beam_code.specs.Shape.{Shape, Tests, Computes, Passes, shape_of}
use Rattle.beam_code.specs.State.{x_registers}
use Rattle.path_rules.specs.Points.{labels_of}
use Rattle.path_rules.specs.Profile.{InProfile}
use Rattle.path_rules.specs.Ranges.{is_in_range}

-- a test and a built-in of an instruction are those of the tables
abbrev pub is_known : Shape → Bool
is_known (Tests name operands label) = is_some (test_number name (length operands))
is_known (Computes name operands fail live to) = is_some (inline_number name (length operands))
is_known _ = true

-- each label that an item leads to is one of the function
abbrev pub has_labels : Function → Shape → Bool
has_labels f shape = list_all (λ label. is_some (label_in f label)) (labels_of shape)

abbrev pub is_formed : Function → Shape → Bool
is_formed f shape = is_in_range shape && is_known shape && has_labels f shape

-- calls begin at a label, with no more arguments than there are registers
pub record IsFormed (f : Function) : Type 0 where
  pub arity : f.arity ≤ x_registers
  pub entry : Lined
  pub begins : slice_get f.items f.entry ≡ Some entry
  pub passes : shape_of entry.instr ≡ Passes
  pub items : list_all (λ i. is_formed f (shape_of i.instr)) f.items ≡ true

pub record AreChecked (ms : List Module) : Type 0 where
  pub profile : InProfile ms
  pub formed : (f : Placed) → Contains (all_functions ms) f → IsFormed f.function
