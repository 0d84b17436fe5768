-- What each way on from an item does to registers and heap words (README.md, Ways).
use Rattle.std.specs.Prelude.{ℕ, ◌+◌, ◌-◌, ◌&&◌, Option, Some, None, List, [], ◌∷◌, ◌++◌, length, nat_lt, if◌then◌else◌}
use Rattle.beam_code.specs.declared.instr.Place.{Place}
use Rattle.beam_code.specs.declared.instr.Place.TheVariants.{X}
use Rattle.beam_code.specs.declared.module.Function.{Function}
use Rattle.beam_code.specs.declared.module.Module.{Module}
use Rattle.beam_code.specs.Function.{label_in}
use Rattle.beam_code.specs.Gates.{may_raise}
use Rattle.beam_code.specs.Shape.{Shape, Stacks, Tags, Computes, Calls, Raises, StackOp, Allocates, Asks, Trims, Frees, Clears, TagOp, CatchEnds}
use Rattle.beam_code.specs.State.{x_registers}
use Rattle.beam_code.specs.Uses.{shape_goes_on}
use Rattle.data_flow.specs.declared.flow.Change.{Change}
use Rattle.data_flow.specs.declared.flow.Change.TheVariants as change
use Rattle.data_flow.specs.declared.names.Names.{Names}
use Rattle.data_flow.specs.Names.{no_names}
use Rattle.path_rules.specs.declared.frame_table.Frame.{Frame}
use Rattle.path_rules.specs.declared.tag.Tag.{Tag}
use Rattle.path_rules.specs.declared.tag.TagKind.{TagKind}
use Rattle.path_rules.specs.Points.{caught_xs, labels_of, y_registers}
use Rattle.path_rules.specs.Registers.{places_of, tag_y}
use Rattle.path_flows.specs.declared.way.Way.{Way}
use Rattle.path_flows.specs.Sets.{below, with_places, y_name}

-- onward: so many x registers are kept

abbrev pub live_xs : Option ℕ → ℕ
live_xs None = x_registers
live_xs (Some live) = live

abbrev pub kept_xs_by : StackOp → ℕ
kept_xs_by (Allocates n need live) = live
kept_xs_by (Asks need live) = live
kept_xs_by _ = x_registers

abbrev pub kept_xs : Shape → ℕ
kept_xs (Stacks op) = kept_xs_by op
kept_xs (Computes name operands fail live to) = live_xs live
kept_xs (Calls target arity leaving) = 0
kept_xs _ = x_registers

-- so many slots

abbrev pub left_slots : Option ℕ → ℕ → ℕ
left_slots None n = 0
left_slots (Some size) n = size - n

abbrev pub kept_slots_by : Option ℕ → StackOp → ℕ
kept_slots_by stack (Allocates n need live) = 0
kept_slots_by stack (Trims n rest) = left_slots stack n
kept_slots_by stack (Frees n) = 0
kept_slots_by stack _ = y_registers

abbrev pub kept_slots : Option ℕ → Shape → ℕ
kept_slots stack (Stacks op) = kept_slots_by stack op
kept_slots stack _ = y_registers

-- but for one y register

abbrev pub lost_by : StackOp → Option ℕ
lost_by (Clears y) = Some y
lost_by _ = None

abbrev pub lost : Shape → Option ℕ
lost (Stacks op) = lost_by op
lost (Tags op) = Some (tag_y op)
lost _ = None

abbrev pub lost_name : Option ℕ → Option ℕ → Names
lost_name stack None = no_names
lost_name stack (Some y) = y_name stack y

-- and these are added

abbrev pub gained_by : TagOp → List Place
gained_by (CatchEnds y) = X 0 ∷ []
gained_by _ = []

abbrev pub gained : Shape → List Place
gained (Tags op) = gained_by op
gained (Calls target arity leaving) = X 0 ∷ []
gained (Raises reason) = X 0 ∷ []
gained shape = places_of shape

-- heap words: those of the item's cell are spent, or some are asked for anew; a call counts as a heap test of none

abbrev pub change_by : StackOp → Change
change_by (Allocates n (Some need) live) = change.Asks need
change_by (Asks need live) = change.Asks need
change_by _ = change.Spends

abbrev pub change_of : Shape → Change
change_of (Stacks op) = change_by op
change_of (Calls target arity leaving) = change.Asks 0
change_of _ = change.Spends

abbrev pub onward_way : Option ℕ → ℕ → Shape → Way
onward_way stack to shape = record {
  to = to;
  xs = kept_xs shape;
  slots = kept_slots stack shape;
  lost = lost_name stack (lost shape);
  gain = with_places stack (gained shape) no_names;
  change = change_of shape;
}

-- nothing is lost on the way to a label
abbrev pub label_way : ℕ → Way
label_way to = record { to = to; xs = x_registers; slots = y_registers; lost = no_names; gain = no_names; change = change.Keeps }

-- a handler finds the terms of the exception in the first x registers, and no heap words
abbrev pub handler_way : TagKind → ℕ → Way
handler_way kind to = record { to = to; xs = 0; slots = y_registers; lost = no_names; gain = below (caught_xs kind) 0; change = change.Asks 0 }

-- all ways on from an item, by the frame that paths have there

abbrev pub onward_ways : Function → Option ℕ → ℕ → Shape → List Way
onward_ways f stack item shape = if shape_goes_on shape && nat_lt (item + 1) (length f.items) then onward_way stack (item + 1) shape ∷ [] else []

abbrev pub way_to : Option ℕ → List Way
way_to None = []
way_to (Some item) = label_way item ∷ []

abbrev pub label_ways : Function → List ℕ → List Way
label_ways f [] = []
label_ways f (label ∷ labels) = way_to (label_in f label) ++ label_ways f labels

abbrev pub way_to_handler : TagKind → Option ℕ → List Way
way_to_handler kind None = []
way_to_handler kind (Some item) = handler_way kind item ∷ []

abbrev pub handler_ways : Function → Option Tag → List Way
handler_ways f None = []
handler_ways f (Some t) = way_to_handler t.kind (label_in f t.label)

abbrev pub raised_ways : List Module → Function → Option Tag → Shape → List Way
raised_ways ms f lowest shape = if may_raise ms shape then handler_ways f lowest else []

abbrev pub ways_of : List Module → Function → Frame → ℕ → Shape → List Way
ways_of ms f frame item shape = onward_ways f frame.stack item shape ++ (label_ways f (labels_of shape) ++ raised_ways ms f frame.lowest shape)
