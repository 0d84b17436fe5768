-- The flow of a function for one of the two rules (README.md, Flows).
use Rattle.std.specs.Prelude.{◌≡◌, ℕ, ◌<◌, ◌^◌, Bool, true, false, Option, Some, None, List, [], ◌∷◌, length, max, map, slice_get, if◌then◌else◌}
use Rattle.std.specs.List.{Contains}
use Rattle.beam_code.specs.declared.module.Function.{Function}
use Rattle.beam_code.specs.declared.module.Module.{Module}
use Rattle.beam_code.specs.Lined.{Lined}
use Rattle.beam_code.specs.Shape.{Shape, shape_of}
use Rattle.data_flow.specs.declared.flow.Change.{Change}
use Rattle.data_flow.specs.declared.flow.Change.TheVariants.{Keeps}
use Rattle.data_flow.specs.declared.flow.Flow.{Flow}
use Rattle.data_flow.specs.declared.flow.Node.{Node}
use Rattle.data_flow.specs.declared.flow.Step.{Step}
use Rattle.data_flow.specs.declared.names.Names.{Names}
use Rattle.data_flow.specs.Flow.{asked}
use Rattle.data_flow.specs.Names.{no_names}
use Rattle.path_rules.specs.declared.frame_table.Frame.{Frame}
use Rattle.path_rules.specs.declared.rule.Rule.{Rule}
use Rattle.path_rules.specs.declared.rule.Rule.TheVariants.{HeapUncovered}
use Rattle.path_rules.specs.Registers.{cell_words, implied_xs, operands_of}
use Rattle.path_flows.specs.declared.way.Way.{Way}
use Rattle.path_flows.specs.Sets.{below, with_operands, without}
use Rattle.path_flows.specs.Ways.{change_of, ways_of}

-- whether the rule looks at heap words, and not at registers
abbrev pub counts_words : Rule → Bool
counts_words HeapUncovered = true
counts_words _ = false

-- what is kept: what is lost and what is added is not
abbrev pub kept : Way → Names
kept w = without (without (below w.xs w.slots) w.lost) w.gain

abbrev pub seen_change : Bool → Change → Change
seen_change counts c = if counts then c else Keeps

abbrev pub step_of : Bool → Way → Step
step_of counts w = record { to = w.to; keep = kept w; gain = w.gain; change = seen_change counts w.change }

-- the registers that an item reads
abbrev pub read_names : Option ℕ → Shape → Names
read_names stack shape = with_operands stack (operands_of shape) (below (implied_xs shape) 0)

abbrev pub seen_reads : Bool → Option ℕ → Shape → Names
seen_reads counts stack shape = if counts then no_names else read_names stack shape

abbrev pub seen_puts : Bool → Shape → ℕ
seen_puts counts shape = if counts then cell_words shape else 0

abbrev pub node_of : List Module → Function → Bool → Frame → ℕ → Shape → Node
node_of ms f counts frame item shape = record {
  reads = seen_reads counts frame.stack shape;
  puts = seen_puts counts shape;
  steps = map (step_of counts) (ways_of ms f frame item shape);
}

abbrev pub no_node : Node
no_node = record { reads = no_names; puts = 0; steps = [] }

abbrev pub frame_in : Option (Option Frame) → Option Frame
frame_in None = None
frame_in (Some frame) = frame

-- an item that no path comes to has no way on
abbrev pub node_where : List Module → Function → Bool → Option Frame → ℕ → Option Lined → Node
node_where ms f counts (Some frame) item (Some i) = node_of ms f counts frame item (shape_of i.instr)
node_where ms f counts _ item _ = no_node

abbrev pub node_at : List Module → Function → Bool → List (Option Frame) → ℕ → Node
node_at ms f counts frames item = node_where ms f counts (frame_in (slice_get frames item)) item (slice_get f.items item)

-- a node an item
pub record AreNodes (ms : List Module) (f : Function) (counts : Bool) (frames : List (Option Frame)) (nodes : List Node) : Type 0 where
  pub long : length nodes ≡ length f.items
  pub each : (i : ℕ) → i < length f.items → slice_get nodes i ≡ Some (node_at ms f counts frames i)

-- no cell is too large to be counted
abbrev pub AreCells : List Lined → Type 0
AreCells items = (i : Lined) → Contains items i → cell_words (shape_of i.instr) < 2 ^ 32

abbrev pub need_of : Lined → ℕ
need_of i = asked (change_of (shape_of i.instr))

-- the most that an item asks for
abbrev pub most_need : List Lined → ℕ
most_need [] = 0
most_need (i ∷ is) = max (need_of i) (most_need is)

pub record IsFlowOf (ms : List Module) (f : Function) (counts : Bool) (frames : List (Option Frame)) (flow : Flow) : Type 0 where
  pub start : flow.start ≡ f.entry
  pub first : flow.first ≡ below f.arity 0
  pub nodes : AreNodes ms f counts frames flow.nodes
  pub bound : flow.bound ≡ most_need f.items
