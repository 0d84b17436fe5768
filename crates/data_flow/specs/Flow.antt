-- What paths through a flow have, and where a node lacks something (README.md, Flows).
use Rattle.std.specs.Prelude.{◌≡◌, ℕ, ◌-◌, ◌≤◌, min, Bool, false, ◌&&◌, ◌||◌, not, nat_eq, List, [], Option, Some, None, nat_lt, slice_get, map}
use Rattle.std.specs.List.{Contains}
use Rattle.paths.specs.Rules.{Ways}
use Rattle.data_flow.specs.declared.flow.Change.{Change}
use Rattle.data_flow.specs.declared.flow.Change.TheVariants.{Keeps, Spends, Asks}
use Rattle.data_flow.specs.declared.flow.Flow.{Flow}
use Rattle.data_flow.specs.declared.flow.Need.{Need}
use Rattle.data_flow.specs.declared.flow.Node.{Node}
use Rattle.data_flow.specs.declared.flow.Point.{Point}
use Rattle.data_flow.specs.declared.flow.Step.{Step}
use Rattle.data_flow.specs.declared.names.Names.{Names}
use Rattle.data_flow.specs.Names.{meet, join, same, no_names}

abbrev pub reads_of : Option Node → Names
reads_of None = no_names
reads_of (Some n) = n.reads

abbrev pub puts_of : Option Node → ℕ
puts_of None = 0
puts_of (Some n) = n.puts

abbrev pub steps_of : Option Node → List Step
steps_of None = []
steps_of (Some n) = n.steps

abbrev pub reads_at : Flow → ℕ → Names
reads_at flow node = reads_of (slice_get flow.nodes node)

abbrev pub puts_at : Flow → ℕ → ℕ
puts_at flow node = puts_of (slice_get flow.nodes node)

abbrev pub steps_at : Flow → ℕ → List Step
steps_at flow node = steps_of (slice_get flow.nodes node)

-- what is left of a count, where the node puts so much
abbrev pub changed : Change → ℕ → ℕ → ℕ
changed Keeps puts count = count
changed Spends puts count = count - puts
changed (Asks n) puts count = n

-- where a step leads, and with what
abbrev pub land : ℕ → Point → Step → Point
land puts p s = record { item = s.to; names = join (meet p.names s.keep) s.gain; count = changed s.change puts p.count }

-- a path lacks a name that the node reads, or count that it puts
abbrev pub lacks : Flow → Point → Bool
lacks flow p = not (same (meet (reads_at flow p.item) p.names) (reads_at flow p.item)) || nat_lt p.count (puts_at flow p.item)

abbrev pub start_of : Flow → Point
start_of flow = record { item = flow.start; names = flow.first; count = 0 }

abbrev pub moves_at : Flow → Point → List Point
moves_at flow p = map (land (puts_at flow p.item) p) (steps_at flow p.item)

abbrev pub flow_ways : Flow → Ways Point
flow_ways flow = record {
  graph = record { start = start_of flow; moves = moves_at flow };
  breaks = lacks flow;
  splits = λ p q. false;
  apart = λ p q. false;
}

abbrev pub item_of : Point → ℕ
item_of p = p.item

abbrev pub asked : Change → ℕ
asked (Asks n) = n
asked _ = 0

-- no step keeps what it adds, and none asks for more than the bound
pub record IsFlow (flow : Flow) : Type 0 where
  pub adds : (i : ℕ) (s : Step) → Contains (steps_at flow i) s → meet s.gain s.keep ≡ no_names
  pub asks : (i : ℕ) (s : Step) → Contains (steps_at flow i) s → asked s.change ≤ flow.bound

-- what counts at a node, of a list with a need a node
abbrev pub nothing : Need
nothing = record { names = no_names; count = 0 }

abbrev pub or_nothing : Option Need → Need
or_nothing None = nothing
or_nothing (Some n) = n

abbrev pub need_at : List Need → ℕ → Need
need_at needs node = or_nothing (slice_get needs node)

-- a path with no more than this
abbrev pub cut_to : Need → Point → Point
cut_to n p = record { item = p.item; names = meet p.names n.names; count = min p.count n.count }

abbrev pub cut : List Need → Point → Point
cut needs p = cut_to (need_at needs p.item) p

-- the same paths, with no more than what is needed
abbrev pub cut_ways : Flow → List Need → Ways Point
cut_ways flow needs = record {
  graph = record { start = cut needs (start_of flow); moves = λ p. map (cut needs) (moves_at flow p) };
  breaks = lacks flow;
  splits = λ p q. false;
  apart = λ p q. false;
}

abbrev pub same_point : Point → Point → Bool
same_point p q = nat_eq p.item q.item && same p.names q.names && nat_eq p.count q.count
