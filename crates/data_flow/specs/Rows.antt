-- What is still needed behind each node (README.md, Needs).
use Rattle.std.specs.Prelude.{◌≡◌, ℕ, ◌+◌, ◌-◌, ◌*◌, ◌^◌, ◌<◌, ◌≤◌, min, max, Bool, ◌&&◌, nat_eq, List, [], ◌∷◌, ◌++◌, ◌⊎◌, length, slice_get, slice_set}
use Rattle.std.specs.List.{Contains}
use Rattle.paths.specs.Paths.{Free}
use Rattle.paths.specs.Rules.{Holds}
use Rattle.data_flow.specs.declared.flow.Change.{Change}
use Rattle.data_flow.specs.declared.flow.Change.TheVariants.{Keeps, Spends, Asks}
use Rattle.data_flow.specs.declared.flow.Flow.{Flow}
use Rattle.data_flow.specs.declared.flow.Need.{Need}
use Rattle.data_flow.specs.declared.flow.Node.{Node}
use Rattle.data_flow.specs.declared.flow.Point.{Point}
use Rattle.data_flow.specs.declared.flow.Step.{Step}
use Rattle.path_search.specs.Found.{row_of}
use Rattle.data_flow.specs.Names.{meet, join, same, spare_names, Within}
use Rattle.data_flow.specs.Flow.{reads_at, puts_at, steps_at, steps_of, need_at, flow_ways}

-- the first is no more than the second
pub record IsLess (m n : Need) : Type 0 where
  pub names : Within m.names n.names
  pub count : m.count ≤ n.count

-- the same of what a path has
pub record Has (p : Point) (n : Need) : Type 0 where
  pub names : Within n.names p.names
  pub count : n.count ≤ p.count

abbrev pub both : Need → Need → Need
both m n = record { names = join m.names n.names; count = max m.count n.count }

-- the count that is needed before a step, where so much is needed behind it, up to the bound
abbrev pub count_before : ℕ → ℕ → Change → ℕ → ℕ
count_before bound puts Keeps count = min bound count
count_before bound puts Spends count = min bound (puts + count)
count_before bound puts (Asks n) count = 0

-- what is needed at a node for a step from there
abbrev pub before : ℕ → ℕ → List Need → Step → Need
before bound puts needs s = record {
  names = meet (need_at needs s.to).names s.keep;
  count = count_before bound puts s.change (need_at needs s.to).count;
}

abbrev pub before_at : Flow → List Need → ℕ → Step → Need
before_at flow needs node s = before flow.bound (puts_at flow node) needs s

-- what is needed for the node itself
abbrev pub own_need : Flow → ℕ → Need
own_need flow node = record { names = reads_at flow node; count = min flow.bound (puts_at flow node) }

abbrev pub ahead_from : ℕ → ℕ → List Need → Need → List Step → Need
ahead_from bound puts needs all [] = all
ahead_from bound puts needs all (s ∷ ss) = ahead_from bound puts needs (both all (before bound puts needs s)) ss

-- what one look at a node finds
abbrev pub looked : Flow → List Need → ℕ → Need
looked flow needs node = ahead_from flow.bound (puts_at flow node) needs (both (need_at needs node) (own_need flow node)) (steps_at flow node)

abbrev pub same_need : Need → Need → Bool
same_need m n = same m.names n.names && nat_eq m.count n.count

-- nothing is missing
pub record IsClosedAt (flow : Flow) (needs : List Need) (node : ℕ) : Type 0 where
  pub own : IsLess (own_need flow node) (need_at needs node)
  pub ahead : (s : Step) → Contains (steps_at flow node) s → IsLess (before_at flow needs node s) (need_at needs node)

abbrev pub IsClosed : Flow → List Need → Type 0
IsClosed flow needs = (node : ℕ) → IsClosedAt flow needs node

-- nothing is too much: where no path lacks anything, each has what is needed where it ends
abbrev pub AreNeeded : Flow → List Need → Type 0
AreNeeded flow needs = Holds (flow_ways flow) → (n : ℕ) (p : Point) → Free (flow_ways flow).graph n p → Has p (need_at needs p.item)

-- for each node the nodes that lead to it
pub record IsBackwardOf (nodes : List Node) (prev : List (List ℕ)) : Type 0 where
  pub wide : length prev ≡ length nodes
  pub has : (node : ℕ) (s : Step) → Contains (steps_of (slice_get nodes node)) s → s.to < length prev → Contains (row_of prev s.to) node

-- a node goes to the rows of those to which its steps lead
pub record Notes (node : ℕ) (steps : List Step) (prev new : List (List ℕ)) : Type 0 where
  pub long : length new ≡ length prev
  pub keeps : (i k : ℕ) → Contains (row_of prev i) k → Contains (row_of new i) k
  pub has : (s : Step) → Contains steps s → s.to < length prev → Contains (row_of new s.to) node

-- how far the needs are from full
abbrev pub spare_need : Need → ℕ
spare_need n = spare_names n.names + (2 ^ 32 - n.count)

abbrev pub spare : List Need → ℕ
spare [] = 0
spare (n ∷ ns) = spare_need n + spare ns

-- a look at a node: its need is as it was, or has grown and the node is pending
abbrev pub Visits : Flow → ℕ → List Need → List ℕ → List Need → List ℕ → Type 0
Visits flow node needs pending new more =
    ((new ≡ needs) × (more ≡ pending) × ((node < length needs) → looked flow needs node ≡ need_at needs node))
    ⊎ ((node < length needs) × (new ≡ slice_set needs node (looked flow needs node)) × (more ≡ pending ++ node ∷ []) × (spare new < spare needs))

-- nothing is missing at a node but for what is pending, or is excepted
pub record IsClosedBut (flow : Flow) (needs : List Need) (pending : List ℕ) (Except : ℕ → ℕ → Type 0) (node : ℕ) : Type 0 where
  pub own : IsLess (own_need flow node) (need_at needs node)
  pub ahead : (s : Step) → Contains (steps_at flow node) s → IsLess (before_at flow needs node s) (need_at needs node) ⊎ Contains pending s.to ⊎ Except node s.to

-- looks at these nodes, one after the other
abbrev pub Spreads : Flow → List ℕ → List Need → List ℕ → List Need → List ℕ → Type 0
Spreads flow [] needs pending new more = (new ≡ needs) × (more ≡ pending)
Spreads flow (k ∷ ks) needs pending new more = (m : List Need) × (q : List ℕ) × Visits flow k needs pending m q × Spreads flow ks m q new more

abbrev pub NoException : ℕ → ℕ → Type 0
NoException node to = ⊥

-- nothing is too much, and nothing is missing but for pending nodes
pub record IsSettling (flow : Flow) (needs : List Need) (pending : List ℕ) : Type 0 where
  pub needed : AreNeeded flow needs
  pub long : length needs ≡ length flow.nodes
  pub low : (k : ℕ) → Contains pending k → k < length needs
  pub closed : (node : ℕ) → IsClosedBut flow needs pending NoException node

abbrev pub work : List Need → List ℕ → ℕ
work needs pending = 2 * spare needs + length pending

-- the last i nodes were looked at
pub record FirstLooks (flow : Flow) (needs : List Need) (pending : List ℕ) (i : ℕ) : Type 0 where
  pub needed : AreNeeded flow needs
  pub long : length needs ≡ length flow.nodes
  pub low : (k : ℕ) → Contains pending k → k < length needs
  pub closed : (node : ℕ) → length flow.nodes ≤ node + i → IsClosedBut flow needs pending NoException node
