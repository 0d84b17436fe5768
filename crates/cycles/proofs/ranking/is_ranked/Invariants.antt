use Rattle.std.proofs.Common.{ℕ, ◌<◌, slice_index}
use Rattle.std.specs.List.{Contains}
use Rattle.liveness.specs.Live.{list_of}
use Rattle.cycles.proofs.ranking.is_ranked.Given as goal

abbrev pub invariant-loop-node : goal.invariant-loop-node
invariant-loop-node l = (a b : ℕ) → a < l.node → Contains (list_of l.next a) b → slice_index l.ranks b < slice_index l.ranks a
