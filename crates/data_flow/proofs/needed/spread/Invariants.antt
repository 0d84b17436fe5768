use Rattle.std.proofs.Common.{◌≡◌, length, take}
use Rattle.data_flow.specs.Rows.{Spreads}
use Rattle.data_flow.proofs.needed.spread.Given as goal

abbrev pub invariant-loop-at : goal.invariant-loop-at
invariant-loop-at l = record {
  spreads : Spreads l.flow (take l.at-index l.nodes) l.initial.needs l.initial.pending.items l.needs l.pending.items;
  long : length l.needs ≡ length l.flow.nodes;
}
