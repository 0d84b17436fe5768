use Rattle.std.proofs.Common.{length, ◌-◌, ◌≤◌, ◌≡◌, take}
use Rattle.hipe_base.specs.Sink.{with_more, FallsBy}
use Rattle.hipe_base.proofs.writing.put.Given as goal

abbrev pub invariant-loop-written : goal.invariant-loop-written
invariant-loop-written g l = record {
  within : l.written ≤ length l.bytes;
  bytes : (g.S.Sink.seen l.sink).written ≡ with_more (g.S.Sink.seen l.fn.sink).written (take l.written l.bytes);
  room : FallsBy l.written (g.S.Sink.seen l.fn.sink).room (g.S.Sink.seen l.sink).room;
  later : (g.S.Sink.seen l.fn.sink).faults ≤ (g.S.Sink.seen l.sink).faults;
}

abbrev pub decreases-loop-written : goal.decreases-loop-written
decreases-loop-written g l = length l.bytes - l.written
