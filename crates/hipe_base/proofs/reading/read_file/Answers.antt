use Rattle.std.proofs.Common.{arith}
use Rattle.hipe_base.proofs.ReadLaws.{Remains-start}
use Rattle.hipe_base.proofs.reading.read_file.Goals as goal

pub pieces-init : goal.pieces-init
pieces-init g c = record {
  opened = c.in_ok-open.ensures.opened;
  remains = rw c.new-bytes.ensures.items (Remains-start _ _ _ c.in_ok-open.ensures.bytes);
  limited = omega arith;
  all_taken = omega arith;
  later = omega arith;
  same = c.in_ok-open.ensures.same;
}
