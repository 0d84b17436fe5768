use Rattle.std.proofs.Common.{◌≡◌, ◌≤◌, ◌-◌, arith, take, drop, length}
use Rattle.std.proofs.lemmas.List.{length-drop, take_all}
use Rattle.hipe_base.proofs.PutLaws.{with_more-next, FallsBy-again}
use Rattle.hipe_base.proofs.writing.put.Goals as goal

pub loop-written-preserved : goal.loop-written-preserved
loop-written-preserved g c =
    let rest = drop c.loop-written.written c.args.bytes.now in
    let len = length-drop c.loop-written.written c.args.bytes.now in
    let piece : take (length c.args.bytes.now - c.loop-written.written) rest ≡ rest = take_all _ _ (omega arith) in
    let fits : c.in-Ok.n ≤ length rest = rw piece at c.in-Ok.ensures.within.0 in
    record {
      within = omega arith;
      bytes = with_more-next _ _ _ _ _ _ c.loop-written.invariant.bytes (rw piece at c.in-Ok.ensures.bytes);
      room = FallsBy-again _ _ _ _ _ c.loop-written.invariant.room c.in-Ok.ensures.room;
      later = omega arith;
    }
