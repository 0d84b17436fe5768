-- The run of the image that was read.
use Rattle.hipe_core.proofs.RunningLaw.{runs_bytes}
use Rattle.hipe_core.proofs.running.run_bytes.Goals as goal
use Rattle.hipe_core.specs.Running.{called}

pub returns-in-Ok : goal.returns-in-Ok
returns-in-Ok g c =
    runs_bytes c.run_call.result c.args.bytes.now (called c.args.file.now c.args.entry.now c.args.call c.args.limits) c.in-Ok.image
    (g.O.Sink.seen c.args.out.now) (g.O.Sink.seen c.run_call.new.out) c.in-Ok.ensures.answer c.run_call.ensures
