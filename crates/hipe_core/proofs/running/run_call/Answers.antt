-- The machine that was opened is run.
use Rattle.hipe_core.proofs.RunningLaw.{runs_opened}
use Rattle.hipe_core.proofs.running.run_call.Goals as goal
use Rattle.hipe_core.specs.Running.{called}

pub returns-in-Ok : goal.returns-in-Ok
returns-in-Ok g c =
    runs_opened c.say_run.result c.args.image (called c.args.file.now c.args.entry.now c.args.call c.args.limits) c.new.result.items c.in-Ok.machine
    (g.O.Sink.seen c.args.out.now) (g.O.Sink.seen c.say_run.new.out) c.new.ensures.items c.in-Ok.ensures.opened c.say_run.ensures
