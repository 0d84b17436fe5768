-- The line of the run is that of the answer, in the state that it came to.
use Rattle.std.proofs.Common.{List, ℕ, subst, sym}
use Rattle.faithful_image.specs.Line.{IsLineOf}
use Rattle.hipe_core.proofs.RunningLaw.{says_run}
use Rattle.hipe_core.proofs.running.say_run.Goals as goal
use Rattle.mode_switch.specs.Machine.{Ran, ran}
use Rattle.std.specs.Prelude.{string_bytes}

pub returns-in-Ok : goal.returns-in-Ok
returns-in-Ok g c =
    let of_run = subst (λ (r : Ran). IsLineOf r (string_bytes c.in-Ok.text, c.in-Ok.status)) c.run-outcome.ensures.run c.in-Ok.ensures.said in
    let text_is = subst (λ (x : List ℕ). IsLineOf (ran c.args.machine.now) (x, c.in-Ok.status)) (sym c.as_str.ensures.value) of_run in
    says_run c.say_line.result c.args.file.now (ran c.args.machine.now) (c.as_str.result.now, c.in-Ok.status)
    (g.O.Sink.seen c.args.out.now) (g.O.Sink.seen c.say_line.new.out) text_is c.say_line.ensures
