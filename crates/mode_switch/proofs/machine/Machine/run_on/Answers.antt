-- Each step leads on to where the run leads, or there.
use Rattle.std.proofs.Common.{◌^◌, ◌<◌, ◌∙◌, arith}
use Rattle.mode_switch.proofs.Runs.{GoesOn, run_ends, run_goes_on}
use Rattle.mode_switch.proofs.machine.Machine.run_on.Goals as goal

pub returns-in-Done : goal.returns-in-Done
returns-in-Done c =
    let lt : c.loop-self.self.steps < c.bound-bound.result = rw (← c.self-in-loop-self.view_is) c.loop-self-test.true in
    let fits : c.bound-bound.result < 2 ^ 64 = omega arith in
    record {
      run = run_ends c.loop-self.self c.step.new.self c.bound-bound.result c.in-Done.outcome c.loop-self.invariant.going c.loop-self.invariant.bounded lt fits c.in-Done.ensures.machine c.in-Done.ensures.answer
          ∙ c.loop-self.invariant.same;
      atoms = c.in-Done.ensures.atoms;
    }

pub loop-self-smaller : goal.loop-self-smaller
loop-self-smaller c =
    let lt : c.loop-self.self.steps < c.bound-bound.result = rw (← c.self-in-loop-self.view_is) c.loop-self-test.true in
    let fits : c.bound-bound.result < 2 ^ 64 = omega arith in
    let on : GoesOn c.loop-self.self c.step.new.self c.bound-bound.result = run_goes_on c.loop-self.self c.step.new.self c.bound-bound.result c.loop-self.invariant.going c.loop-self.invariant.bounded lt fits c.in_default.ensures.machine c.in_default.ensures.answer in
    omega (arith, on.steps, lt)

pub loop-self-preserved : goal.loop-self-preserved
loop-self-preserved c =
    let lt : c.loop-self.self.steps < c.bound-bound.result = rw (← c.self-in-loop-self.view_is) c.loop-self-test.true in
    let fits : c.bound-bound.result < 2 ^ 64 = omega arith in
    let on : GoesOn c.loop-self.self c.step.new.self c.bound-bound.result = run_goes_on c.loop-self.self c.step.new.self c.bound-bound.result c.loop-self.invariant.going c.loop-self.invariant.bounded lt fits c.in_default.ensures.machine c.in_default.ensures.answer in
    record { same = on.same ∙ c.loop-self.invariant.same; going = on.going; bounded = on.bounded }
