use Rattle.std.proofs.Common.{◌<◌, ◌-◌, ◌^◌, List, length, arith}
use Rattle.std.specs.Prelude.{min}
use Rattle.beam_code.specs.Function.{Placed, all_functions, cost_of}
use Rattle.native_link.proofs.Rows.{no_function, one_function_more}
use Rattle.native_link.proofs.places.costs_of.Goals as goal
use Rattle.native_link.proofs.places.costs_of.Goals.{in-Some+in_ok-push-in-Some, in-None}

pub loop-fid-preserved : goal.loop-fid-preserved
loop-fid-preserved c =
    let ps : List Placed = all_functions c.args.checked.now in
    let low : c.loop-fid.fid < length ps = omega (arith, c.loop-fid-test.true, c.functions-fid-end.ensures) in
    elim c.match-function.branch [
      | in-Some+in_ok-push-in-Some w ↦
          let more = one_function_more (λ f. min (cost_of f) (2 ^ 32 - 1)) ps c.loop-fid.fid w.in-Some.function.now low w.in-Some.ensures in
          let so_far = c.loop-fid.invariant in
          let pushed = w.in_ok-push-in-Some.ensures.items in
          let cost = w.cost.ensures in
          let after = w.costs-is in
          cc
      | in-None w ↦ absurd (no_function ps c.loop-fid.fid low w.in-None.ensures)
    ]
