use Rattle.std.proofs.Common.{arith}
use Rattle.mode_switch.proofs.Starts.{entry_fits}
use Rattle.mode_switch.proofs.opening.item_entry.Goals as goal

pub overflow_add-result : goal.overflow_add-result
overflow_add-result c = omega (arith, entry_fits c.args.checked.now c.args.fid c.in-Some.first c.in-Some-function.function.now c.requires c.in-Some.ensures c.in-Some-function.ensures)

pub overflow_mul-result : goal.overflow_mul-result
overflow_mul-result c = omega (arith, entry_fits c.args.checked.now c.args.fid c.in-Some.first c.in-Some-function.function.now c.requires c.in-Some.ensures c.in-Some-function.ensures)

pub overflow_add-result-2 : goal.overflow_add-result-2
overflow_add-result-2 c = omega (arith, entry_fits c.args.checked.now c.args.fid c.in-Some.first c.in-Some-function.function.now c.requires c.in-Some.ensures c.in-Some-function.ensures)

pub returns-clause-fits : goal.returns-clause-fits
returns-clause-fits c = entry_fits c.args.checked.now c.args.fid c.in-Some.first c.in-Some-function.function.now c.requires c.in-Some.ensures c.in-Some-function.ensures
