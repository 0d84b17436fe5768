use Rattle.std.proofs.Common.{arith}
use Rattle.word_rows.proofs.Functions.{entry_low}
use Rattle.word_rows.proofs.targets.item_entry.Goals as goal

pub overflow_add-result : goal.overflow_add-result
overflow_add-result c = let low = entry_low c.args.checked.now c.args.fid c.in-Some.first c.in-Some-function.function.now c.requires c.in-Some.ensures c.in-Some-function.ensures in omega (arith, low)

pub overflow_mul-result : goal.overflow_mul-result
overflow_mul-result c = let low = entry_low c.args.checked.now c.args.fid c.in-Some.first c.in-Some-function.function.now c.requires c.in-Some.ensures c.in-Some-function.ensures in omega (arith, low)

pub overflow_add-result-2 : goal.overflow_add-result-2
overflow_add-result-2 c = let low = entry_low c.args.checked.now c.args.fid c.in-Some.first c.in-Some-function.function.now c.requires c.in-Some.ensures c.in-Some-function.ensures in omega (arith, low)
