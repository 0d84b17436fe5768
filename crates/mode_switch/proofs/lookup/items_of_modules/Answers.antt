-- The items of a module and those of the modules behind it.
use Rattle.std.proofs.Common.{◌≡◌, ap, arith}
use Rattle.mode_switch.specs.Lookup.{length_sum}
use Rattle.mode_switch.proofs.Spots.{items_at}
use Rattle.mode_switch.proofs.lookup.items_of_modules.Goals as goal

pub count_items-items-requires : goal.count_items-items-requires
count_items-items-requires c =
    let here = items_at c.module-item.result c.args.modules.now c.loop-module.module-index c.loop-module-test.true c.module-item.is in
    let same : length_sum c.as_slice.result.now ≡ length_sum c.module-item.result.functions = ap length_sum c.as_slice.ensures in
    omega (arith, here, same, c.loop-module.invariant, c.requires)

pub overflow_add-items : goal.overflow_add-items
overflow_add-items c =
    let here = items_at c.module-item.result c.args.modules.now c.loop-module.module-index c.loop-module-test.true c.module-item.is in
    let same : length_sum c.as_slice.result.now ≡ length_sum c.module-item.result.functions = ap length_sum c.as_slice.ensures in
    omega (arith, here, same, c.loop-module.invariant, c.requires, c.count_items-items.ensures)

pub loop-module-preserved : goal.loop-module-preserved
loop-module-preserved c =
    let here = items_at c.module-item.result c.args.modules.now c.loop-module.module-index c.loop-module-test.true c.module-item.is in
    let same : length_sum c.as_slice.result.now ≡ length_sum c.module-item.result.functions = ap length_sum c.as_slice.ensures in
    omega (arith, here, same, c.loop-module.invariant, c.requires, c.count_items-items.ensures)
