use Rattle.std.proofs.Common.{List, ap, arith, length}
use Rattle.beam_code.specs.Lined.{Lined}
use Rattle.word_rows.proofs.Functions.{items_low}
use Rattle.word_rows.proofs.building.add_items.Goals as goal

pub overflow_add-at : goal.overflow_add-at
overflow_add-at c =
    let s = c.args.setting.now in
    let low = items_low s.image.now.modules s.number s.function.now s.bounded s.bodied in
    let long = ap (λ (items : List Lined). length items) c.as_slice-item-items.ensures in
    omega (arith, low, long, c.loop-item.invariant.at, c.loop-item-test.true)
