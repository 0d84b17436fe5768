use Rattle.std.proofs.Common.{length, ap, arith}
use Rattle.native_link.proofs.Sizes.{text_more}
use Rattle.native_link.proofs.checking.size_of_names.Goals as goal

pub overflow_add-size-in-loop-name-2 : goal.overflow_add-size-in-loop-name-2
overflow_add-size-in-loop-name-2 c = (let t = text_more c.args.names.now c.loop-name.name-index c.name-item.result (length c.as_str-len.result.now) c.padding_of.result c.loop-name.size c.loop-name-test.true c.name-item.is (ap length c.as_str-len.ensures.text) c.padding_of.ensures c.loop-name.invariant in omega (arith, t.1, c.requires))

pub loop-name-preserved : goal.loop-name-preserved
loop-name-preserved c = (let t = text_more c.args.names.now c.loop-name.name-index c.name-item.result (length c.as_str-len.result.now) c.padding_of.result c.loop-name.size c.loop-name-test.true c.name-item.is (ap length c.as_str-len.ensures.text) c.padding_of.ensures c.loop-name.invariant in omega (arith, t.0))
