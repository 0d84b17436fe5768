use Rattle.std.proofs.Common.{refl, arith}
use Rattle.image_format.specs.Spelling.{padding}
use Rattle.native_link.proofs.Sizes.{text_more}
use Rattle.native_link.proofs.checking.size_of_texts.Goals as goal

pub overflow_add-size : goal.overflow_add-size
overflow_add-size c = (let t = text_more c.args.texts.now c.loop-bytes.bytes-index c.bytes-item.result c.len-len.result (padding c.len-len.result) c.loop-bytes.size c.loop-bytes-test.true c.bytes-item.is c.len-len.ensures refl c.loop-bytes.invariant in omega (arith, t.1, c.requires))

pub overflow_add-size-in-loop-bytes : goal.overflow_add-size-in-loop-bytes
overflow_add-size-in-loop-bytes c = (let t = text_more c.args.texts.now c.loop-bytes.bytes-index c.bytes-item.result c.len-len.result c.padding_of.result c.loop-bytes.size c.loop-bytes-test.true c.bytes-item.is c.len-len.ensures c.padding_of.ensures c.loop-bytes.invariant in omega (arith, t.1, c.requires))

pub overflow_add-size-in-loop-bytes-2 : goal.overflow_add-size-in-loop-bytes-2
overflow_add-size-in-loop-bytes-2 c = (let t = text_more c.args.texts.now c.loop-bytes.bytes-index c.bytes-item.result c.len-len.result c.padding_of.result c.loop-bytes.size c.loop-bytes-test.true c.bytes-item.is c.len-len.ensures c.padding_of.ensures c.loop-bytes.invariant in omega (arith, t.1, c.requires))

pub loop-bytes-preserved : goal.loop-bytes-preserved
loop-bytes-preserved c = (let t = text_more c.args.texts.now c.loop-bytes.bytes-index c.bytes-item.result c.len-len.result c.padding_of.result c.loop-bytes.size c.loop-bytes-test.true c.bytes-item.is c.len-len.ensures c.padding_of.ensures c.loop-bytes.invariant in omega (arith, t.0))
