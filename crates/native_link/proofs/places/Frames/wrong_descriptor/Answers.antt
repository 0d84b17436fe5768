use Rattle.std.proofs.Common.{sym, arith, ◌∙◌}
use Rattle.native_link.proofs.Rows.{frame_fits, next_descriptor}
use Rattle.native_link.proofs.Sizes.{descriptor_more}
use Rattle.native_link.proofs.places.Frames.wrong_descriptor.Goals as goal

pub wrong_field-requires-clause-frame : goal.wrong_field-requires-clause-frame
wrong_field-requires-clause-frame c = frame_fits 0 c.args.descriptors.now c.loop-d.d-index c.d-item.result c.requires.sites c.loop-d-test.true c.d-item.is

pub overflow_add-result : goal.overflow_add-result
overflow_add-result c =
    let more = descriptor_more c.args.descriptors.now c.loop-d.d-index c.d-item.result c.loop-d-test.true c.d-item.is in
    omega (arith, more.0, more.1, more.2, c.requires.size, c.loop-d.invariant.at, c.in-Some.ensures.low)

pub overflow_cast-result : goal.overflow_cast-result
overflow_cast-result c =
    let more = descriptor_more c.args.descriptors.now c.loop-d.d-index c.d-item.result c.loop-d-test.true c.d-item.is in
    omega (arith, more.0, more.1, more.2, c.requires.size, c.loop-d.invariant.at, c.in-Some.ensures.low)

pub overflow_add-at-in-None-2 : goal.overflow_add-at-in-None-2
overflow_add-at-in-None-2 c =
    let more = descriptor_more c.args.descriptors.now c.loop-d.d-index c.d-item.result c.loop-d-test.true c.d-item.is in
    omega (arith, more.0, more.1, more.2, c.requires.size, c.loop-d.invariant.at)

pub loop-d-preserved : goal.loop-d-preserved
loop-d-preserved c =
    let ds = c.args.descriptors.now in
    let d = c.d-item.result in
    let more = descriptor_more ds c.loop-d.d-index d c.loop-d-test.true c.d-item.is in
    record {
      at = omega (arith, more.0, more.1, c.loop-d.invariant.at);
      wrong = next_descriptor c.args.self.now.natives.now c.args.self.now.checked.now ds c.loop-d.d-index c.loop-d.at _ d c.loop-d-test.true c.d-item.is (sym c.in-None.ensures.is) (omega (arith, more.0)) ∙ c.loop-d.invariant.wrong;
    }
