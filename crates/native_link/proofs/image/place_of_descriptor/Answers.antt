use Rattle.std.proofs.Common.{◌+◌, ◌-◌, ◌/◌, ap, arith}
use Rattle.image_format.specs.declared.parts.Descriptor.{Descriptor}
use Rattle.native_link.proofs.Lookups.{descriptors_rise, goes_up, goes_down}
use Rattle.native_link.proofs.image.place_of_descriptor.Goals as goal

pub loop-low-preserved-then-descriptors-mid : goal.loop-low-preserved-then-descriptors-mid
loop-low-preserved-then-descriptors-mid c =
    let mid = c.loop-low.low + (c.loop-low.high - c.loop-low.low) / 2 in
    let item = c.index-descriptors-mid.result in
    let is = ap (λ (d : Descriptor). d.ret) c.index-descriptors-mid.is in
    record {
      order = omega (arith, c.loop-low-test.true);
      splits = goes_up (λ d. d.ret) 0 c.args.descriptors.now c.args.ret c.loop-low.low c.loop-low.high mid item (descriptors_rise 0 c.args.descriptors.now c.requires) c.loop-low.invariant.splits (omega (arith, c.loop-low-test.true)) (omega (arith, is, c.if-descriptors-mid.true));
    }

pub loop-low-preserved : goal.loop-low-preserved
loop-low-preserved c =
    let mid = c.loop-low.low + (c.loop-low.high - c.loop-low.low) / 2 in
    let item = c.index-descriptors-mid.result in
    let is = ap (λ (d : Descriptor). d.ret) c.index-descriptors-mid.is in
    record {
      order = omega arith;
      splits = goes_down (λ d. d.ret) 0 c.args.descriptors.now c.args.ret c.loop-low.low c.loop-low.high mid item (descriptors_rise 0 c.args.descriptors.now c.requires) c.loop-low.invariant.splits (omega (arith, c.loop-low-test.true)) (omega (arith, is, c.if-descriptors-mid.false));
    }
