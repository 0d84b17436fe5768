use Rattle.std.proofs.Common.{◌+◌, ◌-◌, ◌/◌, arith}
use Rattle.image_format.specs.declared.parts.Native.{Native}
use Rattle.image_format.specs.Fitting.{first_turn}
use Rattle.native_link.proofs.Lookups.{natives_rise, goes_up, goes_down}
use Rattle.native_link.proofs.image.place_of_native.Goals as goal

pub loop-low-preserved-then-natives-mid : goal.loop-low-preserved-then-natives-mid
loop-low-preserved-then-natives-mid c =
    let mid = c.loop-low.low + (c.loop-low.high - c.loop-low.low) / 2 in
    let none : Native = record { fid = 0; first = 0; count = 0 } in
    record {
      order = omega (arith, c.loop-low-test.true);
      splits = goes_up (λ n. n.fid) 0 c.args.natives.now c.args.fid c.loop-low.low c.loop-low.high mid none (natives_rise first_turn c.args.natives.now c.requires) c.loop-low.invariant.splits (omega (arith, c.loop-low-test.true)) c.if-natives-mid.true;
    }

pub loop-low-preserved : goal.loop-low-preserved
loop-low-preserved c =
    let mid = c.loop-low.low + (c.loop-low.high - c.loop-low.low) / 2 in
    let none : Native = record { fid = 0; first = 0; count = 0 } in
    record {
      order = omega arith;
      splits = goes_down (λ n. n.fid) 0 c.args.natives.now c.args.fid c.loop-low.low c.loop-low.high mid none (natives_rise first_turn c.args.natives.now c.requires) c.loop-low.invariant.splits (omega (arith, c.loop-low-test.true)) c.if-natives-mid.false;
    }
