use Rattle.std.proofs.Common.{arith}
use Rattle.std.proofs.lemmas.Result.{err_from_is_err_and}
use Rattle.image_format.specs.Fitting.{turn, after_native, first_turn}
use Rattle.image_format.specs.Cursor.{many_at}
use Rattle.image_format.specs.Reading.{native_at}
use Rattle.image_format.proofs.Kept.{native_place, total_count-push}
use Rattle.image_format.proofs.Loop.{goes_on, ends, is_done}
use Rattle.image_format.proofs.reading.many_natives.Goals as goal

pub returns-in_err-native-clause-read : goal.returns-in_err-native-clause-read
returns-in_err-native-clause-read c =
    let p = err_from_is_err_and c.from_residual.result c.from_residual.ensures.1 in
    rw (p.1, p.2) (ends native_at after_native c.in_err-native.field-0.0 c.loop.natives c.args.count c.loop.counter (turn c.loop.least c.loop.place) c.loop.reader (many_at native_at after_native c.args.count first_turn c.args.reader.now) c.loop-test.true c.in_err-native.ensures c.loop.invariant.read)

pub loop-preserved : goal.loop-preserved
loop-preserved c =
    let n = c.in_ok-native.native in
    let place = native_place (turn c.loop.least c.loop.place) c.loop.reader n c.native_of.new.reader c.in_ok-native.ensures in
    rw c.in_ok-push.ensures.ok (record {
      read = goes_on native_at after_native c.loop.natives c.args.count c.loop.counter (turn c.loop.least c.loop.place) c.loop.reader n c.native_of.new.reader (many_at native_at after_native c.args.count first_turn c.args.reader.now) c.loop-test.true c.in_ok-native.ensures c.loop.invariant.read;
      total = omega (arith, place, c.loop.invariant.total, total_count-push c.loop.natives n);
    })

pub returns-clause-read : goal.returns-clause-read
returns-clause-read c = is_done native_at after_native c.loop.natives c.args.count c.loop.counter (turn c.loop.least c.loop.place) c.loop.reader (many_at native_at after_native c.args.count first_turn c.args.reader.now) c.loop-test.false c.loop.invariant.read
