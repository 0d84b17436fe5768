use Rattle.std.proofs.lemmas.Result.{err_from_is_err_and}
use Rattle.image_format.specs.Cursor.{many_at}
use Rattle.image_format.specs.Reading.{descriptor_at}
use Rattle.image_format.specs.Fitting.{after_descriptor}
use Rattle.image_format.proofs.Loop.{goes_on, ends, is_done}
use Rattle.image_format.proofs.reading.many_descriptors.Goals as goal

pub returns-in_err-descriptor : goal.returns-in_err-descriptor
returns-in_err-descriptor c =
    let p = err_from_is_err_and c.from_residual.result c.from_residual.ensures.1 in
    rw (p.1, p.2) (ends descriptor_at after_descriptor c.in_err-descriptor.field-0.0 c.loop.descriptors c.args.count c.loop.counter c.loop.least c.loop.reader (many_at descriptor_at after_descriptor c.args.count 0 c.args.reader.now) c.loop-test.true c.in_err-descriptor.ensures c.loop.invariant)

pub loop-preserved : goal.loop-preserved
loop-preserved c =
    rw c.in_ok-push.ensures.ok (goes_on descriptor_at after_descriptor c.loop.descriptors c.args.count c.loop.counter c.loop.least c.loop.reader c.in_ok-descriptor.descriptor c.descriptor_of.new.reader (many_at descriptor_at after_descriptor c.args.count 0 c.args.reader.now) c.loop-test.true c.in_ok-descriptor.ensures c.loop.invariant)

pub returns : goal.returns
returns c = is_done descriptor_at after_descriptor c.loop.descriptors c.args.count c.loop.counter c.loop.least c.loop.reader (many_at descriptor_at after_descriptor c.args.count 0 c.args.reader.now) c.loop-test.false c.loop.invariant
