use Rattle.std.proofs.lemmas.Result.{err_from_is_err_and}
use Rattle.image_format.specs.Cursor.{many_at}
use Rattle.image_format.specs.Reading.{each_word, no_more}
use Rattle.image_format.proofs.Loop.{goes_on, ends, is_done}
use Rattle.image_format.proofs.reading.words_of.Goals as goal

pub returns-in_err-word : goal.returns-in_err-word
returns-in_err-word c =
    let p = err_from_is_err_and c.from_residual.result c.from_residual.ensures.1 in
    rw (p.1, p.2) (ends each_word no_more c.in_err-word.field-0.0 c.loop.words c.args.count c.loop.counter tt c.loop.reader (many_at each_word no_more c.args.count tt c.args.reader.now) c.loop-test.true c.in_err-word.ensures c.loop.invariant)

pub loop-preserved : goal.loop-preserved
loop-preserved c =
    rw c.in_ok-push.ensures.ok (goes_on each_word no_more c.loop.words c.args.count c.loop.counter tt c.loop.reader c.in_ok-word.word c.word.new.self (many_at each_word no_more c.args.count tt c.args.reader.now) c.loop-test.true c.in_ok-word.ensures c.loop.invariant)

pub returns : goal.returns
returns c = is_done each_word no_more c.loop.words c.args.count c.loop.counter tt c.loop.reader (many_at each_word no_more c.args.count tt c.args.reader.now) c.loop-test.false c.loop.invariant
