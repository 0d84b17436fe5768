use Rattle.std.proofs.lemmas.Result.{err_from_is_err_and}
use Rattle.image_format.specs.Cursor.{many_at}
use Rattle.image_format.specs.Reading.{text_at}
use Rattle.image_format.specs.Fitting.{after_text}
use Rattle.beam_code.specs.declared.module.TheConstants.{MOST_TEXT_BYTES}
use Rattle.image_format.proofs.Loop.{goes_on, ends, is_done}
use Rattle.image_format.proofs.reading.many_texts.Goals as goal

pub returns-in_err-text : goal.returns-in_err-text
returns-in_err-text c =
    let p = err_from_is_err_and c.from_residual.result c.from_residual.ensures.1 in
    rw (p.1, p.2) (ends text_at after_text c.in_err-text.field-0.0 c.loop.texts c.args.count c.loop.counter c.loop.room c.loop.reader (many_at text_at after_text c.args.count MOST_TEXT_BYTES c.args.reader.now) c.loop-test.true c.in_err-text.ensures c.loop.invariant)

pub loop-preserved : goal.loop-preserved
loop-preserved c =
    rw (c.in_ok-push.ensures.ok, c.saturating_sub-room.ensures, c.len.ensures) (goes_on text_at after_text c.loop.texts c.args.count c.loop.counter c.loop.room c.loop.reader c.in_ok-text.text c.text_of.new.reader (many_at text_at after_text c.args.count MOST_TEXT_BYTES c.args.reader.now) c.loop-test.true c.in_ok-text.ensures c.loop.invariant)

pub returns : goal.returns
returns c = is_done text_at after_text c.loop.texts c.args.count c.loop.counter c.loop.room c.loop.reader (many_at text_at after_text c.args.count MOST_TEXT_BYTES c.args.reader.now) c.loop-test.false c.loop.invariant
