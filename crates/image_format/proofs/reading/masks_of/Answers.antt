use Rattle.std.proofs.lemmas.Result.{err_from_is_err_and}
use Rattle.std.proofs.Common.{[], ◌∷◌, arith}
use Rattle.std.proofs.lemmas.List.{length-append}
use Rattle.image_format.specs.Reading.{mask_at, after_mask, masks_at}
use Rattle.image_format.proofs.Loop.{goes_on, ends, is_done}
use Rattle.image_format.proofs.reading.masks_of.Goals as goal

pub returns-in_err-word-clause-read : goal.returns-in_err-word-clause-read
returns-in_err-word-clause-read c =
    let p = err_from_is_err_and c.from_residual.result c.from_residual.ensures.1 in
    rw (p.1, p.2) (ends (mask_at c.args.frame) after_mask c.in_err-word.field-0.0 c.loop-k.words _ c.loop-k.k c.loop-k.k c.loop-k.reader (masks_at c.args.frame c.args.reader.now) c.loop-k-test.true c.in_err-word.ensures c.loop-k.invariant.read)

pub loop-k-preserved : goal.loop-k-preserved
loop-k-preserved c =
    rw c.in_ok-push.ensures.ok (record {
      read = goes_on (mask_at c.args.frame) after_mask c.loop-k.words _ c.loop-k.k c.loop-k.k c.loop-k.reader c.in_ok-word.word c.mask_word.new.self (masks_at c.args.frame c.args.reader.now) c.loop-k-test.true c.in_ok-word.ensures c.loop-k.invariant.read;
      count = omega (arith, length-append c.loop-k.words (c.in_ok-word.word ∷ []), c.loop-k.invariant.count);
    })

pub returns-clause-read : goal.returns-clause-read
returns-clause-read c = is_done (mask_at c.args.frame) after_mask c.loop-k.words _ c.loop-k.k c.loop-k.k c.loop-k.reader (masks_at c.args.frame c.args.reader.now) c.loop-k-test.false c.loop-k.invariant.read
