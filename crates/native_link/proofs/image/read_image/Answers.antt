use Rattle.std.proofs.lemmas.Result.{err_from_is_err_and}
use Rattle.native_link.proofs.Second.{image_answer, image_spelled, readable, second_fault}
use Rattle.native_link.proofs.image.read_image.Goals as goal

pub returns-in_err-image-clause-answer : goal.returns-in_err-image-clause-answer
returns-in_err-image-clause-answer c =
    let p = err_from_is_err_and c.from_residual-in_err-image.result c.from_residual-in_err-image.ensures.1 in
    let read = readable c.args.bytes.now c.in_ok-parts.parts c.in_ok-checked.checked c.in_ok-parts.ensures.read c.in_ok-checked.ensures in
    rw (p.1, p.2) (second_fault c.args.bytes.now c.in_ok-parts.parts c.in_ok-checked.checked c.in_err-image.field-0.0 read c.in_err-image.ensures)

pub returns-clause-spelled : goal.returns-clause-spelled
returns-clause-spelled c =
    image_spelled c.args.bytes.now c.in_ok-parts.parts c.in_ok-checked.checked c.in_ok-image.image c.in_ok-parts.ensures.found.2 c.in_ok-image.ensures

pub returns-clause-answer : goal.returns-clause-answer
returns-clause-answer c =
    let read = readable c.args.bytes.now c.in_ok-parts.parts c.in_ok-checked.checked c.in_ok-parts.ensures.read c.in_ok-checked.ensures in
    image_answer c.args.bytes.now c.in_ok-parts.parts c.in_ok-checked.checked c.in_ok-image.image read c.in_ok-image.ensures
