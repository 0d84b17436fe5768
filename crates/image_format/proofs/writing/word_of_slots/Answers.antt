use Rattle.std.proofs.Common.{◌+◌, ◌-◌, ◌*◌, ap, sym, ◌∙◌, arith}
use Rattle.std.specs.Prelude.{if◌then◌else◌}
use Rattle.image_format.specs.Mask.{has}
use Rattle.image_format.proofs.Masks.{no_bit, bit_more, word_within}
use Rattle.image_format.proofs.writing.word_of_slots.Goals as goal
use Rattle.image_format.proofs.writing.word_of_slots.Goals.{then-is_among, else-is_among}

pub loop-j-init : goal.loop-j-init
loop-j-init c = no_bit (has c.args.live.now) (c.args.first + (32 - 0))

pub overflow_mul-word : goal.overflow_mul-word
overflow_mul-word c = omega (arith, word_within (has c.args.live.now) c.args.first c.loop-j.j c.loop-j.word c.loop-j-test.true c.loop-j.invariant)

pub overflow_add-word : goal.overflow_add-word
overflow_add-word c = omega (arith, word_within (has c.args.live.now) c.args.first c.loop-j.j c.loop-j.word c.loop-j-test.true c.loop-j.invariant)

pub loop-j-preserved : goal.loop-j-preserved
loop-j-preserved c =
    let live = c.args.live.now in
    let word = c.loop-j.word in
    let more = bit_more (has live) c.args.first c.loop-j.j word c.loop-j-test.true c.loop-j.invariant in
    elim c.if-is_among.branch [
      | then-is_among w ↦ rw w.word-is (sym (more ∙ ap (λ b. (if b then 1 else 0) + 2 * word) (sym c.is_among.ensures ∙ w.if-is_among.true) ∙ omega arith))
      | else-is_among w ↦ rw w.word-is (sym (more ∙ ap (λ b. (if b then 1 else 0) + 2 * word) (sym c.is_among.ensures ∙ w.if-is_among.false) ∙ omega arith))
    ]
