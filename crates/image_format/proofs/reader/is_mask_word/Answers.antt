use Rattle.std.proofs.Common.{ℕ, ◌+◌, ◌-◌, ◌*◌, sym, ap, ◌∙◌}
use Rattle.std.specs.Prelude.{◌&&◌, ◌||◌, not}
use Rattle.std.specs.List.{list_all}
use Rattle.image_format.specs.Mask.{bit, numbers, is_slot}
use Rattle.image_format.proofs.Masks.{all_from, all_done}
use Rattle.image_format.proofs.reader.is_mask_word.Goals as goal

pub loop-j-preserved : goal.loop-j-preserved
loop-j-preserved c =
    let rule = λ (j : ℕ). not (bit c.args.word j) || is_slot c.args.frame (32 * c.args.k + j) in
    let j = c.loop-j.j in
    sym (all_from rule j c.loop-j-test.true ∙ ap (λ b. b && list_all rule (numbers (32 - (j + 1)) (j + 1))) (sym c.is_mask_bit.ensures ∙ c.if-not-is_mask_bit.false)) ∙ c.loop-j.invariant

pub returns-then-not-is_mask_bit : goal.returns-then-not-is_mask_bit
returns-then-not-is_mask_bit c =
    let rule = λ (j : ℕ). not (bit c.args.word j) || is_slot c.args.frame (32 * c.args.k + j) in
    let j = c.loop-j.j in
    sym (all_from rule j c.loop-j-test.true ∙ ap (λ b. b && list_all rule (numbers (32 - (j + 1)) (j + 1))) (sym c.is_mask_bit.ensures ∙ c.if-not-is_mask_bit.true)) ∙ c.loop-j.invariant

pub returns : goal.returns
returns c =
    let rule = λ (j : ℕ). not (bit c.args.word j) || is_slot c.args.frame (32 * c.args.k + j) in
    sym (all_done rule c.loop-j.j c.loop-j-test.false) ∙ c.loop-j.invariant
