use Rattle.std.proofs.Common.{◌≡◌, ℕ, ◌+◌, ◌-◌, ◌*◌}
use Rattle.std.specs.Prelude.{◌||◌, not}
use Rattle.std.specs.List.{list_all}
use Rattle.image_format.specs.Mask.{bit, numbers, is_slot}
use Rattle.image_format.proofs.reader.is_mask_word.Given as goal

abbrev pub invariant-loop-j : goal.invariant-loop-j
invariant-loop-j l =
    let rule = λ (j : ℕ). not (bit l.word j) || is_slot l.frame (32 * l.k + j) in
    list_all rule (numbers (32 - l.j) l.j) ≡ list_all rule (numbers 32 0)
