use Rattle.std.proofs.Common.{[], ◌∷◌, ◌++◌, cond, sym, ap, ◌∙◌}
use Rattle.std.specs.Prelude.{filter}
use Rattle.std.proofs.lemmas.List.{append-nil}
use Rattle.image_format.specs.Mask.{is_live, numbers}
use Rattle.image_format.proofs.Masks.{one_more, no_number}
use Rattle.image_format.proofs.reading.slots_of.Goals as goal
use Rattle.image_format.proofs.reading.slots_of.Goals.{then-is_set+in_ok-push, else-is_set}

pub loop-slot-init : goal.loop-slot-init
loop-slot-init c = c.new-slots.ensures ∙ sym (no_number (is_live c.args.words.now) 0)

pub loop-slot-preserved : goal.loop-slot-preserved
loop-slot-preserved c =
    let slot = c.loop-slot.slot in
    let more = sym (one_more (is_live c.args.words.now) slot) in
    let found = filter (is_live c.args.words.now) (numbers slot 0) in
    elim c.if-is_set.branch [
      | then-is_set+in_ok-push w ↦ rw (w.slots-is, w.in_ok-push.ensures.ok, c.loop-slot.invariant) (ap (λ b. found ++ cond b (slot ∷ []) []) (sym w.if-is_set.true ∙ c.is_set.ensures) ∙ more)
      | else-is_set w ↦ rw (w.slots-is, c.loop-slot.invariant) (sym (append-nil found) ∙ ap (λ b. found ++ cond b (slot ∷ []) []) (sym w.if-is_set.false ∙ c.is_set.ensures) ∙ more)
    ]
