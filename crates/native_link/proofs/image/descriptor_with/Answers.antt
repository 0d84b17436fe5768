use Rattle.std.proofs.Common.{Some, sym, ap, ◌∙◌, arith}
use Rattle.std.proofs.lemmas.List.{get_or_default}
use Rattle.image_format.specs.declared.parts.Descriptor.{Descriptor}
use Rattle.native_link.proofs.Lookups.{descriptors_rise, found, not_found}
use Rattle.native_link.proofs.image.descriptor_with.Goals as goal
use Rattle.native_link.proofs.image.descriptor_with.Goals.{else-place-descriptors-via-then-place-descriptors+else-descriptors-place, else-place-descriptors-via-else-place-descriptors}

pub returns-then-descriptors-place : goal.returns-then-descriptors-place
returns-then-descriptors-place c =
    let ds = c.args.descriptors.now in
    let place = c.place_of_descriptor-place.result in
    let first = c.index-descriptors-place.result in
    let item = c.index-descriptors-place-then-descriptors-place.result in
    let at = ap (λ (d : Descriptor). d.ret) (get_or_default ds place item first c.if-place-descriptors.true) ∙ c.if-descriptors-place.true in
    ap Some c.index-descriptors-place-then-descriptors-place.is ∙ sym (found (λ d. d.ret) 0 ds place item c.args.ret (descriptors_rise 0 ds c.requires) c.if-place-descriptors.true at)

pub returns-else-place-descriptors : goal.returns-else-place-descriptors
returns-else-place-descriptors c =
    let ds = c.args.descriptors.now in
    let place = c.place_of_descriptor-place.result in
    let rises = descriptors_rise 0 ds c.requires in
    sym (not_found (λ d. d.ret) 0 ds c.args.ret place rises c.place_of_descriptor-place.ensures
    (elim c.else-place-descriptors.branch [
      | else-place-descriptors-via-then-place-descriptors+else-descriptors-place w ↦
          λ lt d e. w.if-descriptors-place.false (ap (λ (d : Descriptor). d.ret) (get_or_default ds place w.index-descriptors-place.result d lt) ∙ e)
      | else-place-descriptors-via-else-place-descriptors w ↦ λ lt d e. absurd (omega (arith, w.if-place-descriptors.false, lt))
    ]))
