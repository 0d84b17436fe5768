-- What is left decides, with the labels so far.
use Rattle.std.proofs.Common.{◌≡◌, drop}
use Rattle.indexmap.specs.IndexSet.{keys}
use Rattle.beam_profile.specs.Labels.{collected, broken_in}
use Rattle.beam_profile.proofs.labels.broken_in.Given as goal

abbrev pub invariant-loop-item : goal.invariant-loop-item
invariant-loop-item l =
    (broken_in (keys l.before) (keys l.own) (drop l.item-index l.items) ≡ broken_in (keys l.fn.before) (keys l.own) l.items)
    × (collected (keys l.before) (drop l.item-index l.items) ≡ collected (keys l.fn.before) l.items)
