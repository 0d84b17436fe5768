-- What came so far, with what is left.
use Rattle.std.proofs.Common.{◌≡◌, [], drop}
use Rattle.indexmap.specs.IndexSet.{keys}
use Rattle.beam_profile.specs.Labels.{collected}
use Rattle.beam_profile.proofs.labels.labels_of.Given as goal

abbrev pub invariant-loop-item : goal.invariant-loop-item
invariant-loop-item l = collected (keys l.set) (drop l.item-index l.items) ≡ collected [] l.items
