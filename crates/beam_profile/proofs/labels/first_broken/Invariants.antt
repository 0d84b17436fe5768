-- What is left decides, with the labels so far.
use Rattle.std.proofs.Common.{◌≡◌, [], drop}
use Rattle.indexmap.specs.IndexSet.{keys}
use Rattle.beam_profile.specs.Labels.{first_broken}
use Rattle.beam_profile.proofs.labels.first_broken.Given as goal

abbrev pub invariant-loop-function : goal.invariant-loop-function
invariant-loop-function l = first_broken (keys l.before) (drop l.function-index l.functions) ≡ first_broken [] l.functions
