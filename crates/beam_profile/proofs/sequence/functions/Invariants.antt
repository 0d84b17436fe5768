-- What is left decides, behind the forms so far.
use Rattle.std.proofs.Common.{◌≡◌, ◌≤◌, length, drop}
use Rattle.indexmap.specs.IndexSet.{keys}
use Rattle.beam_profile.specs.Sequence.{go, functions}
use Rattle.beam_profile.proofs.sequence.functions.Given as goal

abbrev pub invariant-loop-form : goal.invariant-loop-form
invariant-loop-form l =
    (go l.last l.line l.state (keys l.seen) (drop l.form-index l.rest) ≡ functions l.last l.owner l.forms)
    × (length l.state.items ≤ l.form-index)
