-- What came so far, with what is left.
use Rattle.std.proofs.Common.{◌≡◌, drop}
use Rattle.indexmap.specs.IndexSet.{keys}
use Rattle.beam_profile.specs.Header.{declared_from, declared}
use Rattle.beam_profile.proofs.header.declared.Given as goal

abbrev pub invariant-loop-form : goal.invariant-loop-form
invariant-loop-form l = declared_from (keys l.set) (drop l.form-index l.forms) ≡ declared l.forms
