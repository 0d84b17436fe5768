-- What came so far, in front of what is left.
use Rattle.std.proofs.Common.{◌≡◌, length}
use Rattle.module_forms.specs.Part.{pairs_of, onto, case_of}
use Rattle.module_forms.proofs.part.case_row.Given as goal

abbrev pub invariant-loop-rest : goal.invariant-loop-rest
invariant-loop-rest l = onto (record { value = l.value; wide = l.wide }) (pairs_of case_of l.rest) ≡ pairs_of case_of l.terms

abbrev pub decreases-loop-rest : goal.decreases-loop-rest
decreases-loop-rest l = length l.rest
