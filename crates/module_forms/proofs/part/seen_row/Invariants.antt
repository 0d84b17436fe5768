-- What came so far, in front of what is left.
use Rattle.std.proofs.Common.{◌≡◌, drop}
use Rattle.module_forms.specs.Part.{onto}
use Rattle.module_forms.specs.Seen.{seen_with}
use Rattle.module_forms.proofs.part.seen_row.Given as goal

abbrev pub invariant-loop-term : goal.invariant-loop-term
invariant-loop-term l = onto (record { value = l.value; wide = l.wide }) (seen_with l.last l.rest (drop l.term-index l.terms)) ≡ seen_with l.last l.looks l.terms
