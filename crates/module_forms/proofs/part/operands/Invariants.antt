-- What came so far, in front of what is left.
use Rattle.std.proofs.Common.{◌≡◌, drop}
use Rattle.module_forms.specs.Part.{each_of, onto, operand_of}
use Rattle.module_forms.proofs.part.operands.Given as goal

abbrev pub invariant-loop-term : goal.invariant-loop-term
invariant-loop-term l = onto (record { value = l.value; wide = l.wide }) (each_of (operand_of l.last) (drop l.term-index l.terms)) ≡ each_of (operand_of l.last) l.terms
