-- Whether the terms of an instruction are canonical: its literals, the integers of its operands, what a line or a
-- comment says (docs/TEXT.md, Terms and forms). Atoms are names by their type.
use Rattle.std.specs.Prelude.{Bool, true, ◌&&◌, List}
use Rattle.std.specs.List.{list_all}
use Rattle.term_tree.specs.Small.{is_small}
use Rattle.term_tree.specs.Term.{is_canonical}
use Rattle.beam_code.specs.declared.instr.Case.{Case}
use Rattle.beam_code.specs.declared.instr.Instr.{Instr}
use Rattle.beam_code.specs.declared.instr.Instr.TheVariants as i
use Rattle.beam_code.specs.declared.instr.Operand.{Operand}
use Rattle.beam_code.specs.declared.instr.Operand.TheVariants as o
use Rattle.beam_code.specs.Lined.{Lined}

abbrev pub is_canonical_operand : Operand → Bool
is_canonical_operand (o.Int n) = is_small n
is_canonical_operand (o.Literal term) = is_canonical term
is_canonical_operand other = true

abbrev pub are_canonical_operands : List Operand → Bool
are_canonical_operands operands = list_all is_canonical_operand operands

abbrev pub are_canonical_cases : List Case → Bool
are_canonical_cases cases = list_all (λ c. is_canonical_operand c.value) cases

abbrev pub is_canonical_instr : Instr → Bool
is_canonical_instr (i.Line about) = is_canonical about
is_canonical_instr (i.Comment about) = is_canonical about
is_canonical_instr (i.Move from to) = is_canonical_operand from
is_canonical_instr (i.GetList from head tail) = is_canonical_operand from
is_canonical_instr (i.GetHd from to) = is_canonical_operand from
is_canonical_instr (i.GetTl from to) = is_canonical_operand from
is_canonical_instr (i.GetTupleElement from at to) = is_canonical_operand from
is_canonical_instr (i.PutList head tail to) = is_canonical_operand head && is_canonical_operand tail
is_canonical_instr (i.PutTuple2 to parts) = are_canonical_operands parts
is_canonical_instr (i.Test name label operands) = are_canonical_operands operands
is_canonical_instr (i.SelectVal from label cases) = is_canonical_operand from && are_canonical_cases cases
is_canonical_instr (i.SelectTupleArity from label cases) = is_canonical_operand from
is_canonical_instr (i.Bif name fail operands to) = are_canonical_operands operands
is_canonical_instr (i.GcBif name fail live operands to) = are_canonical_operands operands
is_canonical_instr (i.Badmatch value) = is_canonical_operand value
is_canonical_instr (i.CaseEnd value) = is_canonical_operand value
is_canonical_instr (i.TryCaseEnd value) = is_canonical_operand value
is_canonical_instr (i.BifRaise class reason to) = is_canonical_operand class && is_canonical_operand reason
is_canonical_instr (i.Raise class reason to) = is_canonical_operand class && is_canonical_operand reason
is_canonical_instr other = true

-- of the items of a function
abbrev pub are_canonical_items : List Lined → Bool
are_canonical_items items = list_all (λ item. is_canonical_instr item.instr) items
