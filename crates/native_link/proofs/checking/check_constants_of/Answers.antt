use Rattle.std.proofs.Common.{ap, sym, ◌∙◌}
use Rattle.ir_code.specs.Mentions.{mentions_of}
use Rattle.ir_code.specs.Shown.{shown}
use Rattle.native_link.proofs.Tables.{begun}
use Rattle.native_link.proofs.checking.check_constants_of.Goals as goal
use Rattle.tagged_words.specs.Atoms.{begins, first_atoms}

pub returns : goal.returns
returns c =
    begun c.args.parts.now c.args.checked.now c.in_ok-table.table (shown c.as_slice-3.result.now) c.check_constants.result
    (sym (ap (begins first_atoms) c.as_slice.ensures) ∙ sym c.has_first_atoms.ensures ∙ c.if-not-has_first_atoms.false) (c.in_ok-table.ensures ∙ c.as_slice-2.ensures)
    (ap shown c.as_slice-3.ensures.value ∙ c.in_ok-mentions.ensures ∙ ap mentions_of c.modules.ensures) c.check_constants.ensures
