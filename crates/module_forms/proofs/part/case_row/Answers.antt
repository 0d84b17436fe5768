use Rattle.std.proofs.Common.{◌∙◌, ◌||◌, List, false, ap, rules}
use Rattle.module_forms.specs.Part.{onto, pairs_of, case_of}
use Rattle.beam_code.specs.declared.instr.Case.{Case}
use Rattle.module_forms.proofs.Pairs.{onto-plain, pairs-more}
use Rattle.module_forms.proofs.part.case_row.Goals as goal

pub loop-rest-init : goal.loop-rest-init
loop-rest-init c =
    let r = pairs_of case_of c.args.terms.now in
    ap (λ (v : List Case). onto (record { value = v; wide = false }) r) c.new-value.ensures ∙ onto-plain r

pub loop-rest-preserved : goal.loop-rest-preserved
loop-rest-preserved c =
    pairs-more case_of c.loop-rest.rest.now c.first-item.result c.second-item.result c.in_ok-got.got _ _ c.in-len2-up.len_at_least c.first-item.is c.second-item.is (search rules) (ap (λ (v : List Case). record { value = v; wide = c.loop-rest.wide || c.in_ok-got.got.wide }) c.in_ok-push.ensures.ok) ∙ c.loop-rest.invariant
