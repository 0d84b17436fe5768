use Rattle.std.proofs.Common.{subst}
use Rattle.std.proofs.lemmas.Result.{err_from_is_err_and}
use Rattle.module_texts.proofs.Lists.{are_of_their_texts, memory_alone, one_list, refused_by, want_by}
use Rattle.path_rules.specs.Profile.{InProfile}
use Rattle.module_texts.proofs.reading.check_texts.Goals as goal

pub returns-in_err-modules-clause-accepts : goal.returns-in_err-modules-clause-accepts
returns-in_err-modules-clause-accepts c =
    λ ms profiled.
    let p = err_from_is_err_and c.from_residual.result c.from_residual.ensures.1 in
    rw (p.1, p.2) (memory_alone c.args.texts.now ms c.in_err-modules.field-0.0 profiled.read c.in_err-modules.ensures)

pub check-requires : goal.check-requires
check-requires c = record { texts = are_of_their_texts c.args.texts.now c.in_ok-modules.modules c.in_ok-modules.ensures }

pub returns-in-Err : goal.returns-in-Err
returns-in-Err c =
    let is = c.refused.ensures in
    rw is (record {
      profiled = tt;
      refused = refused_by c.args.texts.now c.in_ok-modules.modules c.in-Err.refusal c.in_ok-modules.ensures c.in-Err.ensures.refused;
      accepts = λ ms p.
          let same = one_list c.args.texts.now ms c.in_ok-modules.modules p.read c.in_ok-modules.ensures in
          want_by c.in-Err.refusal (c.in-Err.ensures.accepts (subst InProfile same p.profile));
    })
