use Rattle.std.proofs.Common.{List, ℕ, subst}
use Rattle.beam_profile.specs.Whole.{IsModuleOf}
use Rattle.beam_profile.specs.declared.module.TheConstants.{LAST_INDEX}
use Rattle.module_texts.proofs.Lists.{one_more}
use Rattle.module_texts.proofs.reading.modules_of.Goals as goal

pub loop-index-preserved : goal.loop-index-preserved
loop-index-preserved c =
    let text : List ℕ = c.index-texts-index.result in
    let of : IsModuleOf LAST_INDEX text c.in_ok-module.module = subst (λ (t : List ℕ). IsModuleOf LAST_INDEX t c.in_ok-module.module) c.as_slice.ensures c.in_ok-module.ensures in
    one_more c.args.texts.now c.loop-index.modules c.push.new.self c.loop-index.index text c.in_ok-module.module c.loop-index-test.true c.index-texts-index.is c.loop-index.invariant of c.in_ok-push.ensures.ok
