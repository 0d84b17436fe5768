use Rattle.std.proofs.Common.{◌≡◌, sym, ◌∙◌}
use Rattle.module_check.proofs.Few.{left_at, none_at}
use Rattle.module_check.proofs.size.left_behind_modules.Goals as goal

pub returns-in-None : goal.returns-in-None
returns-in-None c =
    sym (none_at c.args.modules.now c.loop-module.module-index c.module-item.result c.loop-module.rest c.loop-module-test.true c.module-item.is (sym c.left_behind_module.ensures ∙ c.in-None.is))
    ∙ c.loop-module.invariant

pub loop-module-preserved : goal.loop-module-preserved
loop-module-preserved c =
    left_at c.args.modules.now c.loop-module.module-index c.module-item.result c.loop-module.rest c.loop-module-test.true c.module-item.is c.in-Some.less (sym c.left_behind_module.ensures ∙ c.in-Some.is)
    ∙ c.loop-module.invariant
