-- One more table.
use Rattle.std.proofs.lemmas.List.{take_more}
use Rattle.path_rules.proofs.Tables.{one_more}
use Rattle.path_rules.proofs.index.tables_of.Goals as goal

pub loop-module-preserved : goal.loop-module-preserved
loop-module-preserved c =
    rw (take_more c.args.modules.now c.loop-module.module-index c.module-item.result c.loop-module-test.true, ← c.module-item.is, c.in_ok-push.ensures.ok)
    (one_more _ _ _ _ c.loop-module.invariant c.in_ok-table.ensures)
