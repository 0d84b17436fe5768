use Rattle.std.proofs.Common.{◌≡◌}
use Rattle.std.proofs.lemmas.Result.{IfOk-weaker}
use Rattle.module_check.proofs.Refusing.{profile_of, ready_of}
use Rattle.module_check.proofs.check.look_at_functions.Goals as goal

pub invariant_of-given : goal.invariant_of-given
invariant_of-given c = record { indexed = c.in_ok-index.ensures; distinct = c.requires.distinct; ready = ready_of c.args.modules.now c.requires.few c.requires.sound }

pub returns-clause-profile : goal.returns-clause-profile
returns-clause-profile c =
    IfOk-weaker c.enter_all.result _ _ (λ es is. profile_of c.args.modules.now es.list c.requires.distinct c.requires.few is.list) c.enter_all.ensures.entries
