-- What is said of the paths by stack and tags is said of the paths.
use Rattle.std.proofs.lemmas.Result.{IfOk-weaker}
use Rattle.path_rules.specs.Sites.{placed_in}
use Rattle.path_rules.proofs.Forgets.{says_of}
use Rattle.path_rules.proofs.search.search_frames.Goals as goal

pub returns-clause-says : goal.returns-clause-says
returns-clause-says c =
    let w = c.args.paths.now in
    IfOk-weaker c.search.result _ _ (λ r s. says_of w.modules.now (placed_in w.owner.now w.function.now) w.rule r.1 w.frames s) c.search.ensures.says
