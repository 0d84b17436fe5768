use Rattle.std.proofs.Common.{◌≡◌}
use Rattle.std.specs.List.{Contains}
use Rattle.beam_code.specs.Function.{all_functions}
use Rattle.path_rules.specs.Sites.{placed_in}
use Rattle.module_check.proofs.Placing.{own_found}
use Rattle.module_check.proofs.Stopping.{few_items}
use Rattle.module_check.proofs.entries.standings.Goals as goal

pub new-requires-clause-few : goal.new-requires-clause-few
new-requires-clause-few c =
    let ms = c.args.given.now.modules.now in
    let f = placed_in c.args.owner.now c.args.function.now in
    few_items ms c.args.given.now.ready f (own_found ms c.args.number c.args.owner.now c.requires.owner c.args.function.now c.requires.function)

pub invariant_of-subject : goal.invariant_of-subject
invariant_of-subject c =
    let ms = c.args.given.now.modules.now in
    let f = placed_in c.args.owner.now c.args.function.now in
    let there : Contains (all_functions ms) f = own_found ms c.args.number c.args.owner.now c.requires.owner c.args.function.now c.requires.function in
    record { prepared = c.in_ok-sites.ensures; ranges = c.args.given.now.ready.sound.in_range f there; units = c.args.given.now.ready.few.each f there }

pub returns-clause-refused : goal.returns-clause-refused
returns-clause-refused c = c.refused.ensures c.args.given.now.modules.now c.in-Err.ensures.refused
