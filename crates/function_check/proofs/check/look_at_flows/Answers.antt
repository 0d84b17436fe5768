use Rattle.std.proofs.Common.{◌≡◌, List, Option, Some, None, Err, ℕ, ap, sym, ◌∙◌, subst}
use Rattle.paths.specs.Rules.{Says}
use Rattle.path_rules.specs.Points.{item_of}
use Rattle.path_rules.specs.Rules.{ways}
use Rattle.function_check.specs.Subjects.{placed}
use Rattle.function_check.proofs.Rules.{frames_before, holds_of, next_turn, of_items}
use Rattle.function_check.proofs.check.look_at_flows.Goals as goal

pub first_broken-requires-clause-stack : goal.first_broken-requires-clause-stack
first_broken-requires-clause-stack c = (frames_before c.args.of.now.modules.now (placed c.args.of.now) c.args.rule c.requires.flows c.requires.turn).0

pub first_broken-requires-clause-tags : goal.first_broken-requires-clause-tags
first_broken-requires-clause-tags c = (frames_before c.args.of.now.modules.now (placed c.args.of.now) c.args.rule c.requires.flows c.requires.turn).1

pub returns-in-Ok-None-clause-holds : goal.returns-in-Ok-None-clause-holds
returns-in-Ok-None-clause-holds c =
    let ms = c.args.of.now.modules.now in
    let f = placed c.args.of.now in
    next_turn ms f c.args.rule c.requires.turn (of_items c.args.rule c.requires.flows)
    (subst (λ (said : Option ℕ). Says (ways ms f c.args.rule) item_of said) c.in-Ok-None.field-0-is c.in-Ok-None.ensures.says)

pub returns-in-Err-clause-refused : goal.returns-in-Err-clause-refused
returns-in-Err-clause-refused c =
    let ms = c.args.of.now.modules.now in
    let f = placed c.args.of.now in
    c.stopped.ensures ms f (λ e all. c.first_broken.ensures.states (c.in-Err.is ∙ ap (λ s. Err s) e) (holds_of ms f c.args.rule (of_items c.args.rule c.requires.flows) (all c.args.rule)))
