use Rattle.std.proofs.Common.{◌≡◌, List, Option, Some, None, Err, ℕ, ap, sym, ◌∙◌, subst}
use Rattle.beam_code.specs.declared.module.Function.{Function}
use Rattle.beam_code.specs.declared.module.Module.{Module}
use Rattle.paths.specs.Rules.{Says}
use Rattle.path_rules.specs.declared.rule.Rule.{Rule}
use Rattle.path_rules.specs.Points.{item_of}
use Rattle.path_rules.specs.Rules.{ways}
use Rattle.path_rules.specs.Sites.{placed_in}
use Rattle.path_search.specs.declared.rounds.Stop.TheVariants.{States}
use Rattle.function_check.specs.Subjects.{placed}
use Rattle.function_check.proofs.Rules.{next_turn}
use Rattle.function_check.proofs.check.look_at_frames.Goals as goal

-- what is said of the same function and rule
says_of : (ms ns : List Module) (m n : Module) (f g : Function) (rule other : Rule) (o said : Option ℕ) → ms ≡ ns → m ≡ n → f ≡ g → rule ≡ other → o ≡ said
    → Says (ways ms (placed_in m f) rule) item_of o → Says (ways ns (placed_in n g) other) item_of said
says_of ms ns m n f g rule other o said a b c d e s =
    subst (λ (ns : List Module). Says (ways ns (placed_in n g) other) item_of said) a
    (subst (λ (n : Module). Says (ways ms (placed_in n g) other) item_of said) b
    (subst (λ (g : Function). Says (ways ms (placed_in m g) other) item_of said) c
    (subst (λ (other : Rule). Says (ways ms (placed_in m f) other) item_of said) d
    (subst (λ (said : Option ℕ). Says (ways ms (placed_in m f) rule) item_of said) e s))))

pub returns-in-Ok-default-None-clause-holds : goal.returns-in-Ok-default-None-clause-holds
returns-in-Ok-default-None-clause-holds c =
    let p = c.paths-paths.ensures in
    next_turn c.args.of.now.modules.now (placed c.args.of.now) c.args.rule c.requires.turn c.requires.items
    (says_of _ _ _ _ _ _ _ _ _ _ p.modules p.owner p.function p.rule c.in-Ok-default-None.field-0-1-is c.in-Ok-default-None.ensures.says)

pub returns-in-Err-clause-refused : goal.returns-in-Err-clause-refused
returns-in-Err-clause-refused c =
    c.stopped.ensures c.args.of.now.modules.now (placed c.args.of.now) (λ e all. c.search_frames.ensures.states (c.in-Err.is ∙ ap (λ s. Err s) e))
