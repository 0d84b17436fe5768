use Rattle.std.proofs.Common.{◌≡◌, ℕ, List, subst}
use Rattle.beam_code.specs.declared.module.Function.{Function}
use Rattle.beam_code.specs.declared.module.Module.{Module}
use Rattle.path_loops.proofs.Turning.{are_within, says_of}
use Rattle.path_rules.specs.declared.rule.Rule.{Rule}
use Rattle.path_rules.specs.declared.rule.Rule.TheVariants.{Loop}
use Rattle.path_rules.specs.Frames.{frame_item, frame_ways}
use Rattle.path_rules.specs.Sites.{placed_in}
use Rattle.path_search.specs.Found.{AreSteps}
use Rattle.path_loops.proofs.finding.find_loops.Goals as goal

-- the paths that were made are those of what they were made of
steps_of : (ms ms' : List Module) (o o' : Module) (f f' : Function) (rule : Rule) (next : List (List ℕ)) → ms' ≡ ms → o' ≡ o → f' ≡ f → rule ≡ Loop
    → AreSteps (frame_ways ms' (placed_in o' f') rule) frame_item next → AreSteps (frame_ways ms (placed_in o f) Loop) frame_item next
steps_of ms ms' o o' f f' rule next a b c d s =
    subst (λ (r : Rule). AreSteps (frame_ways ms (placed_in o f) r) frame_item next) d
    (subst (λ (q : Function). AreSteps (frame_ways ms (placed_in o q) rule) frame_item next) c
    (subst (λ (q : Module). AreSteps (frame_ways ms (placed_in q f') rule) frame_item next) b (subst (λ (q : List Module). AreSteps (frame_ways q (placed_in o' f') rule) frame_item next) a s)))

pub lowest-requires : goal.lowest-requires
lowest-requires c =
    let paths = c.new-paths.result in
    are_within (frame_ways paths.modules.now (placed_in paths.owner.now paths.function.now) paths.rule) frame_item c.in_ok-next.next c.in_ok-next.ensures

pub returns : goal.returns
returns c =
    let paths = c.new-paths.result in
    let made = c.new-paths.ensures in
    says_of c.args.modules.now (placed_in c.args.owner.now c.args.function.now) c.in_ok-next.next c.in_ok-lowest.lowest
    (steps_of c.args.modules.now paths.modules.now c.args.owner.now paths.owner.now c.args.function.now paths.function.now paths.rule c.in_ok-next.next made.modules made.owner made.function made.rule c.in_ok-next.ensures)
    c.in_ok-lowest.ensures
