use Rattle.std.proofs.Common.{◌≡◌, Bool, List, Option}
use Rattle.std.proofs.lemmas.Result.{IfOk-weaker}
use Rattle.std.proofs.Common.{subst}
use Rattle.beam_code.specs.declared.module.Function.{Function}
use Rattle.beam_code.specs.declared.module.Module.{Module}
use Rattle.beam_code.specs.Function.{Placed}
use Rattle.data_flow.specs.declared.flow.Flow.{Flow}
use Rattle.path_rules.specs.declared.frame_table.Frame.{Frame}
use Rattle.path_rules.specs.Sites.{placed_in}
use Rattle.path_flows.specs.FlowOf.{IsFlowOf, counts_words}
use Rattle.path_flows.proofs.Asking.{is_flow}
use Rattle.path_flows.proofs.Bridge.{broken_of, says_of}
use Rattle.path_flows.proofs.Known.{IsKnown, cells_few}
use Rattle.path_flows.proofs.ask.first_broken.Goals as goal

-- the flow that was made is that of the rule
for_rule : (ms ns : List Module) (f : Function) (counts seen : Bool) (frames : List (Option Frame)) (flow : Flow) → ns ≡ ms → seen ≡ counts → IsFlowOf ns f seen frames flow → IsFlowOf ms f counts frames flow
for_rule ms ns f counts seen frames flow e h is =
    subst (λ (l : List Module). IsFlowOf l f counts frames flow) e (subst (λ (b : Bool). IsFlowOf ns f b frames flow) h is)

pub flow-requires-clause-cells : goal.flow-requires-clause-cells
flow-requires-clause-cells c = cells_few c.args.source.now.function.now.items c.requires.units

pub first_lack-requires : goal.first_lack-requires
first_lack-requires c = is_flow c.new-paths.result.modules.now c.args.source.now.function.now c.counts.result c.args.source.now.frames.now c.in-Ok.flow c.in-Ok.ensures

pub returns-clause-says : goal.returns-clause-says
returns-clause-says c =
    let s = c.args.source.now in
    let ms = s.modules.now in
    let f : Placed = placed_in s.owner.now s.function.now in
    let known : IsKnown ms f s.frames.now = record { table = c.requires.frames; ranges = c.requires.ranges; stack = c.requires.stack; tags = c.requires.tags } in
    let is = for_rule ms c.new-paths.result.modules.now s.function.now (counts_words c.args.rule) c.counts.result s.frames.now c.in-Ok.flow c.new-paths.ensures.modules c.counts.ensures c.in-Ok.ensures in
    IfOk-weaker c.first_lack.result _ _ (λ said says. says_of ms f c.args.rule s.frames.now known c.in-Ok.flow is c.requires.flows said says) c.first_lack.ensures.says

pub returns-clause-states : goal.returns-clause-states
returns-clause-states c = λ e holds. (
    let s = c.args.source.now in
    let ms = s.modules.now in
    let f : Placed = placed_in s.owner.now s.function.now in
    let known : IsKnown ms f s.frames.now = record { table = c.requires.frames; ranges = c.requires.ranges; stack = c.requires.stack; tags = c.requires.tags } in
    let is = for_rule ms c.new-paths.result.modules.now s.function.now (counts_words c.args.rule) c.counts.result s.frames.now c.in-Ok.flow c.new-paths.ensures.modules c.counts.ensures c.in-Ok.ensures in
    broken_of ms f c.args.rule s.frames.now known c.in-Ok.flow is c.requires.flows (c.first_lack.ensures.states e) holds)
