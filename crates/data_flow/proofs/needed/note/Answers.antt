use Rattle.std.proofs.Common.{List, sym, subst, arith, take, get_or}
use Rattle.std.proofs.lemmas.List.{take_more}
use Rattle.data_flow.specs.declared.flow.Change.TheVariants.{Keeps}
use Rattle.data_flow.specs.declared.flow.Step.{Step}
use Rattle.data_flow.specs.Names.{no_names}
use Rattle.data_flow.specs.Rows.{Notes}
use Rattle.data_flow.proofs.Settling.{note_more}
use Rattle.data_flow.proofs.needed.note.Goals as goal

abbrev no_step : Step
no_step = record { to = 0; keep = no_names; gain = no_names; change = Keeps }

pub loop-step-preserved : goal.loop-step-preserved
loop-step-preserved c =
    let steps = c.args.steps.now in
    let at = c.loop-step.step-index in
    subst (λ (l : List Step). Notes c.args.node l c.args.prev.now c.note_one.new.prev) (sym (take_more steps at no_step (omega (arith, c.loop-step-test.true, c.loop-step.auto.step-index-end))))
    (note_more c.args.node (take at steps) (get_or steps at no_step) c.args.prev.now c.loop-step.prev c.note_one.new.prev c.loop-step.invariant c.in_ok-note_one.ensures)
