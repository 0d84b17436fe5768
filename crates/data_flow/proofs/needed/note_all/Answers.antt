use Rattle.std.proofs.Common.{sym, ap, ◌∙◌, arith}
use Rattle.std.proofs.lemmas.Option.{slice_get-get_or}
use Rattle.data_flow.specs.Flow.{steps_of}
use Rattle.data_flow.proofs.Settling.{noted_next, noted_all}
use Rattle.data_flow.proofs.needed.note_all.Goals as goal

pub loop-at-init : goal.loop-at-init
loop-at-init c = record { wide = c.requires; has = λ node s low. absurd (omega (arith, low)) }

pub loop-at-preserved : goal.loop-at-preserved
loop-at-preserved c =
    let nodes = c.args.nodes.now in
    let at = c.loop-at.at in
    noted_next nodes c.loop-at.prev c.note.new.prev at c.as_slice.result.now c.loop-at.invariant
    (c.as_slice.ensures ∙ ap steps_of (sym (slice_get-get_or nodes at c.index-nodes-at.result (omega arith)))) c.in_ok-note.ensures

pub returns : goal.returns
returns c = noted_all c.args.nodes.now c.loop-at.prev c.loop-at.at (omega arith) c.loop-at.invariant
