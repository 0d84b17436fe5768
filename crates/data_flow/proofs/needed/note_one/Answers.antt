use Rattle.std.proofs.Common.{ℕ, ◌<◌, List, [], ◌∷◌, ◌++◌, ap, sym, ◌∙◌, subst, arith, length}
use Rattle.std.proofs.lemmas.List.{get_or_default}
use Rattle.std.specs.Prelude.{slice_set}
use Rattle.data_flow.specs.Rows.{Notes}
use Rattle.data_flow.proofs.Settling.{note_in}
use Rattle.data_flow.proofs.needed.note_one.Goals as goal

pub returns : goal.returns
returns c =
    let low : c.args.step.now.to < length c.args.prev.now = omega arith in
    subst (λ (r : List ℕ). Notes c.args.node (c.args.step.now ∷ []) c.args.prev.now (slice_set c.args.prev.now c.args.step.now.to r))
    (sym (c.in_ok-push.ensures.ok ∙ ap (λ (r : List ℕ). r ++ c.args.node ∷ []) (get_or_default c.args.prev.now c.args.step.now.to c.index-prev-to.result [] low)))
    (note_in c.args.node c.args.step.now c.args.prev.now low)
