use Rattle.std.proofs.Common.{List, ℕ, ap, cond, sym, ◌∙◌, Some}
use Rattle.indexmap.specs.IndexMap.{get}
use Rattle.word_rows.proofs.Starting.{target_is, target_with}
use Rattle.word_rows.specs.Targets.{placed, same_target}
use Rattle.word_rows.proofs.targets.add_target.Goals as goal

pub returns-in_ok-insert : goal.returns-in_ok-insert
returns-in_ok-insert c = λ k.
    let p = placed c.args.p.owner.now c.args.p.function.now in
    let old = get same_target c.args.map.now k in
    c.in_ok-insert.ensures.updates.0 k
    ∙ ap (λ (owner : List ℕ). cond (same_target (target_with owner c.in-Some.label c.from-arity.result) k) (Some c.args.fid) old) c.in_ok-owner.ensures
    ∙ ap (λ arity. cond (same_target (target_with p.owner.name c.in-Some.label arity) k) (Some c.args.fid) old) c.from-arity.ensures
    ∙ ap (λ b. cond b (Some c.args.fid) old) (sym (target_is k p c.in-Some.label (sym c.in-Some.ensures)))
