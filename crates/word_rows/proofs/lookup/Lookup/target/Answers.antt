use Rattle.std.proofs.Common.{List, ℕ, ap, ◌∙◌}
use Rattle.indexmap.specs.IndexMap.{get}
use Rattle.word_rows.proofs.Starting.{target_with}
use Rattle.word_rows.specs.Targets.{same_target}
use Rattle.word_rows.proofs.lookup.Lookup.target.Goals as goal

pub returns : goal.returns
returns c = λ l is.
    c.copied.ensures
    ∙ c.get.ensures.value
    ∙ ap (λ (owner : List ℕ). get same_target c.args.self.now.targets (target_with owner c.args.label c.args.arity)) c.in_ok-owner.ensures
    ∙ is.targets (target_with c.args.owner.now c.args.label c.args.arity)
