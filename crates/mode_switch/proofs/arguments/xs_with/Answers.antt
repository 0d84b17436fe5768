-- The words behind the first five are written over words of the x area.
use Rattle.std.proofs.Common.{◌+◌, ◌∙◌, List, ℕ, drop, refl, ap, arith}
use Rattle.std.proofs.lemmas.List.{length-drop}
use Rattle.mode_switch.proofs.Laid.{written_over}
use Rattle.mode_switch.specs.declared.addresses.TheConstants.{X_START, X_WORDS}
use Rattle.tagged_words.specs.Region.{Region}
use Rattle.word_laying.specs.Written.{written}
use Rattle.mode_switch.proofs.arguments.xs_with.Goals as goal

pub returns : goal.returns
returns c =
    let ws = drop 5 c.args.words.now in
    let long = length-drop 5 c.args.words.now in
    c.put_words.ensures
    ∙ ap (λ (l : List ℕ). written c.in_ok-block.block (X_START + 20) l) c.others.ensures
    ∙ ap (λ (r : Region). written r (X_START + 20) ws) c.in_ok-block.ensures.zeros
    ∙ written_over X_START X_WORDS 5 ws refl (omega (arith, long, c.requires))
