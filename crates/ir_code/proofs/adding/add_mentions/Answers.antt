-- There is room for the names of each mention.
use Rattle.std.proofs.Common.{◌+◌, ◌∷◌, ◌∙◌, drop, length, ap, sym, arith}
use Rattle.std.proofs.lemmas.List.{drop_more}
use Rattle.ir_code.proofs.Growing.{mentions_longer}
use Rattle.ir_code.specs.Constants.{with_mention, with_mentions}
use Rattle.ir_code.specs.Shown.{mention_shown, shown}
use Rattle.ir_code.proofs.adding.add_mentions.Goals as goal

pub add_mention-requires : goal.add_mention-requires
add_mention-requires c =
    let x = c.mention-item.result in
    let table = c.loop-mention.atoms in
    let rest = drop (c.loop-mention.mention-index + 1) c.args.mentions.now in
    let here = drop_more c.args.mentions.now c.loop-mention.mention-index x c.loop-mention-test.true ∙ ap (λ y. y ∷ rest) (sym c.mention-item.is) in
    let left = ap length (ap (λ l. with_mentions table (shown l)) (sym here) ∙ c.loop-mention.invariant) in
    let more = mentions_longer (with_mention table (mention_shown x)) (shown rest) in
    omega (arith, left, more, c.requires)
