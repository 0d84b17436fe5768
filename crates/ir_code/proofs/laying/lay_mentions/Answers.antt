-- One literal more is laid, and one fewer is left.
use Rattle.std.proofs.Common.{◌+◌, drop}
use Rattle.ir_code.proofs.Turns.{goes_on, next_mention}
use Rattle.ir_code.specs.Laying.{literals_in}
use Rattle.ir_code.specs.Mentions.{literal_of}
use Rattle.ir_code.specs.Shown.{mention_shown}
use Rattle.ir_code.proofs.laying.lay_mentions.Goals as goal

pub loop-mention-preserved : goal.loop-mention-preserved
loop-mention-preserved c =
    let names = c.args.atoms.now in
    let before = c.loop-mention in
    let i = c.loop-mention.invariant in
    let us = literal_of (mention_shown c.mention-item.result) in
    let vs = literals_in (drop (c.loop-mention.mention-index + 1) c.args.mentions.now) in
    let here = next_mention c.args.mentions.now c.loop-mention.mention-index c.mention-item.result c.loop-mention-test.true c.mention-item.is in
    let left = rw here at i in
    let next = goes_on names before.block before.roots.items before.next us vs _ _ (record { words = left.words; words_left = left.roots; place = left.place; room = left.room; stand = left.stand }) in
    rw (c.in_ok-next.ensures.words, c.in_ok-next.ensures.roots, c.in_ok-next.ensures.next)
    (record { words = next.words; roots = next.words_left; place = next.place; room = next.room; stand = next.stand })
