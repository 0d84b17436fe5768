-- One argument more is laid, and one fewer is left.
use Rattle.std.proofs.Common.{◌+◌, drop, map}
use Rattle.mode_switch.proofs.Laid.{one_laid}
use Rattle.term_tree.specs.Term.{tree_of}
use Rattle.word_laying.proofs.Rows.{next_item}
use Rattle.mode_switch.proofs.arguments.lay_arguments.Goals as goal

pub loop-arg-preserved : goal.loop-arg-preserved
loop-arg-preserved c =
    let before = c.loop-arg in
    let vs = map tree_of (drop (c.loop-arg.arg-index + 1) c.args.args.now) in
    let here = next_item c.args.args.now c.loop-arg.arg-index c.arg-item.result c.loop-arg-test.true c.arg-item.is in
    let left = rw here at c.loop-arg.invariant in
    rw (c.in_ok-next.ensures.laid, c.in_ok-next.ensures.words, c.in_ok-next.ensures.next)
    (one_laid c.args.atoms.now before.block before.words.items before.next (tree_of c.arg-item.result) vs _ _ left)
