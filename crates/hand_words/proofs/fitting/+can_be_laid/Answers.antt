use Rattle.std.proofs.Common.{◌≤◌, All, subst, sym, length, arith}
use Rattle.std.proofs.lemmas.List.{take_all}
use Rattle.std.proofs.lemmas.List.Elements.{All-more}
use Rattle.hand_words.proofs.Terms.{list_fits, tuple_fits}
use Rattle.hand_words.specs.Fitting.{Fits}
use Rattle.hand_words.proofs.fitting.+can_be_laid.Goals as goal

pub are_laid-loop-item-preserved : goal.are_laid-loop-item-preserved
are_laid-loop-item-preserved t c =
    let fits = Fits c.args.atoms.now in
    let laid : fits c.item-item.result = c.can_be_laid.ensures cc in
    All-more fits c.args.items.now c.loop-item.item-index c.item-item.result c.loop-item-test.true c.loop-item.invariant (subst fits c.item-item.is laid)

pub are_laid-returns : goal.are_laid-returns
are_laid-returns t c =
    λ _. subst (All (Fits c.args.atoms.now)) (take_all c.loop-item.item-index c.args.items.now (omega (arith, c.loop-item-test.false))) c.loop-item.invariant

pub can_be_laid-returns-then-are_laid : goal.can_be_laid-returns-then-are_laid
can_be_laid-returns-then-are_laid t c = λ fits.
    subst (Fits c.args.atoms.now) (sym c.in-List.is) (list_fits c.args.atoms.now c.in-List.items c.in-List.tail (subst (All (Fits c.args.atoms.now)) c.as_slice.ensures (c.are_laid.ensures cc)) (c.is_laid.ensures fits))

pub can_be_laid-returns-then-len-le-MOST_ELEMENTS : goal.can_be_laid-returns-then-len-le-MOST_ELEMENTS
can_be_laid-returns-then-len-le-MOST_ELEMENTS t c = λ fits.
    let few : length c.in-Tuple.items ≤ 67108863 = omega (arith, c.if-len-le-MOST_ELEMENTS.true, c.len.ensures) in
    subst (Fits c.args.atoms.now) (sym c.in-Tuple.is) (tuple_fits c.args.atoms.now c.in-Tuple.items (subst (All (Fits c.args.atoms.now)) c.as_slice-then-len-le-MOST_ELEMENTS.ensures (c.are_laid-then-len-le-MOST_ELEMENTS.ensures fits)) few)
