-- The literals before an item are no more than all.
use Rattle.std.proofs.Common.{◌≡◌, ◌+◌, take, Some, slice_get, ap, sym, ◌∙◌, arith}
use Rattle.std.proofs.lemmas.Option.{slice_get-get_or, slice_get_past}
use Rattle.trivial_code.proofs.Located.{front_low}
use Rattle.trivial_code.specs.declared.emitting.Given.TheVariants.{Word}
use Rattle.trivial_code.specs.Returned.{item_word, literals_in}
use Rattle.trivial_code.proofs.building.moved.Goals as goal

pub overflow_add-place : goal.overflow_add-place
overflow_add-place c =
    let low = front_low c.args.items.now c.args.at in
    let room = c.requires in
    let count = c.count_literals.ensures in
    omega arith

pub returns-in-Some : goal.returns-in-Some
returns-in-Some c =
    let item = c.in-Some.item.now in
    let there = c.in-Some.ensures.lookup.3 in
    let here : slice_get c.args.items.now c.args.at ≡ Some item = slice_get-get_or c.args.items.now c.args.at item there.0 ∙ ap (λ x. Some x) (sym (there.1 item)) in
    ap (λ w. Word w)
    (c.item_word.ensures
    ∙ ap (λ n. item_word c.args.constants.now (c.args.before + n) (Some item)) c.count_literals.ensures
    ∙ ap (item_word c.args.constants.now (c.args.before + literals_in (take c.args.at c.args.items.now))) (sym here))

pub returns-in-None : goal.returns-in-None
returns-in-None c =
    ap (λ o. Word (item_word c.args.constants.now (c.args.before + literals_in (take c.args.at c.args.items.now)) o))
    (sym (slice_get_past c.args.items.now c.args.at c.in-None.ensures.lookup.3))
