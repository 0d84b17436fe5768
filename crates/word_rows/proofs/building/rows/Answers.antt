-- One function more.
use Rattle.std.proofs.Common.{◌∙◌, ◌<◌, ◌≤◌, List, ap, arith, length, subst}
use Rattle.beam_code.specs.declared.module.Module.{Module}
use Rattle.beam_code.specs.Function.{all_functions}
use Rattle.module_texts.proofs.Bounds.{are_bounded}
use Rattle.module_texts.specs.Bounds.{AreBounded}
use Rattle.native_link.specs.Places.{first_item}
use Rattle.word_rows.proofs.Functions.{none_left, one_function, some_at}
use Rattle.word_rows.proofs.building.rows.Goals as goal

pub new-requires : goal.new-requires
new-requires c = subst AreBounded c.checked.ensures (are_bounded c.checked.result.now c.are_in_profile.ensures.texts c.are_in_profile.ensures.profile)

pub add_function-requires-clause-bounded : goal.add_function-requires-clause-bounded
add_function-requires-clause-bounded c = subst AreBounded c.checked.ensures (are_bounded c.checked.result.now c.are_in_profile.ensures.texts c.are_in_profile.ensures.profile)

pub loop-number-preserved : goal.loop-number-preserved
loop-number-preserved c =
    let l = c.args.image.now in
    let many = c.functions-number-end.ensures ∙ ap (λ (ms : List Module). length (all_functions ms)) c.checked-2.ensures in
    let below : c.loop-number.number < length (all_functions l.modules) = omega (arith, many, c.loop-number-test.true) in
    let p = some_at (all_functions l.modules) c.loop-number.number below in
    one_function l c.loop-number.number p.0 c.loop-number.made.items c.add_function.new.rows.items c.loop-number.roots.left.now c.add_function.new.roots.left.now p.1
    (c.in_ok-add_function.ensures.rows p.0 p.1) (c.in_ok-add_function.ensures.left p.0 p.1)
    ∙ c.loop-number.invariant

pub returns : goal.returns
returns c =
    let l = c.args.image.now in
    let many = c.functions-number-end.ensures ∙ ap (λ (ms : List Module). length (all_functions ms)) c.checked-2.ensures in
    let past : length (all_functions l.modules) ≤ c.loop-number.number = omega (arith, many, c.loop-number-test.false) in
    none_left l (first_item l.modules c.loop-number.number) c.loop-number.number c.loop-number.made.items c.loop-number.roots.left.now past ∙ c.loop-number.invariant
