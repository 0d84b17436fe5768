use Rattle.std.proofs.Common.{List, Option, ap, arith, length, option_map, subst, ◌≡◌, Some}
use Rattle.beam_code.specs.declared.module.Module.{Module}
use Rattle.beam_code.specs.Function.{Placed, function_at}
use Rattle.beam_code.specs.Lined.{Lined}
use Rattle.word_rows.proofs.Functions.{items_low}
use Rattle.word_rows.specs.Targets.{placed}
use Rattle.word_rows.proofs.building.add_function.Goals as goal

pub label_items-requires : goal.label_items-requires
label_items-requires c =
    let f = c.in-Some.placed.function.now in
    let ms = c.args.image.now.modules in
    let P : List Module → Type 0 = λ l. function_at l c.args.number ≡ Some (placed c.in-Some.placed.owner.now f) in
    let at : function_at ms c.args.number ≡ Some (placed c.in-Some.placed.owner.now f) = subst P c.checked.ensures c.in-Some.ensures.some in
    let low = items_low ms c.args.number f c.requires.bounded (ap (λ (o : Option Placed). option_map (λ (p : Placed). p.function) o) at) in
    let long = ap (λ (items : List Lined). length items) c.as_slice.ensures in
    omega (arith, low, long)
