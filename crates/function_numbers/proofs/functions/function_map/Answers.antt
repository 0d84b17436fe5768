-- One more module.
use Rattle.std.proofs.Common.{◌+◌, ◌∙◌, List, sym, ap, drop, length, arith}
use Rattle.std.specs.Option.{option_or}
use Rattle.indexmap.specs.IndexMap.{get}
use Rattle.beam_code.specs.declared.module.Module.{Module}
use Rattle.beam_code.specs.Function.{all_functions, first_that}
use Rattle.function_numbers.specs.Keys.{is_placed_at, same_key}
use Rattle.function_numbers.proofs.Any.{left_is}
use Rattle.function_numbers.proofs.Noted.{all_long, one_more}
use Rattle.function_numbers.proofs.functions.function_map.Goals as goal

pub loop-module-preserved : goal.loop-module-preserved
loop-module-preserved c =
    let m = c.module-item.result in
    let left = drop (c.loop-module.module-index + 1) c.args.modules.now in
    let number = c.loop-module.number in
    let names = c.args.names.now.keys in
    let here = left_is c.args.modules.now c.loop-module.module-index m c.loop-module-test.true c.module-item.is in
    record {
      at = (let e = ap (λ (ms : List Module). length (all_functions ms)) here ∙ all_long m left in let l = c.len.ensures in let a = c.loop-module.invariant.at in omega arith);
      left = λ k.
          ap (λ n. option_or (get same_key c.add_functions.new.map k) (first_that (is_placed_at names k) (number + n) (all_functions left))) c.len.ensures
          ∙ (one_more names k number m left (get same_key c.loop-module.map k) (get same_key c.add_functions.new.map k) (c.in_ok-add_functions.ensures k)
          ∙ (ap (λ (ms : List Module). option_or (get same_key c.loop-module.map k) (first_that (is_placed_at names k) number (all_functions ms))) (sym here) ∙ c.loop-module.invariant.left k));
    }
