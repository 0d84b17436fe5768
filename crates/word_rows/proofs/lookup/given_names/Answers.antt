-- One name more.
use Rattle.std.proofs.Common.{ℕ, ◌||◌, ◌+◌, ◌∙◌, cond, true, List, ap, sym, drop}
use Rattle.beam_code.specs.declared.module.Module.{Module}
use Rattle.beam_code.specs.Function.{is_given, same_name}
use Rattle.function_numbers.proofs.Any.{left_is}
use Rattle.indexmap.specs.IndexSet.{contains}
use Rattle.word_rows.proofs.Given.{one_given}
use Rattle.word_rows.proofs.lookup.given_names.Goals as goal

pub loop-module-preserved : goal.loop-module-preserved
loop-module-preserved c = λ n.
    let ms = c.args.modules.now in
    let m = c.module-item.result in
    let i = c.loop-module.module-index in
    let old = contains same_name c.loop-module.set n in
    let here = left_is ms i m c.loop-module-test.true c.module-item.is in
    one_given n m (drop (i + 1) ms) old (contains same_name c.insert.new.self n) (c.in_ok-insert.ensures.updates.0 n ∙ ap (λ (a : List ℕ). cond (same_name a n) true old) c.in_ok-name.ensures)
    ∙ ap (λ (left : List Module). old || is_given left n) (sym here)
    ∙ c.loop-module.invariant n
