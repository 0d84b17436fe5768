-- One more module, and none left.
use Rattle.std.proofs.Common.{◌+◌, ◌∙◌, ◌||◌, ◌&&◌, List, not, nat_eq, sym, ap, drop}
use Rattle.std.proofs.lemmas.List.{at_drop_all}
use Rattle.indexmap.specs.IndexSet.{contains}
use Rattle.beam_code.specs.declared.module.Module.{Module}
use Rattle.function_numbers.specs.Keys.{exports_at, is_among, same_key}
use Rattle.function_numbers.proofs.Any.{left_is}
use Rattle.function_numbers.proofs.Exported.{none_left, one_more}
use Rattle.function_numbers.proofs.exports.export_set.Goals as goal

pub loop-module-preserved : goal.loop-module-preserved
loop-module-preserved c = λ k.
    let m = c.module-item.result in
    let left = drop (c.loop-module.module-index + 1) c.args.modules.now in
    let names = c.args.names.now.keys in
    let seen = contains nat_eq c.loop-module.seen k.owner in
    let set = contains same_key c.loop-module.set k in
    let here = left_is c.args.modules.now c.loop-module.module-index m c.loop-module-test.true c.module-item.is in
    one_more names k m left set seen (contains same_key c.add_module.new.set k) (contains nat_eq c.add_module.new.seen k.owner) (c.in_ok-add_module.ensures.added k) (c.in_ok-add_module.ensures.seen k.owner)
    ∙ (ap (λ (ms : List Module). set || (not seen && is_among names k (exports_at names k.owner ms))) (sym here) ∙ c.loop-module.invariant k)

pub returns : goal.returns
returns c = λ k.
    let names = c.args.names.now.keys in
    let seen = contains nat_eq c.loop-module.seen k.owner in
    let set = contains same_key c.loop-module.set k in
    sym (none_left set seen)
    ∙ (sym (at_drop_all (λ (ms : List Module). set || (not seen && is_among names k (exports_at names k.owner ms))) c.args.modules.now c.loop-module.module-index c.loop-module-test.false) ∙ c.loop-module.invariant k)
