-- Whether the module's name was seen.
use Rattle.std.proofs.Common.{ℕ, ◌∙◌, ◌||◌, List, sym, ap, nat_eq}
use Rattle.std.specs.List.{list_any}
use Rattle.std.proofs.lemmas.Result.{on_ok_weaker}
use Rattle.indexmap.specs.IndexSet.{contains}
use Rattle.function_numbers.specs.Keys.{is_export_at, same_key}
use Rattle.function_numbers.proofs.Any.{was_new, was_there}
use Rattle.function_numbers.proofs.Exported.{new_added, none_added, seen_added}
use Rattle.function_numbers.proofs.exports.add_module.Goals as goal

pub returns-in-None-clause-added : goal.returns-in-None-clause-added
returns-in-None-clause-added c = λ k.
    none_added c.args.names.now.keys k c.args.owner.now.name c.args.owner.now.exports (contains same_key c.args.set.now k) (contains nat_eq c.args.seen.now k.owner) (sym c.in-None.ensures.index)

pub returns-then-branch-clause-added : goal.returns-then-branch-clause-added
returns-then-branch-clause-added c =
    let new = was_new (contains nat_eq c.args.seen.now c.in-Some.number) (sym c.in_ok-insert-in-Some.ensures.added ∙ c.if-branch.true) in
    on_ok_weaker c.add_exports.result
    (λ added k.
    new_added c.args.names.now.keys k c.args.owner.now.name c.args.owner.now.exports (contains same_key c.args.set.now k) (contains same_key c.add_exports.new.set k) (contains nat_eq c.args.seen.now) c.in-Some.number
    (sym c.in-Some.ensures.index) new
    (added k ∙ ap (λ (es : List (List ℕ × ℕ)). contains same_key c.args.set.now k || list_any (is_export_at c.args.names.now.keys k c.args.owner.now.name) es) c.as_slice.ensures))
    c.add_exports.ensures

pub returns-else-branch-clause-added : goal.returns-else-branch-clause-added
returns-else-branch-clause-added c = λ k.
    let was = was_there (contains nat_eq c.args.seen.now c.in-Some.number) (sym c.in_ok-insert-in-Some.ensures.added ∙ c.if-branch.false) in
    seen_added c.args.names.now.keys k c.args.owner.now.name c.args.owner.now.exports (contains same_key c.args.set.now k) (contains nat_eq c.args.seen.now) c.in-Some.number (sym c.in-Some.ensures.index) was
