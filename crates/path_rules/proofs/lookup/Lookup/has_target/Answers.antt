-- The table is that of the owner.
use Rattle.std.proofs.Common.{sym, ◌∙◌}
use Rattle.path_rules.proofs.Owners.{target_some}
use Rattle.path_rules.proofs.lookup.Lookup.has_target.Goals as goal

pub returns-in-Some : goal.returns-in-Some
returns-in-Some c =
    let self = c.args.self.now in
    let table = self.indexed.tables.each self.number self.owner.now c.in-Some.table.now self.at (sym c.in-Some.ensures.value) in
    c.contains.ensures
    ∙ (table.targets (c.args.label, c.args.arity) ∙ sym (target_some self.modules.now self.number self.owner.now self.function.now c.args.label c.args.arity self.distinct self.at))
