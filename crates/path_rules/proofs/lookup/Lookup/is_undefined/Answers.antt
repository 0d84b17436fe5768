-- The number is that of the first module of the name.
use Rattle.std.proofs.Common.{sym, ◌∙◌}
use Rattle.path_rules.proofs.Owners.{not_undefined, undefined_at}
use Rattle.path_rules.proofs.lookup.Lookup.is_undefined.Goals as goal

pub returns-in-None : goal.returns-in-None
returns-in-None c =
    let self = c.args.self.now in
    not_undefined self.modules.now c.args.callee.now (sym (self.indexed.numbers c.args.callee.now.owner) ∙ sym c.in-None.ensures.value)

pub returns-in_ok-defined-in-Some : goal.returns-in_ok-defined-in-Some
returns-in_ok-defined-in-Some c =
    let self = c.args.self.now in
    undefined_at self.modules.now c.args.callee.now c.in-Some.number.now c.in_ok-defined-in-Some.defined self.distinct
    (sym (self.indexed.numbers c.args.callee.now.owner) ∙ sym c.in-Some.ensures.value) c.in_ok-defined-in-Some.ensures
