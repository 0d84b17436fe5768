-- The table is that of the module.
use Rattle.std.proofs.Common.{sym}
use Rattle.std.proofs.lemmas.Result.{IfOk-weaker}
use Rattle.path_rules.proofs.lookup.Lookup.defines.Goals as goal

pub returns-in-Some : goal.returns-in-Some
returns-in-Some c =
    IfOk-weaker c.defines.result _ _
    (λ r s m at.
    let table = c.args.self.now.indexed.tables.each c.args.number m c.in-Some.table.now at (sym c.in-Some.ensures.value) in
    let exports = table.exports (c.args.callee.now.name, c.args.callee.now.arity) in
    let functions = table.functions (c.args.callee.now.name, c.args.callee.now.arity) in
    cc)
    c.defines.ensures
