-- What is said of the callee is all that other modules say.
use Rattle.std.proofs.Common.{◌∙◌, false}
use Rattle.beam_code.specs.Shape.{shape_of}
use Rattle.path_rules.proofs.MayRaise.{raises_same}
use Rattle.path_rules.proofs.lookup.Lookup.item_raises.Goals as goal

pub returns-in-None : goal.returns-in-None
returns-in-None c = c.may_raise.ensures ∙ raises_same c.args.self.now.modules.now false (shape_of c.args.instr.now) (λ callee is. (let none = c.in-None.ensures in cc))

pub returns-in_ok-undefined-in-Some : goal.returns-in_ok-undefined-in-Some
returns-in_ok-undefined-in-Some c =
    let undefined = c.in_ok-undefined-in-Some.undefined in
    let is_so = c.in_ok-undefined-in-Some.ensures in
    c.may_raise-in-Some.ensures ∙ raises_same c.args.self.now.modules.now undefined (shape_of c.args.instr.now) (λ callee is. (let some = c.in-Some.ensures in cc))
