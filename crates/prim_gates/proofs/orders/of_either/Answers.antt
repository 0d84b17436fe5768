use Rattle.std.proofs.Common.{[], if◌then◌else◌, sym, ap, ◌∙◌}
use Rattle.prim_gates.proofs.Ranges.{either_is}
use Rattle.prim_gates.specs.Reply.{Value}
use Rattle.prim_gates.specs.Shallow.{argument, second_taken}
use Rattle.prim_gates.specs.Shapes.{on_order}
use Rattle.word_walks.specs.Compared.{found_of}
use Rattle.prim_gates.proofs.orders.of_either.Goals as goal

pub returns-then-takes_second-clause-answer : goal.returns-then-takes_second-clause-answer
returns-then-takes_second-clause-answer g c = λ m x y z h k.
    sym (either_is c.args.k c.requires.low c.requires.high m (argument c.args.a x) (argument c.args.b y) z
    ∙ ap (on_order (λ o. Value (if second_taken c.args.k o then c.args.b else c.args.a) [])) (sym (c.order_of.ensures.answer x y h k) ∙ ap found_of c.in-Ok.is)
    ∙ ap (λ t. Value (if t then c.args.b else c.args.a) []) (sym c.takes_second.ensures ∙ c.if-takes_second.true))

pub returns-else-takes_second-clause-answer : goal.returns-else-takes_second-clause-answer
returns-else-takes_second-clause-answer g c = λ m x y z h k.
    sym (either_is c.args.k c.requires.low c.requires.high m (argument c.args.a x) (argument c.args.b y) z
    ∙ ap (on_order (λ o. Value (if second_taken c.args.k o then c.args.b else c.args.a) [])) (sym (c.order_of.ensures.answer x y h k) ∙ ap found_of c.in-Ok.is)
    ∙ ap (λ t. Value (if t then c.args.b else c.args.a) []) (sym c.takes_second.ensures ∙ c.if-takes_second.false))

pub returns-in-Err-clause-answer : goal.returns-in-Err-clause-answer
returns-in-Err-clause-answer g c = λ m x y z h k.
    sym (either_is c.args.k c.requires.low c.requires.high m (argument c.args.a x) (argument c.args.b y) z
    ∙ ap (on_order (λ o. Value (if second_taken c.args.k o then c.args.b else c.args.a) [])) (sym (c.order_of.ensures.answer x y h k) ∙ ap found_of c.in-Err.is))
