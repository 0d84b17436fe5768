use Rattle.std.proofs.Common.{sym, ◌∙◌}
use Rattle.prim_gates.proofs.Blanks.{bad_then, good_then}
use Rattle.prim_gates.proofs.Ranges.{one_is}
use Rattle.prim_gates.proofs.looking.one_term.Goals as goal
use Rattle.prim_gates.specs.Said.{said}
use Rattle.prim_gates.specs.Shallow.{argument, on_one}
use Rattle.prim_gates.specs.Shapes.{shown}
use Rattle.tagged_words.specs.Look.{address_end}

pub returns-then-is_bad : goal.returns-then-is_bad
returns-then-is_bad g c = λ m x y z h.
    bad_then (g.W.Words.store c.args.words.now) c.args.atoms.now address_end c.args.a c.look_at-look.result x (on_one c.args.k (shown x)) c.look_at-look.ensures (sym c.if-is_bad.ensures) h
    ∙ sym (one_is c.args.k c.requires m (argument c.args.a x) y z)

pub returns : goal.returns
returns g c = λ m x y z h.
    good_then (g.W.Words.store c.args.words.now) c.args.atoms.now address_end c.args.a c.look_at-look.result x (on_one c.args.k) (said c.of_one.result) c.look_at-look.ensures (sym c.if-is_bad.ensures) h c.of_one.ensures
    ∙ sym (one_is c.args.k c.requires m (argument c.args.a x) y z)
