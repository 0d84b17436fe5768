use Rattle.std.proofs.Common.{w32, rules, refl, sym, ap, ◌∙◌}
use Rattle.std.proofs.lemmas.Int.{to_z-of_z}
use mir.Val.{SFits}
use Rattle.prim_gates.proofs.Ranges.{built_in}
use Rattle.prim_gates.proofs.Seeing.{small_seen}
use Rattle.prim_gates.specs.Gate.{prim}
use Rattle.prim_gates.specs.Shallow.{argument}
use Rattle.prim_gates.specs.Shapes.{element_of}
use Rattle.tagged_words.specs.Look.{address_end}
use Rattle.prim_gates.proofs.tuples.element.Goals as goal

pub returns-in-Small : goal.returns-in-Small
returns-in-Small g c = λ m x y z e h.
    let fits : SFits w32 c.in-Small.index = search rules in
    c.element_at.ensures (built_in 34) y refl h.1.0 ∙ ap (λ i. element_of (g.W.Words.store c.args.words.now) (built_in 34) i c.args.a c.args.b y) (to_z-of_z w32 c.in-Small.index fits)
    ∙ ap (λ s. element_of s (built_in 34) c.in-Small.index c.args.a c.args.b y) (sym e)
    ∙ ap (λ v. prim 34 m (argument c.args.a v) (argument c.args.b y) z) (sym (small_seen (g.W.Words.store c.args.words.now) c.args.atoms.now address_end c.args.a c.in-Small.index x (sym c.look_at.ensures ∙ c.in-Small.is) h.0))
