use Rattle.std.proofs.Common.{w32, rules, sym, subst, ◌∙◌}
use Rattle.std.proofs.lemmas.Int.{to_z-of_z}
use mir.Val.{SFits}
use Rattle.prim_gates.proofs.Seeing.{small_seen}
use Rattle.prim_gates.specs.Gate.{prim}
use Rattle.prim_gates.specs.Said.{Answered}
use Rattle.prim_gates.specs.Shallow.{argument}
use Rattle.tagged_words.specs.Look.{address_end}
use Rattle.tagged_words.specs.Seen.{Int}
use Rattle.prim_gates.proofs.tuples.set_element.Goals as goal

pub returns-in-Small : goal.returns-in-Small
returns-in-Small g c = λ x y z h.
    let fits : SFits w32 c.in-Small.index = search rules in
    subst (λ v. Answered g.H.HeapWords.Grows g.H.Words.store g.H.HeapWords.room g.H.HeapWords.end c.args.heap.now c.set_at.result (λ m. prim 39 m (argument c.args.a v) (argument c.args.b y) (argument c.args.c z)) c.set_at.new.heap)
    (sym (small_seen (g.H.Words.store c.args.heap.now) c.args.atoms.now address_end c.args.a c.in-Small.index x (sym c.look_at.ensures ∙ c.in-Small.is) h.0))
    (subst (λ i. Answered g.H.HeapWords.Grows g.H.Words.store g.H.HeapWords.room g.H.HeapWords.end c.args.heap.now c.set_at.result (λ m. prim 39 m (argument c.args.a (Int i)) (argument c.args.b y) (argument c.args.c z)) c.set_at.new.heap)
    (to_z-of_z w32 c.in-Small.index fits) (c.set_at.ensures y z h.1.0))
