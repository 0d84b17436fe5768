use Rattle.std.proofs.Common.{w32, rules, sym, ap, ◌∙◌}
use Rattle.std.proofs.lemmas.Int.{to_z-of_z}
use mir.Val.{SFits, to_z, of_z}
use Rattle.beam_code.specs.BuiltIns.{Badarith}
use Rattle.prim_gates.proofs.Ranges.{on_both, integers_are}
use Rattle.prim_gates.proofs.Seeing.{small_seen}
use Rattle.prim_gates.specs.Shallow.{argument, on_two}
use Rattle.prim_gates.specs.Shapes.{is_integer}
use Rattle.tagged_words.specs.Look.{address_end}
use Rattle.tagged_words.specs.Seen.{Int}
use Rattle.term_tree.specs.Tree as t
use Rattle.prim_gates.proofs.looking.two_integers.Goals as goal

pub returns-in-Small-look_at : goal.returns-in-Small-look_at
returns-in-Small-look_at g c = λ m x y z h k.
    let first : SFits w32 c.in-Small.i = search rules in
    let second : SFits w32 c.in-Small-look_at.j = search rules in
    c.on_two.ensures ∙ ap (λ i. on_two c.args.k (t.Int i) (t.Int (to_z w32 (of_z w32 c.in-Small-look_at.j)))) (to_z-of_z w32 c.in-Small.i first) ∙ ap (λ j. on_two c.args.k (t.Int c.in-Small.i) (t.Int j)) (to_z-of_z w32 c.in-Small-look_at.j second)
    ∙ sym (integers_are c.args.k c.requires m (argument c.args.a x) (argument c.args.b y) z
    ∙ ap (λ v. on_both c.args.k Badarith is_integer v y) (small_seen (g.W.Words.store c.args.words.now) c.args.atoms.now address_end c.args.a c.in-Small.i x (sym c.look_at.ensures ∙ c.in-Small.is) h)
    ∙ ap (on_both c.args.k Badarith is_integer (Int c.in-Small.i)) (small_seen (g.W.Words.store c.args.words.now) c.args.atoms.now address_end c.args.b c.in-Small-look_at.j y (sym c.look_at-in-Small.ensures ∙ c.in-Small-look_at.is) k))
