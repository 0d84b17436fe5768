use Rattle.std.proofs.Common.{◌≡◌, [], ◌∷◌, slice_get, if◌then◌else◌, sym, ap, ◌∙◌}
use Rattle.beam_code.specs.Answer as a
use Rattle.beam_code.specs.BuiltIns.{Badarg, built_ins}
use Rattle.prim_gates.proofs.Blanks.{bad_then, good_then}
use Rattle.prim_gates.proofs.Ranges.{truths_are}
use Rattle.prim_gates.specs.Reply.{Reply, Fault, raised}
use Rattle.prim_gates.specs.Said.{said}
use Rattle.prim_gates.specs.Shallow.{argument, by_row, tree_shown}
use Rattle.prim_gates.specs.Shapes.{look_then, shown}
use Rattle.tagged_words.specs.Look.{address_end}
use Rattle.term_tree.specs.Tree.{Tree}
use Rattle.prim_gates.proofs.looking.two_truths.Goals as goal

pub returns-then-is_bad : goal.returns-then-is_bad
returns-then-is_bad g c = λ m x y z h k.
    bad_then (g.W.Words.store c.args.words.now) c.args.atoms.now address_end c.args.a c.look_at-look.result x _ c.look_at-look.ensures (sym c.if-is_bad.ensures) h
    ∙ sym (truths_are c.args.k c.requires.low c.requires.high m (argument c.args.a x) (argument c.args.b y) z)

pub returns-in_default : goal.returns-in_default
returns-in_default g c = λ m x y z h k.
    let next : Tree → Reply = λ v. if a.is_boolean (v ∷ []) then look_then y (by_row (slice_get built_ins c.args.k) (v ∷ shown y ∷ [])) else raised Badarg 0 in
    let shows : Tree = tree_shown c.args.atoms.now c.look_at-look.result in
    let none : next shows ≡ raised Badarg 0 = ap (λ o. if a.is_truth o then look_then y (by_row (slice_get built_ins c.args.k) (shows ∷ shown y ∷ [])) else raised Badarg 0) (sym c.truth.ensures ∙ c.in_default.is) in
    good_then (g.W.Words.store c.args.words.now) c.args.atoms.now address_end c.args.a c.look_at-look.result x next (raised Badarg 0) c.look_at-look.ensures (sym c.if-is_bad.ensures) h (sym none)
    ∙ sym (truths_are c.args.k c.requires.low c.requires.high m (argument c.args.a x) (argument c.args.b y) z)

pub returns-then-is_bad-2 : goal.returns-then-is_bad-2
returns-then-is_bad-2 g c = λ m x y z h k.
    let next : Tree → Reply = λ v. if a.is_boolean (v ∷ []) then look_then y (by_row (slice_get built_ins c.args.k) (v ∷ shown y ∷ [])) else raised Badarg 0 in
    let shows : Tree = tree_shown c.args.atoms.now c.look_at-look.result in
    let some : next shows ≡ look_then y (by_row (slice_get built_ins c.args.k) (shows ∷ shown y ∷ [])) = ap (λ o. if a.is_truth o then look_then y (by_row (slice_get built_ins c.args.k) (shows ∷ shown y ∷ [])) else raised Badarg 0) (sym c.truth.ensures ∙ c.in-Some.is) in
    good_then (g.W.Words.store c.args.words.now) c.args.atoms.now address_end c.args.a c.look_at-look.result x next (Fault c.args.b) c.look_at-look.ensures (sym c.if-is_bad.ensures) h
    (bad_then (g.W.Words.store c.args.words.now) c.args.atoms.now address_end c.args.b c.look_at-second.result y _ c.look_at-second.ensures (sym c.if-is_bad-2.ensures) k ∙ sym some)
    ∙ sym (truths_are c.args.k c.requires.low c.requires.high m (argument c.args.a x) (argument c.args.b y) z)

pub returns : goal.returns
returns g c = λ m x y z h k.
    let next : Tree → Reply = λ v. if a.is_boolean (v ∷ []) then look_then y (by_row (slice_get built_ins c.args.k) (v ∷ shown y ∷ [])) else raised Badarg 0 in
    let shows : Tree = tree_shown c.args.atoms.now c.look_at-look.result in
    let some : next shows ≡ look_then y (by_row (slice_get built_ins c.args.k) (shows ∷ shown y ∷ [])) = ap (λ o. if a.is_truth o then look_then y (by_row (slice_get built_ins c.args.k) (shows ∷ shown y ∷ [])) else raised Badarg 0) (sym c.truth.ensures ∙ c.in-Some.is) in
    good_then (g.W.Words.store c.args.words.now) c.args.atoms.now address_end c.args.a c.look_at-look.result x next (said c.of_truths.result) c.look_at-look.ensures (sym c.if-is_bad.ensures) h
    (good_then (g.W.Words.store c.args.words.now) c.args.atoms.now address_end c.args.b c.look_at-second.result y (λ u. by_row (slice_get built_ins c.args.k) (shows ∷ u ∷ [])) (said c.of_truths.result) c.look_at-second.ensures (sym c.if-is_bad-2.ensures) k
    (c.of_truths.ensures shows (sym c.truth.ensures ∙ c.in-Some.is)) ∙ sym some)
    ∙ sym (truths_are c.args.k c.requires.low c.requires.high m (argument c.args.a x) (argument c.args.b y) z)
