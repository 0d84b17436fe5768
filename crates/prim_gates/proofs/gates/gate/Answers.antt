use Rattle.std.proofs.Common.{◌≤◌, ◌<◌, refl, sym, ap, ◌∙◌, arith}
use Rattle.prim_gates.proofs.Growing.{only_said, at_number}
use Rattle.prim_gates.proofs.Ranges.{raise_is, never_is}
use Rattle.prim_gates.specs.Gate.{Memory, memory, prim}
use Rattle.prim_gates.specs.Shallow.{argument}
use Rattle.prim_gates.proofs.gates.gate.Goals as goal

pub returns-in-34-clause-answer : goal.returns-in-34-clause-answer
returns-in-34-clause-answer g c = λ x y z h.
    let m : Memory = memory (g.H.Words.store c.args.heap.now) (g.H.HeapWords.room c.args.heap.now) (g.H.HeapWords.end c.args.heap.now) in
    only_said c.args.heap.now c.element.result _ (c.element.ensures m x y (argument c.args.c z) refl (h.0, (h.1.0, tt)) ∙ ap (λ n. prim n m (argument c.args.a x) (argument c.args.b y) (argument c.args.c z)) (sym c.in-34.is))

pub returns-in-40-clause-answer : goal.returns-in-40-clause-answer
returns-in-40-clause-answer g c = λ x y z h. at_number c.args.heap.now c.append.new.heap c.append.result c.args.k 40 (argument c.args.a x) (argument c.args.b y) (argument c.args.c z) c.in-40.is (c.append.ensures.answer x y (argument c.args.c z) h.0)

pub returns-in-41-clause-answer : goal.returns-in-41-clause-answer
returns-in-41-clause-answer g c = λ x y z h. at_number c.args.heap.now c.list_to_tuple.new.heap c.list_to_tuple.result c.args.k 41 (argument c.args.a x) (argument c.args.b y) (argument c.args.c z) c.in-41.is (c.list_to_tuple.ensures x (argument c.args.b y) (argument c.args.c z) h.0)

pub returns-in-42-clause-answer : goal.returns-in-42-clause-answer
returns-in-42-clause-answer g c = λ x y z h. at_number c.args.heap.now c.tuple_to_list.new.heap c.tuple_to_list.result c.args.k 42 (argument c.args.a x) (argument c.args.b y) (argument c.args.c z) c.in-42.is (c.tuple_to_list.ensures x (argument c.args.b y) (argument c.args.c z) h.0)

pub returns-in-43-clause-answer : goal.returns-in-43-clause-answer
returns-in-43-clause-answer g c = λ x y z h. at_number c.args.heap.now c.reverse.new.heap c.reverse.result c.args.k 43 (argument c.args.a x) (argument c.args.b y) (argument c.args.c z) c.in-43.is (c.reverse.ensures x y (argument c.args.c z) h.0)

pub returns-in_default-clause-answer : goal.returns-in_default-clause-answer
returns-in_default-clause-answer g c = λ x y z h.
    let m : Memory = memory (g.H.Words.store c.args.heap.now) (g.H.HeapWords.room c.args.heap.now) (g.H.HeapWords.end c.args.heap.now) in
    let low : 49 ≤ c.args.k = omega arith in
    let high : c.args.k < 57 = c.requires.there in
    only_said c.args.heap.now c.says.result _ (c.says.ensures ∙ sym (never_is c.args.k low high m (argument c.args.a x) (argument c.args.b y) (argument c.args.c z)))

pub returns-in-47-to-48-clause-answer : goal.returns-in-47-to-48-clause-answer
returns-in-47-to-48-clause-answer g c = λ x y z h.
    let m : Memory = memory (g.H.Words.store c.args.heap.now) (g.H.HeapWords.room c.args.heap.now) (g.H.HeapWords.end c.args.heap.now) in
    let low : 47 ≤ c.args.k = omega arith in
    let high : c.args.k ≤ 48 = omega arith in
    only_said c.args.heap.now c.raised-in-47-to-48.result _ (c.raised-in-47-to-48.ensures ∙ sym (raise_is c.args.k low high m (argument c.args.a x) (argument c.args.b y) (argument c.args.c z)))
