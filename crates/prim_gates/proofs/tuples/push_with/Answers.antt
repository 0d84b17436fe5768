use Rattle.std.proofs.Common.{◌≡◌, ◌+◌, ◌-◌, ◌*◌, ◌≤◌, ◌∷◌, length, nat_eq, if◌then◌else◌, sym, ap, subst, ◌∙◌, arith}
use Rattle.tagged_words.specs.Store.{Store}
use Rattle.prim_gates.proofs.Chains.{place_first, length-with_place}
use Rattle.prim_gates.proofs.Growing.{there_still, read_still, writing_begins, writing_goes_on, IsWriting}
use Rattle.prim_gates.specs.Chain.{with_place}
use Rattle.prim_gates.specs.Reply.{read}
use Rattle.prim_gates.proofs.tuples.push_with.Goals as goal

pub elements-init : goal.elements-init
elements-init g c =
    let size : length (with_place (g.H.Words.store c.args.heap.now) c.args.at 1 c.args.count c.args.index c.args.new) ≡ c.args.count = length-with_place (g.H.Words.store c.args.heap.now) c.args.at c.args.index c.args.new 1 c.args.count in
    let room : c.args.count ≤ g.H.HeapWords.room c.args.heap.now = c.requires.room in
    record { writing = writing_begins c.args.heap.now (with_place (g.H.Words.store c.args.heap.now) c.args.at 1 c.args.count c.args.index c.args.new) (omega arith); sum = omega arith }

pub element_or-element-requires : goal.element_or-element-requires
element_or-element-requires g c =
    let sum : c.elements.place + c.elements.left ≡ c.args.count + 1 = c.elements.invariant.sum in
    there_still c.elements.invariant.writing.done (c.args.at + 4 * c.elements.place) (c.requires.there c.elements.place (omega arith))

pub elements-preserved : goal.elements-preserved
elements-preserved g c =
    let s : Store = (g.H.Words.store c.args.heap.now) in
    let sum : c.elements.place + c.elements.left ≡ c.args.count + 1 = c.elements.invariant.sum in
    let less : c.elements.left ≡ c.elements.left - 1 + 1 = omega arith in
    let element : (if nat_eq c.elements.place c.args.index then c.args.new else read s (c.args.at + 4 * c.elements.place)) ≡ c.element_or-element.result =
    sym (c.element_or-element.ensures ∙ ap (λ x. if nat_eq c.elements.place c.args.index then c.args.new else x) (read_still c.elements.invariant.writing.done (c.args.at + 4 * c.elements.place) (c.requires.there c.elements.place (omega arith)))) in
    let rest : with_place s c.args.at c.elements.place c.elements.left c.args.index c.args.new ≡ c.element_or-element.result ∷ with_place s c.args.at (c.elements.place + 1) (c.elements.left - 1) c.args.index c.args.new =
    place_first s c.args.at c.args.index c.args.new c.elements.place c.elements.left (c.elements.left - 1) less
    ∙ ap (λ x. x ∷ with_place s c.args.at (c.elements.place + 1) (c.elements.left - 1) c.args.index c.args.new) element in
    record {
      writing = writing_goes_on (subst (IsWriting g.H.HeapWords.Grows g.H.Words.store g.H.HeapWords.room g.H.HeapWords.end c.args.heap.now (with_place s c.args.at 1 c.args.count c.args.index c.args.new) c.elements.heap) rest c.elements.invariant.writing) c.push_word.ensures;
      sum = omega arith;
    }

pub push_word-requires : goal.push_word-requires
push_word-requires g c =
    let size : length (with_place (g.H.Words.store c.args.heap.now) c.args.at c.elements.place c.elements.left c.args.index c.args.new) ≡ c.elements.left = length-with_place (g.H.Words.store c.args.heap.now) c.args.at c.args.index c.args.new c.elements.place c.elements.left in
    let fits : length (with_place (g.H.Words.store c.args.heap.now) c.args.at c.elements.place c.elements.left c.args.index c.args.new) ≤ g.H.HeapWords.room c.elements.heap = c.elements.invariant.writing.fits in
    omega arith
