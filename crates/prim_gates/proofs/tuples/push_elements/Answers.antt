use Rattle.std.proofs.Common.{◌≡◌, ◌+◌, ◌-◌, ◌*◌, ◌<◌, ◌≤◌, ◌^◌, ◌∷◌, length, sym, ap, subst, ◌∙◌, arith}
use Rattle.tagged_words.specs.Store.{Store}
use Rattle.tagged_words.specs.Word.{nil_word}
use Rattle.prim_gates.proofs.Chains.{down_first, length-reads_down, place_low}
use Rattle.prim_gates.proofs.Growing.{there_still, read_still, pushing_begins, pushing_goes_on, IsPushing}
use Rattle.prim_gates.specs.Chain.{reads_down}
use Rattle.prim_gates.specs.Reply.{read}
use Rattle.prim_gates.proofs.tuples.push_elements.Goals as goal

pub elements-init : goal.elements-init
elements-init g c =
    let size : length (reads_down (g.H.Words.store c.args.heap.now) c.args.at c.args.count) ≡ c.args.count = length-reads_down (g.H.Words.store c.args.heap.now) c.args.at c.args.count in
    let room : 2 * c.args.count ≤ g.H.HeapWords.room c.args.heap.now = c.requires.room in
    record { pushing = pushing_begins c.args.heap.now (reads_down (g.H.Words.store c.args.heap.now) c.args.at c.args.count) nil_word (omega arith); within = omega arith }

pub overflow_add-at : goal.overflow_add-at
overflow_add-at g c =
    let within : c.elements.left ≤ c.args.count = c.elements.invariant.within in
    let low : c.args.at + 4 * c.elements.left < 2 ^ 32 = place_low (g.H.Words.store c.args.heap.now) (c.args.at + 4 * c.elements.left) (g.met.H.Words.has_addresses c.args.heap.now) (c.requires.there c.elements.left (omega arith)) in
    omega arith

pub word_there-head-requires : goal.word_there-head-requires
word_there-head-requires g c =
    let within : c.elements.left ≤ c.args.count = c.elements.invariant.within in
    there_still c.elements.invariant.pushing.done (c.args.at + 4 * c.elements.left) (c.requires.there c.elements.left (omega arith))

pub elements-preserved : goal.elements-preserved
elements-preserved g c =
    let s : Store = (g.H.Words.store c.args.heap.now) in
    let within : c.elements.left ≤ c.args.count = c.elements.invariant.within in
    let less : c.elements.left ≡ c.elements.left - 1 + 1 = omega arith in
    let head : read s (c.args.at + 4 * c.elements.left) ≡ c.word_there-head.result =
    sym (c.word_there-head.ensures.read ∙ read_still c.elements.invariant.pushing.done (c.args.at + 4 * c.elements.left) (c.requires.there c.elements.left (omega arith))) in
    let rest : reads_down s c.args.at c.elements.left ≡ c.word_there-head.result ∷ reads_down s c.args.at (c.elements.left - 1) =
    down_first s c.args.at c.elements.left (c.elements.left - 1) less ∙ ap (λ x. x ∷ reads_down s c.args.at (c.elements.left - 1)) head in
    record {
      pushing = pushing_goes_on (subst (IsPushing g.H.HeapWords.Grows g.H.Words.store g.H.HeapWords.room g.H.HeapWords.end c.args.heap.now (reads_down s c.args.at c.args.count) nil_word c.elements.heap c.elements.tail) rest c.elements.invariant.pushing)
          c.push_cell-tail.ensures.pushed c.push_cell-tail.ensures.word;
      within = omega arith;
    }

pub push_cell-tail-requires : goal.push_cell-tail-requires
push_cell-tail-requires g c =
    let size : length (reads_down (g.H.Words.store c.args.heap.now) c.args.at c.elements.left) ≡ c.elements.left = length-reads_down (g.H.Words.store c.args.heap.now) c.args.at c.elements.left in
    let fits : 2 * length (reads_down (g.H.Words.store c.args.heap.now) c.args.at c.elements.left) ≤ g.H.HeapWords.room c.elements.heap = c.elements.invariant.pushing.fits in
    omega arith
