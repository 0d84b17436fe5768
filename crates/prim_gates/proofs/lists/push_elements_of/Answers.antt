use Rattle.std.proofs.Common.{◌≡◌, ◌+◌, ◌-◌, ◌≤◌, ◌∷◌, length, sym, ap, subst, ◌∙◌, arith}
use Rattle.tagged_words.specs.Store.{Store}
use Rattle.prim_gates.proofs.Chains.{chain_first, chain_rest, heads_first, length-heads_by}
use Rattle.prim_gates.proofs.Growing.{there_still, read_still, writing_begins, writing_goes_on, IsWriting}
use Rattle.prim_gates.specs.Chain.{heads_by, IsChain}
use Rattle.prim_gates.specs.Reply.{read}
use Rattle.prim_gates.proofs.lists.push_elements_of.Goals as goal

pub cells-init : goal.cells-init
cells-init g c =
    let size : length (heads_by (g.H.Words.store c.args.heap.now) c.args.list c.args.count) ≡ c.args.count = length-heads_by (g.H.Words.store c.args.heap.now) c.args.list c.args.count in
    let room : c.args.count ≤ g.H.HeapWords.room c.args.heap.now = c.requires.room in
    record { writing = writing_begins c.args.heap.now (heads_by (g.H.Words.store c.args.heap.now) c.args.list c.args.count) (omega arith); chain = c.requires.there }

pub word_there-head-requires : goal.word_there-head-requires
word_there-head-requires g c = there_still c.cells.invariant.writing.done (c.cells.word - 1) (chain_first (g.H.Words.store c.args.heap.now) c.cells.word c.cells.left (omega arith) c.cells.invariant.chain).head

pub word_there-word-requires : goal.word_there-word-requires
word_there-word-requires g c = there_still c.cells.invariant.writing.done (c.cells.word + 3) (chain_first (g.H.Words.store c.args.heap.now) c.cells.word c.cells.left (omega arith) c.cells.invariant.chain).tail

pub cells-preserved : goal.cells-preserved
cells-preserved g c =
    let s : Store = (g.H.Words.store c.args.heap.now) in
    let here = chain_first s c.cells.word c.cells.left (omega arith) c.cells.invariant.chain in
    let less : c.cells.left ≡ c.cells.left - 1 + 1 = omega arith in
    let head : read s (c.cells.word - 1) ≡ c.word_there-head.result = sym (c.word_there-head.ensures.read ∙ read_still c.cells.invariant.writing.done (c.cells.word - 1) here.head) in
    let next : read s (c.cells.word + 3) ≡ c.word_there-word.result = sym (c.word_there-word.ensures.read ∙ read_still c.cells.invariant.writing.done (c.cells.word + 3) here.tail) in
    let rest : heads_by s c.cells.word c.cells.left ≡ c.word_there-head.result ∷ heads_by s c.word_there-word.result (c.cells.left - 1) =
    heads_first s c.cells.word c.cells.left (c.cells.left - 1) less ∙ ap (λ x. x ∷ heads_by s (read s (c.cells.word + 3)) (c.cells.left - 1)) head ∙ ap (λ w. c.word_there-head.result ∷ heads_by s w (c.cells.left - 1)) next in
    record {
      writing = writing_goes_on (subst (IsWriting g.H.HeapWords.Grows g.H.Words.store g.H.HeapWords.room g.H.HeapWords.end c.args.heap.now (heads_by s c.args.list c.args.count) c.cells.heap) rest c.cells.invariant.writing) c.push_word.ensures;
      chain = subst (λ w. IsChain s w (c.cells.left - 1)) next (chain_rest s c.cells.word c.cells.left (c.cells.left - 1) less c.cells.invariant.chain);
    }
