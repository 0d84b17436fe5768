use Rattle.std.proofs.Common.{◌≡◌, ℕ, ◌+◌, ◌-◌, ◌*◌, ◌≤◌, List, ◌∷◌, length, sym, ap, subst, ◌∙◌, arith}
use Rattle.tagged_words.specs.Store.{Store}
use Rattle.prim_gates.proofs.Chains.{chain_first, chain_rest, heads_first, length-heads_by}
use Rattle.prim_gates.proofs.Growing.{there_still, read_still, pushing_begins, pushing_goes_on, IsPushing}
use Rattle.prim_gates.specs.Chain.{heads_by, IsChain}
use Rattle.prim_gates.specs.Reply.{read}
use Rattle.prim_gates.proofs.lists.push_heads.Goals as goal

pub cells-init : goal.cells-init
cells-init g c =
    let hs : List ℕ = heads_by (g.H.Words.store c.args.heap.now) c.args.list c.args.count in
    let size : length hs ≡ c.args.count = length-heads_by (g.H.Words.store c.args.heap.now) c.args.list c.args.count in
    let room : 2 * c.args.count ≤ g.H.HeapWords.room c.args.heap.now = c.requires.room in
    record { pushing = pushing_begins c.args.heap.now hs c.args.end (omega arith); chain = c.requires.there }

pub word_there-head-requires : goal.word_there-head-requires
word_there-head-requires g c = there_still c.cells.invariant.pushing.done (c.cells.word - 1) (chain_first (g.H.Words.store c.args.heap.now) c.cells.word c.cells.left (omega arith) c.cells.invariant.chain).head

pub word_there-word-requires : goal.word_there-word-requires
word_there-word-requires g c = there_still c.cells.invariant.pushing.done (c.cells.word + 3) (chain_first (g.H.Words.store c.args.heap.now) c.cells.word c.cells.left (omega arith) c.cells.invariant.chain).tail

pub cells-preserved : goal.cells-preserved
cells-preserved g c =
    let s : Store = (g.H.Words.store c.args.heap.now) in
    let here = chain_first s c.cells.word c.cells.left (omega arith) c.cells.invariant.chain in
    let less : c.cells.left ≡ c.cells.left - 1 + 1 = omega arith in
    let head : read s (c.cells.word - 1) ≡ c.word_there-head.result = sym (c.word_there-head.ensures.read ∙ read_still c.cells.invariant.pushing.done (c.cells.word - 1) here.head) in
    let next : read s (c.cells.word + 3) ≡ c.word_there-word.result = sym (c.word_there-word.ensures.read ∙ read_still c.cells.invariant.pushing.done (c.cells.word + 3) here.tail) in
    let rest : heads_by s c.cells.word c.cells.left ≡ c.word_there-head.result ∷ heads_by s c.word_there-word.result (c.cells.left - 1) =
    heads_first s c.cells.word c.cells.left (c.cells.left - 1) less ∙ ap (λ x. x ∷ heads_by s (read s (c.cells.word + 3)) (c.cells.left - 1)) head ∙ ap (λ w. c.word_there-head.result ∷ heads_by s w (c.cells.left - 1)) next in
    record {
      pushing = pushing_goes_on (subst (IsPushing g.H.HeapWords.Grows g.H.Words.store g.H.HeapWords.room g.H.HeapWords.end c.args.heap.now (heads_by s c.args.list c.args.count) c.args.end c.cells.heap c.cells.tail) rest c.cells.invariant.pushing)
          c.push_cell-tail.ensures.pushed c.push_cell-tail.ensures.word;
      chain = subst (λ w. IsChain s w (c.cells.left - 1)) next (chain_rest s c.cells.word c.cells.left (c.cells.left - 1) less c.cells.invariant.chain);
    }
