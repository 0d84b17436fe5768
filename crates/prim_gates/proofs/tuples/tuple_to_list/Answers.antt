use Rattle.std.proofs.Common.{◌≡◌, ℕ, ◌/◌, ◌<◌, ◌≤◌, List, length, sym, ◌∙◌, arith}
use Rattle.tagged_words.specs.Look.{address_end}
use Rattle.tagged_words.specs.Store.{Store}
use Rattle.tagged_words.specs.Word.{nil_word}
use Rattle.prim_gates.proofs.Chains.{tuple_list_is, length-reads_down, list_full, list_fits}
use Rattle.prim_gates.proofs.Growing.{only_said, made_so}
use Rattle.prim_gates.proofs.Ranges.{built_in}
use Rattle.prim_gates.specs.declared.answer.PrimAnswer.TheVariants as answer
use Rattle.prim_gates.proofs.Seeing.{tuple_word}
use Rattle.prim_gates.specs.Chain.{reads_down}
use Rattle.prim_gates.proofs.tuples.tuple_to_list.Goals as goal

pub returns-then-count-left : goal.returns-then-count-left
returns-then-count-left g c = λ v y z h.
    let s : Store = (g.H.Words.store c.args.heap.now) in
    let room : ℕ = (g.H.HeapWords.room c.args.heap.now) in
    let space : c.left.result ≡ room = c.left.ensures in
    let full : c.left.result / 2 < c.in-Tuple.count = c.if-count-left.true in
    let size : length (reads_down s c.in-Tuple.at c.in-Tuple.count) ≡ c.in-Tuple.count = length-reads_down s c.in-Tuple.at c.in-Tuple.count in
    only_said c.args.heap.now answer.HeapFull _ (sym (tuple_list_is s c.args.atoms.now (built_in 42) room (g.H.HeapWords.end c.args.heap.now) c.args.w c.in-Tuple.at c.in-Tuple.count v (sym c.look_at.ensures ∙ c.in-Tuple.is) h
    ∙ list_full room (g.H.HeapWords.end c.args.heap.now) (reads_down s c.in-Tuple.at c.in-Tuple.count) nil_word (omega arith)))

pub push_elements-requires-clause-there : goal.push_elements-requires-clause-there
push_elements-requires-clause-there g c = λ k low. tuple_word (g.H.Words.store c.args.heap.now) c.args.atoms.now address_end c.args.w c.in-Tuple.at c.in-Tuple.count k (sym c.look_at.ensures ∙ c.in-Tuple.is) low

pub returns-else-count-left : goal.returns-else-count-left
returns-else-count-left g c = λ v y z h.
    let s : Store = (g.H.Words.store c.args.heap.now) in
    let room : ℕ = (g.H.HeapWords.room c.args.heap.now) in
    let top : ℕ = (g.H.HeapWords.end c.args.heap.now) in
    let space : c.left.result ≡ room = c.left.ensures in
    let fits : c.in-Tuple.count ≤ c.left.result / 2 = c.if-count-left.false in
    let hs : List ℕ = reads_down s c.in-Tuple.at c.in-Tuple.count in
    let size : length hs ≡ c.in-Tuple.count = length-reads_down s c.in-Tuple.at c.in-Tuple.count in
    made_so c.args.heap.now _ _ _ _ _ (tuple_list_is s c.args.atoms.now (built_in 42) room top c.args.w c.in-Tuple.at c.in-Tuple.count v (sym c.look_at.ensures ∙ c.in-Tuple.is) h
    ∙ list_fits room top hs nil_word (omega arith))
    c.push_elements.ensures.word c.push_elements.ensures.pushed
