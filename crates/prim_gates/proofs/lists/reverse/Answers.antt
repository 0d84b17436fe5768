use Rattle.std.proofs.Common.{◌≡◌, ℕ, ◌/◌, ◌<◌, ◌≤◌, List, length, sym, ap, subst, ◌∙◌, arith}
use Rattle.tagged_words.proofs.SeenLaws.{something_seen}
use Rattle.tagged_words.specs.Look.{address_end}
use Rattle.tagged_words.specs.Store.{Store}
use Rattle.prim_gates.proofs.Chains.{chained, length-heads_by, list_full, list_fits}
use Rattle.prim_gates.proofs.Growing.{only_said, made_so}
use Rattle.prim_gates.proofs.Ranges.{built_in}
use Rattle.prim_gates.specs.declared.answer.PrimAnswer.TheVariants as answer
use Rattle.prim_gates.specs.Chain.{heads_by, IsChain}
use Rattle.prim_gates.specs.Ended.{ended}
use Rattle.prim_gates.specs.Reply.{list_made}
use Rattle.prim_gates.specs.Shapes.{heads, end_of, at_end, Proper}
use Rattle.prim_gates.proofs.lists.reverse.Goals as goal

pub returns-then-walked-left : goal.returns-then-walked-left
returns-then-walked-left g c = λ v y z h.
    let s : Store = g.H.Words.store c.args.heap.now in
    let room : ℕ = g.H.HeapWords.room c.args.heap.now in
    let top : ℕ = g.H.HeapWords.end c.args.heap.now in
    let ends : end_of v ≡ Proper = sym (c.walk-walked.ensures.end v h) ∙ ap ended c.in-Proper.is in
    let many : c.walk-walked.result.count ≡ length (heads s c.args.list v) = c.walk-walked.ensures.count v h in
    let space : c.left.result ≡ room = c.left.ensures in
    let full : c.left.result / 2 < c.walk-walked.result.count = c.if-walked-left.true in
    only_said c.args.heap.now answer.HeapFull _ (sym (ap (at_end (built_in 43) c.args.list (list_made room top (heads s c.args.list v) c.args.tail)) ends ∙ list_full room top (heads s c.args.list v) c.args.tail (omega arith)))

pub push_heads-requires-clause-there : goal.push_heads-requires-clause-there
push_heads-requires-clause-there g c =
    let s : Store = g.H.Words.store c.args.heap.now in
    let seen = something_seen s c.args.atoms.now address_end c.args.list in
    subst (IsChain s c.args.list) (sym (c.walk-walked.ensures.count seen.0 seen.1)) (chained s c.args.atoms.now address_end c.args.list seen.0 seen.1).0

pub returns-else-walked-left : goal.returns-else-walked-left
returns-else-walked-left g c = λ v y z h.
    let s : Store = g.H.Words.store c.args.heap.now in
    let room : ℕ = g.H.HeapWords.room c.args.heap.now in
    let top : ℕ = g.H.HeapWords.end c.args.heap.now in
    let count : ℕ = c.walk-walked.result.count in
    let hs : List ℕ = heads_by s c.args.list count in
    let ends : end_of v ≡ Proper = sym (c.walk-walked.ensures.end v h) ∙ ap ended c.in-Proper.is in
    let many : count ≡ length (heads s c.args.list v) = c.walk-walked.ensures.count v h in
    let same : heads s c.args.list v ≡ hs = (chained s c.args.atoms.now address_end c.args.list v h).1 ∙ ap (heads_by s c.args.list) (sym many) in
    let space : c.left.result ≡ room = c.left.ensures in
    let fits : count ≤ c.left.result / 2 = c.if-walked-left.false in
    let size : length hs ≡ count = length-heads_by s c.args.list count in
    made_so c.args.heap.now _ _ _ _ _ (ap (at_end (built_in 43) c.args.list (list_made room top (heads s c.args.list v) c.args.tail)) ends ∙ ap (λ l. list_made room top l c.args.tail) same ∙ list_fits room top hs c.args.tail (omega arith))
    c.push_heads.ensures.word c.push_heads.ensures.pushed
