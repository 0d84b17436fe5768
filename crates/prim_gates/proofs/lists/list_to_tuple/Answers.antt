use Rattle.std.proofs.Common.{◌≡◌, ℕ, ◌+◌, ◌<◌, List, [], ◌∷◌, length, sym, ap, subst, ◌∙◌, arith}
use Rattle.tagged_words.proofs.SeenLaws.{something_seen}
use Rattle.tagged_words.specs.Look.{address_end}
use Rattle.tagged_words.specs.Store.{Store}
use Rattle.prim_gates.proofs.Chains.{chained, chain_kept, length-heads_by, tuple_fits}
use Rattle.prim_gates.proofs.Growing.{made_so, headed}
use Rattle.prim_gates.proofs.Ranges.{built_in}
use Rattle.prim_gates.specs.Said.{HasPushed}
use Rattle.prim_gates.specs.Chain.{heads_by, IsChain}
use Rattle.prim_gates.specs.Ended.{ended}
use Rattle.prim_gates.specs.Reply.{pushed, tuple_made}
use Rattle.prim_gates.specs.Shapes.{heads, end_of, at_end, Proper}
use Rattle.prim_gates.proofs.lists.list_to_tuple.Goals as goal

pub push_elements_of-requires-clause-there : goal.push_elements_of-requires-clause-there
push_elements_of-requires-clause-there g c =
    let s : Store = (g.H.Words.store c.args.heap.now) in
    let seen = something_seen s c.args.atoms.now address_end c.args.list in
    let chain : IsChain s c.args.list c.walk-walked.result.count = subst (IsChain s c.args.list) (sym (c.walk-walked.ensures.count seen.0 seen.1)) (chained s c.args.atoms.now address_end c.args.list seen.0 seen.1).0 in
    subst (λ z. IsChain z c.args.list c.walk-walked.result.count) (sym c.push_word.ensures.stored) (chain_kept s (c.header.result ∷ []) c.args.list c.walk-walked.result.count chain).0

pub returns-else-walked-left : goal.returns-else-walked-left
returns-else-walked-left g c = λ v y z h.
    let s : Store = (g.H.Words.store c.args.heap.now) in
    let room : ℕ = (g.H.HeapWords.room c.args.heap.now) in
    let top : ℕ = (g.H.HeapWords.end c.args.heap.now) in
    let count : ℕ = c.walk-walked.result.count in
    let hs : List ℕ = heads_by s c.args.list count in
    let ends : end_of v ≡ Proper = sym (c.walk-walked.ensures.end v h) ∙ ap ended c.in-Proper.is in
    let many : count ≡ length (heads s c.args.list v) = c.walk-walked.ensures.count v h in
    let links = chained s c.args.atoms.now address_end c.args.list v h in
    let same : heads s c.args.list v ≡ hs = links.1 ∙ ap (heads_by s c.args.list) (sym many) in
    let chain : IsChain s c.args.list count = subst (IsChain s c.args.list) (sym many) links.0 in
    let kept : heads_by (pushed s (c.header.result ∷ [])) c.args.list count ≡ hs = (chain_kept s (c.header.result ∷ []) c.args.list count chain).1 in
    let space : c.left.result ≡ room = c.left.ensures in
    let fits : count < c.left.result = c.if-walked-left.false in
    let size : length hs ≡ count = length-heads_by s c.args.list count in
    let now : heads_by (g.H.Words.store c.push_word.new.heap) c.args.list count ≡ hs = ap (λ z. heads_by z c.args.list count) c.push_word.ensures.stored ∙ kept in
    made_so c.args.heap.now _ _ _ _ _ (ap (at_end (built_in 41) c.args.list (tuple_made room top (heads s c.args.list v))) ends ∙ ap (tuple_made room top) same ∙ tuple_fits room top hs (omega arith))
    (ap (λ w. w + 2) c.top-cell.ensures)
    (headed c.push_word.ensures c.header.ensures.word size (subst (λ ws. HasPushed g.H.HeapWords.Grows g.H.Words.store g.H.HeapWords.room g.H.HeapWords.end c.push_word.new.heap ws c.push_elements_of.new.heap) now c.push_elements_of.ensures))
