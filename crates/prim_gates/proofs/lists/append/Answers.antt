use Rattle.std.proofs.Common.{◌≡◌, ℕ, ◌/◌, ◌<◌, ◌≤◌, List, length, reverse, refl, sym, ap, ◌∙◌, arith}
use Rattle.tagged_words.proofs.SeenLaws.{something_seen}
use Rattle.tagged_words.specs.Look.{address_end}
use Rattle.tagged_words.specs.Store.{Store, words_in}
use Rattle.prim_gates.proofs.Chains.{list_full, list_fits}
use Rattle.prim_gates.proofs.Growing.{only_said, made_so}
use Rattle.prim_gates.proofs.Ranges.{built_in}
use Rattle.prim_gates.specs.declared.answer.PrimAnswer.TheVariants as answer
use Rattle.prim_gates.proofs.Kept.{heads_few, kept_is_reverse, length-kept_down}
use Rattle.prim_gates.specs.Chain.{kept_down}
use Rattle.prim_gates.specs.Ended.{ended}
use Rattle.prim_gates.specs.Reply.{list_made}
use Rattle.prim_gates.specs.Shapes.{heads, end_of, at_end, Proper}
use Rattle.prim_gates.proofs.lists.append.Goals as goal

pub returns-then-walked-left-clause-answer : goal.returns-then-walked-left-clause-answer
returns-then-walked-left-clause-answer g c = λ v y z h.
    let s : Store = (g.H.Words.store c.args.heap.now) in
    let room : ℕ = (g.H.HeapWords.room c.args.heap.now) in
    let top : ℕ = (g.H.HeapWords.end c.args.heap.now) in
    let count : ℕ = c.walk_keeping-walked.result.count in
    let hs : List ℕ = heads s c.args.list v in
    let ends : end_of v ≡ Proper = sym (c.walk_keeping-walked.ensures.end v h) ∙ ap ended c.in-Proper.is in
    let many : count ≡ length hs = c.walk_keeping-walked.ensures.count v h in
    let space : c.left.result ≡ room = c.left.ensures in
    let full : c.left.result / 2 < count = c.if-walked-left.true in
    let size : length (reverse hs) ≡ count = ap length (sym (kept_is_reverse hs hs count (sym many) (λ k low. refl))) ∙ length-kept_down hs count in
    only_said c.args.heap.now answer.HeapFull _ (sym (ap (at_end (built_in 40) c.args.list (list_made room top (reverse hs) c.args.tail)) ends ∙ list_full room top (reverse hs) c.args.tail (omega arith)))

pub push_kept-requires-clause-kept : goal.push_kept-requires-clause-kept
push_kept-requires-clause-kept g c =
    let s : Store = (g.H.Words.store c.args.heap.now) in
    let seen = something_seen s c.args.atoms.now address_end c.args.list in
    let many : c.walk_keeping-walked.result.count ≡ length (heads s c.args.list seen.0) = c.walk_keeping-walked.ensures.count seen.0 seen.1 in
    let few : length (heads s c.args.list seen.0) ≤ words_in s = heads_few s c.args.atoms.now address_end c.args.list seen.0 seen.1 in
    let room : words_in s < length c.args.scratch.now = c.requires.room in
    let same : length c.walk_keeping-walked.new.scratch ≡ length c.args.scratch.now = c.walk_keeping-walked.ensures.same in
    omega arith

pub returns-else-walked-left-clause-answer : goal.returns-else-walked-left-clause-answer
returns-else-walked-left-clause-answer g c = λ v y z h.
    let s : Store = (g.H.Words.store c.args.heap.now) in
    let room : ℕ = (g.H.HeapWords.room c.args.heap.now) in
    let top : ℕ = (g.H.HeapWords.end c.args.heap.now) in
    let count : ℕ = c.walk_keeping-walked.result.count in
    let hs : List ℕ = heads s c.args.list v in
    let ends : end_of v ≡ Proper = sym (c.walk_keeping-walked.ensures.end v h) ∙ ap ended c.in-Proper.is in
    let many : count ≡ length hs = c.walk_keeping-walked.ensures.count v h in
    let space : c.left.result ≡ room = c.left.ensures in
    let fits : count ≤ c.left.result / 2 = c.if-walked-left.false in
    let ks : List ℕ = kept_down c.walk_keeping-walked.new.scratch count in
    let kept : ks ≡ reverse hs = kept_is_reverse c.walk_keeping-walked.new.scratch hs count (sym many) (c.walk_keeping-walked.ensures.kept v h) in
    let size : length ks ≡ count = length-kept_down c.walk_keeping-walked.new.scratch count in
    made_so c.args.heap.now _ _ _ _ _ (ap (at_end (built_in 40) c.args.list (list_made room top (reverse hs) c.args.tail)) ends ∙ ap (λ l. list_made room top l c.args.tail) (sym kept) ∙ list_fits room top ks c.args.tail (omega arith))
    c.push_kept.ensures.word c.push_kept.ensures.pushed
