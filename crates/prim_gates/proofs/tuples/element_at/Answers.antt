use Rattle.std.proofs.Common.{◌≡◌, ℕ, ◌+◌, ◌*◌, ◌≤◌, ◌^◌, pos, w32, [], ap, sym, ◌∙◌, arith}
use Rattle.std.proofs.lemmas.Int.{to_z-of_z}
use Rattle.tagged_words.specs.Look.{address_end}
use Rattle.tagged_words.specs.Seen.{Tuple, seen_size}
use Rattle.tagged_words.specs.Store.{Store}
use Rattle.prim_gates.proofs.Seeing.{tuple_word, tuple_end, tuple_is, tuple_seen, element_at}
use Rattle.prim_gates.specs.Reply.{Value}
use Rattle.prim_gates.specs.Shapes.{element_of}
use Rattle.prim_gates.proofs.tuples.element_at.Goals as goal

pub overflow_add-at : goal.overflow_add-at
overflow_add-at g c =
    let s : Store = g.W.Words.store c.args.words.now in
    let at : ℕ = c.in-Tuple.at in
    let n : ℕ = c.in-Tuple.count in
    let e = sym c.look_at.ensures ∙ c.in-Tuple.is in
    let end : at + 4 * (1 + n) ≤ 2 ^ 32 = tuple_end s c.args.atoms.now address_end c.args.tuple at n (g.met.W.Words.has_addresses c.args.words.now) e in
    omega arith

pub word_there-requires : goal.word_there-requires
word_there-requires g c =
    let s : Store = g.W.Words.store c.args.words.now in
    let e = sym c.look_at.ensures ∙ c.in-Tuple.is in
    tuple_word s c.args.atoms.now address_end c.args.tuple c.in-Tuple.at c.in-Tuple.count c.without_sign-place.result e (omega arith)

pub returns-then-place-count : goal.returns-then-place-count
returns-then-place-count g c = λ b v fails sees.
    let s : Store = g.W.Words.store c.args.words.now in
    let at : ℕ = c.in-Tuple.at in
    let n : ℕ = c.in-Tuple.count in
    let place : ℕ = c.without_sign-place.result in
    let e = sym c.look_at.ensures ∙ c.in-Tuple.is in
    let seen = tuple_seen s c.args.atoms.now address_end c.args.tuple at n v e sees in
    let word : c.args.tuple ≡ at + 2 = tuple_is s c.args.atoms.now address_end c.args.tuple at n e in
    let many : seen_size seen.elements ≡ n = seen.many in
    let index : pos place ≡ c.args.index = c.without_sign-place.ensures.same ∙ to_z-of_z w32 c.args.index c.ranges.index in
    let is = element_at s b place c.args.first c.args.tuple at seen.elements c.without_sign-place.ensures.some (omega (arith, c.if-place-count.true)) word in
    ap (λ x. Value x []) c.word_there.ensures.read ∙ is ∙ ap (λ i. element_of s b i c.args.first c.args.tuple (Tuple seen.elements)) index ∙ sym (ap (element_of s b c.args.index c.args.first c.args.tuple) seen.is)
