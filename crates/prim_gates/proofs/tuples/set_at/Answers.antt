use Rattle.std.proofs.Common.{◌≡◌, ℕ, ◌+◌, ◌*◌, ◌<◌, ◌≤◌, true, pos, w32, is_some, List, [], ◌∷◌, length, sym, ap, subst, ◌∙◌, arith}
use Rattle.std.proofs.lemmas.Int.{to_z-of_z}
use Rattle.tagged_words.specs.Look.{address_end}
use Rattle.tagged_words.specs.Store.{Store, word_of}
use Rattle.prim_gates.proofs.Chains.{with_element_is, length-with_place, place_kept, still_there, tuple_full, tuple_fits}
use Rattle.prim_gates.proofs.Growing.{only_said, made_so, headed}
use Rattle.prim_gates.proofs.Ranges.{built_in}
use Rattle.prim_gates.specs.Said.{HasPushed}
use Rattle.prim_gates.specs.declared.answer.PrimAnswer.TheVariants as answer
use Rattle.prim_gates.proofs.Seeing.{tuple_word}
use Rattle.prim_gates.specs.Chain.{with_place}
use Rattle.prim_gates.specs.Shapes.{with_element}
use Rattle.prim_gates.proofs.tuples.set_at.Goals as goal

pub returns-then-count-left : goal.returns-then-count-left
returns-then-count-left g c = λ v z h.
    let s : Store = (g.H.Words.store c.args.heap.now) in
    let room : ℕ = (g.H.HeapWords.room c.args.heap.now) in
    let top : ℕ = (g.H.HeapWords.end c.args.heap.now) in
    let n : ℕ = c.in-Tuple.count in
    let place : ℕ = c.without_sign-place.result in
    let index : pos place ≡ c.args.index = c.without_sign-place.ensures.same ∙ to_z-of_z w32 c.args.index c.ranges.index in
    let low : place ≤ n = c.if-place-count.false in
    let space : c.left.result ≡ room = c.left.ensures in
    let ws : List ℕ = with_place s c.in-Tuple.at 1 n place c.args.new in
    let size : length ws ≡ n = length-with_place s c.in-Tuple.at place c.args.new 1 n in
    let full : c.left.result ≤ n = c.if-count-left.true in
    only_said c.args.heap.now answer.HeapFull _ (sym (ap (λ i. with_element s (built_in 39) room top i c.args.first c.args.tuple v c.args.new) (sym index) ∙ with_element_is s c.args.atoms.now (built_in 39) room top place c.args.first c.args.tuple c.in-Tuple.at n c.args.new v c.without_sign-place.ensures.some low (sym c.look_at.ensures ∙ c.in-Tuple.is) h
    ∙ tuple_full room top ws (omega arith)))

pub push_with-requires-clause-there : goal.push_with-requires-clause-there
push_with-requires-clause-there g c = λ k low.
    let s : Store = (g.H.Words.store c.args.heap.now) in
    subst (λ z. is_some (word_of z (c.in-Tuple.at + 4 * k)) ≡ true) (sym c.push_word.ensures.stored)
    (still_there s (c.header.result ∷ []) (c.in-Tuple.at + 4 * k) (tuple_word s c.args.atoms.now address_end c.args.tuple c.in-Tuple.at c.in-Tuple.count k (sym c.look_at.ensures ∙ c.in-Tuple.is) low))

pub returns-else-count-left : goal.returns-else-count-left
returns-else-count-left g c = λ v z h.
    let s : Store = (g.H.Words.store c.args.heap.now) in
    let room : ℕ = (g.H.HeapWords.room c.args.heap.now) in
    let top : ℕ = (g.H.HeapWords.end c.args.heap.now) in
    let n : ℕ = c.in-Tuple.count in
    let place : ℕ = c.without_sign-place.result in
    let index : pos place ≡ c.args.index = c.without_sign-place.ensures.same ∙ to_z-of_z w32 c.args.index c.ranges.index in
    let low : place ≤ n = c.if-place-count.false in
    let space : c.left.result ≡ room = c.left.ensures in
    let ws : List ℕ = with_place s c.in-Tuple.at 1 n place c.args.new in
    let size : length ws ≡ n = length-with_place s c.in-Tuple.at place c.args.new 1 n in
    let fits : n < c.left.result = c.if-count-left.false in
    let kept : with_place (g.H.Words.store c.push_word.new.heap) c.in-Tuple.at 1 n place c.args.new ≡ ws =
    ap (λ z. with_place z c.in-Tuple.at 1 n place c.args.new) c.push_word.ensures.stored
    ∙ place_kept s (c.header.result ∷ []) c.in-Tuple.at place c.args.new 1 n (λ j less. tuple_word s c.args.atoms.now address_end c.args.tuple c.in-Tuple.at n j (sym c.look_at.ensures ∙ c.in-Tuple.is) less) in
    made_so c.args.heap.now _ _ _ _ _ (ap (λ i. with_element s (built_in 39) room top i c.args.first c.args.tuple v c.args.new) (sym index) ∙ with_element_is s c.args.atoms.now (built_in 39) room top place c.args.first c.args.tuple c.in-Tuple.at n c.args.new v c.without_sign-place.ensures.some low (sym c.look_at.ensures ∙ c.in-Tuple.is) h
    ∙ tuple_fits room top ws (omega arith))
    (ap (λ w. w + 2) c.top-cell.ensures)
    (headed c.push_word.ensures c.header.ensures.word size (subst (λ ws. HasPushed g.H.HeapWords.Grows g.H.Words.store g.H.HeapWords.room g.H.HeapWords.end c.push_word.new.heap ws c.push_with.new.heap) kept c.push_with.ensures))
