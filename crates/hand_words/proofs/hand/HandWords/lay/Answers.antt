use Rattle.std.proofs.Common.{◌≡◌, ℕ, List, ◌+◌, ◌-◌, ◌*◌, ◌/◌, ◌∙◌, ap, refl, length, arith}
use Rattle.hand_words.proofs.Tops.{laid_at_top}
use Rattle.hand_words.specs.Hand.{used_store}
use Rattle.tagged_words.specs.Laid.{laid}
use Rattle.tagged_words.specs.declared.addresses.TheConstants.{HEAP_START}
use Rattle.term_tree.specs.Size.{words_of}
use Rattle.term_tree.specs.Term.{tree_of}
use Rattle.word_laying.proofs.WrittenLaws.{regions_stay}
use Rattle.word_laying.specs.Written.{written}
use Rattle.hand_words.proofs.hand.HandWords.lay.Goals as goal

pub invariant_of-self-2 : goal.invariant_of-self-2
invariant_of-self-2 c =
    let v = tree_of c.args.term.now in
    let at = c.top-at.result in
    let ws = laid c.args.atoms.now at v in
    let stay = regions_stay c.args.self.now.heap at ws in
    let same : c.lay.new.block ≡ written c.args.self.now.heap at ws = c.in_ok-laid.ensures.words in
    let long : length c.lay.new.block.words ≡ length c.args.self.now.heap.words = ap (λ r. length r.words) same ∙ stay.1 in
    let next : c.in_ok-laid.laid.next ≡ at + 4 * words_of v = ap (λ l. l.next) c.in_ok-laid.ensures.laid in
    let room = c.in_ok-laid.ensures.room.0 refl in
    let start : c.args.self.now.heap.start ≡ HEAP_START = c.args.self.now.heap_start in
    record {
      literals_start = c.args.self.now.literals_start;
      heap_start = ap (λ r. r.start) same ∙ stay.0 ∙ start;
      few_literals = c.args.self.now.few_literals;
      few = omega (arith, long, c.args.self.now.few);
      within = omega (arith, long, next, room, start);
    }

pub returns-clause-store : goal.returns-clause-store
returns-clause-store c =
    let v = tree_of c.args.term.now in
    let at = c.top-at.result in
    let used = c.args.self.now.used in
    let start : c.args.self.now.heap.start ≡ HEAP_START = c.args.self.now.heap_start in
    let next : c.in_ok-laid.laid.next ≡ at + 4 * words_of v = ap (λ l. l.next) c.in_ok-laid.ensures.laid in
    let room = c.in_ok-laid.ensures.room.0 refl in
    let top : at ≡ HEAP_START + 4 * used = c.top-at.ensures in
    let count : (c.in_ok-laid.laid.next - HEAP_START) / 4 ≡ used + words_of v = omega (arith, next, top) in
    let now : c.lay.new.block ≡ written c.args.self.now.heap (HEAP_START + 4 * used) (laid c.args.atoms.now (HEAP_START + 4 * used) v) =
    c.in_ok-laid.ensures.words ∙ ap (λ a. written c.args.self.now.heap a (laid c.args.atoms.now a v)) top in
    let laid_there = laid_at_top c.args.atoms.now c.args.self.now.heap used v start (omega (arith, room, start, top)) in
    ap (λ n. used_store c.args.self.now.literals c.lay.new.block n) count
    ∙ ap (λ r. used_store c.args.self.now.literals r (used + words_of v)) now
    ∙ ap (λ (ws : List ℕ). record { literals = c.args.self.now.literals.words; heap = ws }) laid_there
