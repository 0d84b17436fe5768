use Rattle.std.proofs.Common.{◌+◌, ◌<◌, ◌≤◌, ◌^◌, [], refl, sym, ap, ◌∙◌, arith}
use Rattle.tagged_words.specs.declared.look.Look.TheVariants as look
use Rattle.tagged_words.specs.Look.{address_end}
use Rattle.word_walks.specs.Compared.{found_of, Is}
use Rattle.prim_gates.proofs.ListWalks.{another_last}
use Rattle.prim_gates.proofs.Members.{search_begins, first_bad, head_bad, found_equal, found_bad, found_other, search_ends, other_end}
use Rattle.prim_gates.proofs.Seeing.{cons_first, cons_second, cons_low, cons_end}
use Rattle.prim_gates.specs.Reply.{Value}
use Rattle.prim_gates.proofs.lists.member.Goals as goal

pub cells-init : goal.cells-init
cells-init g c = record { looks = search_begins (g.W.Words.store c.args.words.now) c.args.atoms.now c.args.first c.args.list; room = refl }

pub returns-then-shows_nothing-clause-answer : goal.returns-then-shows_nothing-clause-answer
returns-then-shows_nothing-clause-answer g c = λ b v y fails h k.
    first_bad (g.W.Words.store c.args.words.now) c.args.atoms.now c.args.first c.args.list c.cells.limit c.cells.word c.in-Cons.at c.cells.invariant.looks (sym c.look_at.ensures ∙ c.in-Cons.is) b v y h k (sym c.shows_nothing.ensures ∙ c.if-shows_nothing.true)

pub word_there-head-requires : goal.word_there-head-requires
word_there-head-requires g c = cons_first (g.W.Words.store c.args.words.now) c.args.atoms.now c.cells.limit c.cells.word c.in-Cons.at (sym c.look_at.ensures ∙ c.in-Cons.is)

pub returns-then-shows_nothing-2-clause-answer : goal.returns-then-shows_nothing-2-clause-answer
returns-then-shows_nothing-2-clause-answer g c = λ b v y fails h k.
    head_bad (g.W.Words.store c.args.words.now) c.args.atoms.now c.args.first c.args.list c.cells.limit c.cells.word c.in-Cons.at c.cells.invariant.looks (sym c.look_at.ensures ∙ c.in-Cons.is) b v y h k c.word_there-head.result c.word_there-head.ensures.read (sym c.shows_nothing.ensures ∙ c.if-shows_nothing.false) (sym c.shows_nothing-in-Cons.ensures ∙ c.if-shows_nothing-2.true)

pub returns-in-Equal-clause-answer : goal.returns-in-Equal-clause-answer
returns-in-Equal-clause-answer g c = λ b v y fails h k.
    ap (λ x. Value x []) c.atom.ensures.word ∙ found_equal (g.W.Words.store c.args.words.now) c.args.atoms.now c.args.first c.args.list c.cells.limit c.cells.word c.in-Cons.at c.cells.invariant.looks (sym c.look_at.ensures ∙ c.in-Cons.is) b v y h k c.word_there-head.result c.word_there-head.ensures.read (sym c.shows_nothing-in-Cons.ensures ∙ c.if-shows_nothing-2.false) (found_of c.compare_words.result) c.compare_words.ensures.answer (ap found_of c.in-Ok.is ∙ ap Is c.in-Equal.is)

pub returns-in-Err-clause-answer : goal.returns-in-Err-clause-answer
returns-in-Err-clause-answer g c = λ b v y fails h k.
    found_bad (g.W.Words.store c.args.words.now) c.args.atoms.now c.args.first c.args.list c.cells.limit c.cells.word c.in-Cons.at c.cells.invariant.looks (sym c.look_at.ensures ∙ c.in-Cons.is) b v y h k c.word_there-head.result c.word_there-head.ensures.read (sym c.shows_nothing-in-Cons.ensures ∙ c.if-shows_nothing-2.false) (found_of c.compare_words.result) c.compare_words.ensures.answer c.in-Err.field-0.word (ap found_of c.in-Err.is)

pub overflow_add-at : goal.overflow_add-at
overflow_add-at g c =
    let end : c.in-Cons.at + 8 ≤ 2 ^ 32 = cons_end (g.W.Words.store c.args.words.now) c.args.atoms.now c.cells.limit c.cells.word c.in-Cons.at (g.met.W.Words.has_addresses c.args.words.now) (sym c.look_at.ensures ∙ c.in-Cons.is) in
    omega arith

pub word_there-word-requires : goal.word_there-word-requires
word_there-word-requires g c = cons_second (g.W.Words.store c.args.words.now) c.args.atoms.now c.cells.limit c.cells.word c.in-Cons.at (sym c.look_at.ensures ∙ c.in-Cons.is)

pub cells-smaller : goal.cells-smaller
cells-smaller g c = cons_low (g.W.Words.store c.args.words.now) c.args.atoms.now c.cells.limit c.cells.word c.in-Cons.at (sym c.look_at.ensures ∙ c.in-Cons.is)

pub cells-preserved : goal.cells-preserved
cells-preserved g c =
    let below : c.in-Cons.at < c.cells.limit = cons_low (g.W.Words.store c.args.words.now) c.args.atoms.now c.cells.limit c.cells.word c.in-Cons.at (sym c.look_at.ensures ∙ c.in-Cons.is) in
    let high : c.cells.limit ≤ address_end = c.cells.invariant.looks.low in
    record {
      looks = record { low = omega arith; from = λ b v y h k. found_other (g.W.Words.store c.args.words.now) c.args.atoms.now c.args.first c.args.list c.cells.limit c.cells.word c.in-Cons.at c.cells.invariant.looks (sym c.look_at.ensures ∙ c.in-Cons.is) b v y h k c.word_there-head.result c.word_there-head.ensures.read (sym c.shows_nothing-in-Cons.ensures ∙ c.if-shows_nothing-2.false) (found_of c.compare_words.result) c.compare_words.ensures.answer c.in-Ok.order (ap found_of c.in-Ok.is) c.in_default-order.not-Equal c.word_there-word.result c.word_there-word.ensures.read };
      room = c.compare_words.ensures.same ∙ c.cells.invariant.room;
    }

pub returns-in-Nil-clause-answer : goal.returns-in-Nil-clause-answer
returns-in-Nil-clause-answer g c = λ b v y fails h k.
    ap (λ x. Value x []) c.atom-in-Nil.ensures.word ∙ search_ends (g.W.Words.store c.args.words.now) c.args.atoms.now c.args.first c.args.list c.cells.limit c.cells.word look.Nil (sym c.look_at.ensures ∙ c.in-Nil.is) tt c.cells.invariant.looks b v y fails h k

pub returns-in-Bad-clause-answer : goal.returns-in-Bad-clause-answer
returns-in-Bad-clause-answer g c = λ b v y fails h k.
    search_ends (g.W.Words.store c.args.words.now) c.args.atoms.now c.args.first c.args.list c.cells.limit c.cells.word look.Bad (sym c.look_at.ensures ∙ c.in-Bad.is) tt c.cells.invariant.looks b v y fails h k

pub returns-in_default-clause-answer : goal.returns-in_default-clause-answer
returns-in_default-clause-answer g c = λ b v y fails h k.
    sym (other_end c.cells.word c.look_at.result c.in_default.not-Nil c.in_default.not-Bad)
    ∙ search_ends (g.W.Words.store c.args.words.now) c.args.atoms.now c.args.first c.args.list c.cells.limit c.cells.word c.look_at.result (sym c.look_at.ensures) (another_last c.look_at.result c.in_default.not-Cons) c.cells.invariant.looks b v y fails h k
