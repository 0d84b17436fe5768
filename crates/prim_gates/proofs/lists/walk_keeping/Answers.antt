use Rattle.std.proofs.Common.{◌≡◌, ◌+◌, length, subst, sym, ap, ◌∙◌, arith}
use Rattle.std.proofs.lemmas.List.{length-set}
use Rattle.tagged_words.specs.declared.look.Look.TheVariants as look
use Rattle.prim_gates.proofs.Kept.{IsKeeping, keeps_on}
use Rattle.prim_gates.proofs.ListWalks.{walk_count, walk_end, another_last, another_end}
use Rattle.prim_gates.proofs.Seeing.{cons_first, cons_second}
use Rattle.prim_gates.proofs.lists.walk_keeping.Goals as goal

pub word_there-requires : goal.word_there-requires
word_there-requires g c = cons_first (g.W.Words.store c.args.words.now) c.args.atoms.now c.cells.limit c.cells.word c.in-Cons.at (sym c.look_at.ensures ∙ c.in-Cons.is)

pub word_there-word-requires : goal.word_there-word-requires
word_there-word-requires g c = cons_second (g.W.Words.store c.args.words.now) c.args.atoms.now c.cells.limit c.cells.word c.in-Cons.at (sym c.look_at.ensures ∙ c.in-Cons.is)

pub cells-preserved : goal.cells-preserved
cells-preserved g c =
    let k : IsKeeping (g.W.Words.store c.args.words.now) c.args.atoms.now c.args.w c.cells.limit c.cells.word c.cells.count c.cells.scratch = c.cells.invariant.keeping in
    let same : length c.cells.scratch ≡ length c.args.scratch.now = c.cells.invariant.same in
    let low = k.low in
    let room = c.requires.room in
    let next = keeps_on (g.W.Words.store c.args.words.now) c.args.atoms.now c.args.w c.cells.limit c.cells.word c.cells.count c.in-Cons.at c.word_there.result c.word_there-word.result c.cells.scratch
    (sym c.look_at.ensures ∙ c.in-Cons.is) c.word_there.ensures.read c.word_there-word.ensures.read (omega arith) k in
    record {
      keeping = subst (IsKeeping (g.W.Words.store c.args.words.now) c.args.atoms.now c.args.w c.in-Cons.at c.word_there-word.result (c.cells.count + 1)) (sym c.keep.ensures) next;
      same = ap length c.keep.ensures ∙ length-set c.cells.scratch c.cells.count c.word_there.result ∙ same;
    }

pub returns-in-Nil-clause-count : goal.returns-in-Nil-clause-count
returns-in-Nil-clause-count g c = walk_count (g.W.Words.store c.args.words.now) c.args.atoms.now c.args.w c.cells.limit c.cells.word c.cells.count look.Nil (sym c.look_at.ensures ∙ c.in-Nil.is) tt c.cells.invariant.keeping.walk

pub returns-in-Nil-clause-end : goal.returns-in-Nil-clause-end
returns-in-Nil-clause-end g c = walk_end (g.W.Words.store c.args.words.now) c.args.atoms.now c.args.w c.cells.limit c.cells.word c.cells.count look.Nil (sym c.look_at.ensures ∙ c.in-Nil.is) tt c.cells.invariant.keeping.walk

pub returns-in-Bad-clause-count : goal.returns-in-Bad-clause-count
returns-in-Bad-clause-count g c = walk_count (g.W.Words.store c.args.words.now) c.args.atoms.now c.args.w c.cells.limit c.cells.word c.cells.count look.Bad (sym c.look_at.ensures ∙ c.in-Bad.is) tt c.cells.invariant.keeping.walk

pub returns-in-Bad-clause-end : goal.returns-in-Bad-clause-end
returns-in-Bad-clause-end g c = walk_end (g.W.Words.store c.args.words.now) c.args.atoms.now c.args.w c.cells.limit c.cells.word c.cells.count look.Bad (sym c.look_at.ensures ∙ c.in-Bad.is) tt c.cells.invariant.keeping.walk

pub returns-in_default-clause-count : goal.returns-in_default-clause-count
returns-in_default-clause-count g c =
    walk_count (g.W.Words.store c.args.words.now) c.args.atoms.now c.args.w c.cells.limit c.cells.word c.cells.count c.look_at.result (sym c.look_at.ensures)
    (another_last c.look_at.result c.in_default.not-Cons) c.cells.invariant.keeping.walk

pub returns-in_default-clause-end : goal.returns-in_default-clause-end
returns-in_default-clause-end g c = λ v h.
    sym (another_end c.cells.word c.look_at.result c.in_default.not-Nil c.in_default.not-Bad)
    ∙ walk_end (g.W.Words.store c.args.words.now) c.args.atoms.now c.args.w c.cells.limit c.cells.word c.cells.count c.look_at.result (sym c.look_at.ensures)
    (another_last c.look_at.result c.in_default.not-Cons) c.cells.invariant.keeping.walk v h
