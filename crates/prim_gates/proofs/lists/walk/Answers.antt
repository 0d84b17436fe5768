use Rattle.std.proofs.Common.{◌+◌, ◌<◌, ◌≤◌, sym, ◌∙◌, arith}
use Rattle.tagged_words.specs.declared.look.Look.TheVariants as look
use Rattle.prim_gates.proofs.ListWalks.{walk_begins, walk_goes_on, walk_count, walk_end, another_last, another_end}
use Rattle.prim_gates.proofs.Seeing.{cons_second, cons_low}
use Rattle.prim_gates.proofs.lists.walk.Goals as goal

pub cells-init : goal.cells-init
cells-init g c = walk_begins (g.W.Words.store c.args.words.now) c.args.atoms.now c.args.w

pub word_there-word-requires : goal.word_there-word-requires
word_there-word-requires g c = cons_second (g.W.Words.store c.args.words.now) c.args.atoms.now c.cells.limit c.cells.word c.in-Cons.at (sym c.look_at.ensures ∙ c.in-Cons.is)

pub overflow_add-count : goal.overflow_add-count
overflow_add-count g c =
    let low : c.in-Cons.at < c.cells.limit = cons_low (g.W.Words.store c.args.words.now) c.args.atoms.now c.cells.limit c.cells.word c.in-Cons.at (sym c.look_at.ensures ∙ c.in-Cons.is) in
    let room : c.cells.count + c.cells.limit ≤ 4294967295 = c.cells.invariant.room in
    omega arith

pub cells-preserved : goal.cells-preserved
cells-preserved g c = walk_goes_on (g.W.Words.store c.args.words.now) c.args.atoms.now c.args.w c.cells.limit c.cells.word c.cells.count c.in-Cons.at _ (sym c.look_at.ensures ∙ c.in-Cons.is) c.word_there-word.ensures.read c.cells.invariant

pub returns-in-Nil-clause-count : goal.returns-in-Nil-clause-count
returns-in-Nil-clause-count g c = walk_count (g.W.Words.store c.args.words.now) c.args.atoms.now c.args.w c.cells.limit c.cells.word c.cells.count look.Nil (sym c.look_at.ensures ∙ c.in-Nil.is) tt c.cells.invariant

pub returns-in-Nil-clause-end : goal.returns-in-Nil-clause-end
returns-in-Nil-clause-end g c = walk_end (g.W.Words.store c.args.words.now) c.args.atoms.now c.args.w c.cells.limit c.cells.word c.cells.count look.Nil (sym c.look_at.ensures ∙ c.in-Nil.is) tt c.cells.invariant

pub returns-in-Bad-clause-count : goal.returns-in-Bad-clause-count
returns-in-Bad-clause-count g c = walk_count (g.W.Words.store c.args.words.now) c.args.atoms.now c.args.w c.cells.limit c.cells.word c.cells.count look.Bad (sym c.look_at.ensures ∙ c.in-Bad.is) tt c.cells.invariant

pub returns-in-Bad-clause-end : goal.returns-in-Bad-clause-end
returns-in-Bad-clause-end g c = walk_end (g.W.Words.store c.args.words.now) c.args.atoms.now c.args.w c.cells.limit c.cells.word c.cells.count look.Bad (sym c.look_at.ensures ∙ c.in-Bad.is) tt c.cells.invariant

pub returns-in_default-clause-count : goal.returns-in_default-clause-count
returns-in_default-clause-count g c =
    walk_count (g.W.Words.store c.args.words.now) c.args.atoms.now c.args.w c.cells.limit c.cells.word c.cells.count c.look_at.result (sym c.look_at.ensures)
    (another_last c.look_at.result c.in_default.not-Cons) c.cells.invariant

pub returns-in_default-clause-end : goal.returns-in_default-clause-end
returns-in_default-clause-end g c = λ v h.
    sym (another_end c.cells.word c.look_at.result c.in_default.not-Nil c.in_default.not-Bad)
    ∙ walk_end (g.W.Words.store c.args.words.now) c.args.atoms.now c.args.w c.cells.limit c.cells.word c.cells.count c.look_at.result (sym c.look_at.ensures) (another_last c.look_at.result c.in_default.not-Cons) c.cells.invariant v h
