use Rattle.std.proofs.Common.{Some, None, sym, ◌∙◌, arith}
use Rattle.word_walks.proofs.Comparison.{begins, meets_bad, meets_different, has_next_place, may_go, walks_on, enters_row, walks_down}
use Rattle.word_walks.proofs.Walking.{has_next}
use Rattle.word_walks.proofs.comparing.compare_rows.Goals as goal

pub pairs-init : goal.pairs-init
pairs-init g c = begins (g.W.Words.store c.args.words.now) c.args.atoms.now c.args.first c.args.rows.now c.requires.row c.requires.room

pub meet_first-requires : goal.meet_first-requires
meet_first-requires g c = c.pairs.invariant.fit.row.row

pub returns-in-Bad-clause-answer : goal.returns-in-Bad-clause-answer
returns-in-Bad-clause-answer g c =
    meets_bad (g.W.Words.store c.args.words.now) c.args.atoms.now c.args.first c.pairs.rows c.pairs.place c.pairs.invariant c.in-Bad.word (sym c.meet_first.ensures ∙ c.in-Bad.is)

pub returns-in-Differ-clause-answer : goal.returns-in-Differ-clause-answer
returns-in-Differ-clause-answer g c =
    meets_different (g.W.Words.store c.args.words.now) c.args.atoms.now c.args.first c.pairs.rows c.pairs.place c.pairs.invariant c.in-Differ.order (sym c.meet_first.ensures ∙ c.in-Differ.is)

pub leave-requires-clause-next : goal.leave-requires-clause-next
leave-requires-clause-next g c = has_next (g.W.Words.store c.args.words.now) c.pairs.place.row (g.met.W.Words.has_addresses c.args.words.now) c.pairs.invariant.fit.row.row

pub leave-requires-clause-room : goal.leave-requires-clause-room
leave-requires-clause-room g c = omega (arith, c.pairs.invariant.room, c.pairs.invariant.fit.row.room)

pub returns-in-None-clause-answer : goal.returns-in-None-clause-answer
returns-in-None-clause-answer g c xs ys sees =
    sym (has_next_place (g.W.Words.store c.args.words.now) c.args.atoms.now c.args.first c.pairs.rows c.pairs.place c.pairs.invariant (sym c.meet_first.ensures ∙ c.in-Same.is) None (sym c.in-None.is ∙ c.leave.ensures) xs ys sees)

pub pairs-smaller-in-Some : goal.pairs-smaller-in-Some
pairs-smaller-in-Some g c =
    (may_go (g.W.Words.store c.args.words.now) c.args.atoms.now c.args.first c.pairs.rows c.pairs.place c.pairs.invariant (Some c.in-Some.next) (sym c.in-Some.is ∙ c.leave.ensures)).less

pub pairs-preserved-in-Some : goal.pairs-preserved-in-Some
pairs-preserved-in-Some g c =
    walks_on (g.W.Words.store c.args.words.now) c.args.atoms.now c.args.first c.pairs.rows c.pairs.place c.pairs.invariant (sym c.meet_first.ensures ∙ c.in-Same.is) c.in-Some.next (sym c.in-Some.is ∙ c.leave.ensures)

pub enter-place-requires-clause-next : goal.enter-place-requires-clause-next
enter-place-requires-clause-next g c = has_next (g.W.Words.store c.args.words.now) c.pairs.place.row (g.met.W.Words.has_addresses c.args.words.now) c.pairs.invariant.fit.row.row

pub enter-place-requires-clause-room : goal.enter-place-requires-clause-room
enter-place-requires-clause-room g c = omega (arith, c.pairs.invariant.room, c.pairs.invariant.fit.row.room)

pub pairs-smaller : goal.pairs-smaller
pairs-smaller g c =
    rw (c.enter-place.ensures.rows, c.enter-place.ensures.place) (enters_row (g.W.Words.store c.args.words.now) c.args.atoms.now c.args.first c.pairs.rows c.pairs.place c.pairs.invariant c.in-Deeper.row (sym c.meet_first.ensures ∙ c.in-Deeper.is)).less

pub pairs-preserved : goal.pairs-preserved
pairs-preserved g c =
    rw (c.enter-place.ensures.rows, c.enter-place.ensures.place) (walks_down (g.W.Words.store c.args.words.now) c.args.atoms.now c.args.first c.pairs.rows c.pairs.place c.pairs.invariant c.in-Deeper.row (sym c.meet_first.ensures ∙ c.in-Deeper.is))
