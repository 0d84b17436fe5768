use Rattle.std.proofs.Common.{sym, ◌∙◌}
use Rattle.tagged_words.specs.Look.{address_end}
use Rattle.word_walks.specs.declared.comparing.Meeting.TheVariants.{Bad, Differ, Same, Deeper}
use Rattle.word_walks.proofs.Descents.{words_descend}
use Rattle.word_walks.proofs.Meetings.{outcome_by}
use Rattle.word_walks.proofs.comparing.compare_words.Goals as goal

pub compare_rows-requires-clause-row : goal.compare_rows-requires-clause-row
compare_rows-requires-clause-row g c =
    (words_descend (g.W.Words.store c.args.words.now) c.args.atoms.now address_end c.args.a address_end c.args.b c.in-Deeper.row (sym c.meet.ensures ∙ c.in-Deeper.is)).row

pub returns-in-Bad-clause-answer : goal.returns-in-Bad-clause-answer
returns-in-Bad-clause-answer g c x y p q =
    sym (outcome_by (g.W.Words.store c.args.words.now) c.args.atoms.now address_end c.args.a address_end c.args.b (Bad c.in-Bad.word) (sym c.meet.ensures ∙ c.in-Bad.is) x y p q)

pub returns-in-Differ-clause-answer : goal.returns-in-Differ-clause-answer
returns-in-Differ-clause-answer g c x y p q =
    sym (outcome_by (g.W.Words.store c.args.words.now) c.args.atoms.now address_end c.args.a address_end c.args.b (Differ c.in-Differ.order) (sym c.meet.ensures ∙ c.in-Differ.is) x y p q).0

pub returns-in-Same-clause-answer : goal.returns-in-Same-clause-answer
returns-in-Same-clause-answer g c x y p q =
    sym (outcome_by (g.W.Words.store c.args.words.now) c.args.atoms.now address_end c.args.a address_end c.args.b Same (sym c.meet.ensures ∙ c.in-Same.is) x y p q)

pub returns-in-Deeper-clause-answer : goal.returns-in-Deeper-clause-answer
returns-in-Deeper-clause-answer g c x y p q =
    let o = outcome_by (g.W.Words.store c.args.words.now) c.args.atoms.now address_end c.args.a address_end c.args.b (Deeper c.in-Deeper.row) (sym c.meet.ensures ∙ c.in-Deeper.is) x y p q in
    c.compare_rows.ensures.answer o.xs o.ys o.sees ∙ sym o.is
