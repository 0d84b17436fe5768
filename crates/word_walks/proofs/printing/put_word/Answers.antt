use Rattle.std.proofs.Common.{string_bytes, sym, subst, ◌∙◌}
use Rattle.tagged_words.specs.Look.{address_end}
use Rattle.tagged_words.specs.Store.{Store}
use Rattle.term_tree.specs.Text.{text_of}
use Rattle.word_walks.proofs.Ends.{IsWithin, root_ahead, within_by_fit, goes_on, step_lighter, ends_spelt}
use Rattle.word_walks.specs.Spelt.{walked, tree_in}
use Rattle.word_walks.specs.Waiting.{StepHolds, walk_weight}
use Rattle.word_walks.proofs.printing.put_word.Goals as goal

pub loop-walk-init : goal.loop-walk-init
loop-walk-init g c =
    let s : Store = g.W.Words.store c.args.words.now in record {
      holds = λ v sees. c.in_ok-step.ensures.holds (text_of (tree_in v)) (walked v) (root_ahead s c.args.atoms.now c.args.rows.now (string_bytes c.args.out.now) address_end c.args.word v c.requires.empty sees);
      within = within_by_fit s c.visit.new.rows c.args.budget _ c.in_ok-step.step c.in_ok-step.ensures.fits;
    }

pub next-requires-clause-within : goal.next-requires-clause-within
next-requires-clause-within g c =
    let goes = goes_on c.loop-walk.step c.in-Some.walk (sym c.going.ensures ∙ c.in-Some.is) in
    let s : Store = g.W.Words.store c.args.words.now in
    (subst (IsWithin s c.loop-walk.rows c.args.budget) goes.is c.loop-walk.invariant.within).0

pub next-requires-clause-rows_fit : goal.next-requires-clause-rows_fit
next-requires-clause-rows_fit g c =
    let goes = goes_on c.loop-walk.step c.in-Some.walk (sym c.going.ensures ∙ c.in-Some.is) in
    let s : Store = g.W.Words.store c.args.words.now in
    (subst (IsWithin s c.loop-walk.rows c.args.budget) goes.is c.loop-walk.invariant.within).1

pub loop-walk-smaller : goal.loop-walk-smaller
loop-walk-smaller g c =
    let goes = goes_on c.loop-walk.step c.in-Some.walk (sym c.going.ensures ∙ c.in-Some.is) in
    let s : Store = g.W.Words.store c.args.words.now in
    step_lighter s c.next.new.rows c.args.budget c.loop-walk.step c.in_ok-step-2.step c.in-Some.walk goes c.in_ok-step-2.ensures.fits

pub loop-walk-preserved : goal.loop-walk-preserved
loop-walk-preserved g c =
    let goes = goes_on c.loop-walk.step c.in-Some.walk (sym c.going.ensures ∙ c.in-Some.is) in
    let s : Store = g.W.Words.store c.args.words.now in record {
      holds = λ v sees. c.in_ok-step-2.ensures.holds (text_of (tree_in v)) (walked v)
          (subst (λ x. StepHolds s c.args.atoms.now c.loop-walk.rows (string_bytes c.loop-walk.out) c.args.budget x (text_of (tree_in v)) (walked v)) goes.is (c.loop-walk.invariant.holds v sees));
      within = within_by_fit s c.next.new.rows c.args.budget (walk_weight c.args.budget c.in-Some.walk) c.in_ok-step-2.step c.in_ok-step-2.ensures.fits;
    }

pub returns : goal.returns
returns g c =
    let s : Store = g.W.Words.store c.args.words.now in
    record { answer = λ v sees. ends_spelt s c.args.atoms.now c.loop-walk.rows (string_bytes c.loop-walk.out) c.args.budget c.loop-walk.step v (sym c.going.ensures ∙ c.in_default.is) c.loop-walk.invariant.within (c.loop-walk.invariant.holds v sees) }
