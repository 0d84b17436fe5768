use Rattle.std.proofs.Common.{ℕ, List, [], map, sym, ◌∙◌, arith, Bor}
use Rattle.std.proofs.lemmas.List.{length-map}
use Rattle.tagged_words.proofs.Begins.{begins_short, begins_differs, begins_agrees}
use Rattle.tagged_words.proofs.atoms.begin_with.Goals as goal

pub returns-then-names-texts : goal.returns-then-names-texts
returns-then-names-texts c = sym (begins_short (map (λ w. w.now) c.args.texts.now) c.args.names.now (omega (arith, length-map c.args.texts.now (λ w. w.now), c.if-names-texts.true)))

pub returns-then-not-is_text : goal.returns-then-not-is_text
returns-then-not-is_text c =
    let d : Bor (List ℕ) = record { ref_ptr = (0, 0); now = [] } in
    sym (begins_differs (λ w. w.now) c.args.texts.now c.args.names.now c.loop-i.i d c.index-names-i.result c.is_text.result c.loop-i-test.true (omega (arith, c.loop-i-test.true, c.if-names-texts.false)) c.index-names-i.is c.is_text.ensures c.if-not-is_text.true) ∙ c.loop-i.invariant

pub loop-i-preserved : goal.loop-i-preserved
loop-i-preserved c =
    let d : Bor (List ℕ) = record { ref_ptr = (0, 0); now = [] } in
    sym (begins_agrees (λ w. w.now) c.args.texts.now c.args.names.now c.loop-i.i d c.index-names-i.result c.is_text.result c.loop-i-test.true (omega (arith, c.loop-i-test.true, c.if-names-texts.false)) c.index-names-i.is c.is_text.ensures c.if-not-is_text.false) ∙ c.loop-i.invariant
