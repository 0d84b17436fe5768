use Rattle.std.proofs.Common.{ℕ, ◌<◌, string_bytes, length, sym, subst, ◌∙◌, arith}
use Rattle.tagged_words.specs.Store.{Store}
use Rattle.word_walks.proofs.Fits.{shown_fits, used_upto}
use Rattle.word_walks.proofs.Visits.{goes, stopped, was_shown}
use Rattle.word_walks.specs.Shown.{opened, row_index, used_with}
use Rattle.word_walks.specs.Waiting.{RowsFit}
use Rattle.word_walks.proofs.walk.visit.Goals as goal

pub returns-in-Some-clause-holds : goal.returns-in-Some-clause-holds
returns-in-Some-clause-holds g c = λ text all ahead.
    stopped (g.W.Words.store c.args.words.now) c.args.atoms.now c.args.rows.now c.args.walk.used (string_bytes c.args.out.now) c.args.walk.nodes c.args.spot.limit c.args.spot.word c.args.budget c.args.spot.place
    c.look_at-look.result text all c.in-Some.step c.requires.within c.look_at-look.ensures (sym c.stop.ensures ∙ c.in-Some.is) ahead

pub returns-clause-holds : goal.returns-clause-holds
returns-clause-holds g c = λ text all ahead.
    let on = goes c.args.walk.nodes c.args.budget c.args.spot.word c.look_at-look.result c.requires.within (sym c.stop.ensures ∙ c.in_default.is) in
    let room : c.args.walk.used < length c.args.rows.now = omega arith in
    was_shown (g.W.Words.store c.args.words.now) c.args.atoms.now c.args.rows.now c.push-used.new.rows c.args.walk.used c.push-used.result (string_bytes c.args.out.now) (string_bytes c.put_shown.new.out) c.args.walk.nodes
    c.args.spot.limit c.args.spot.word c.args.spot.place c.look_at-look.result text all (g.met.W.Words.has_addresses c.args.words.now) room c.look_at-look.ensures on.0
    c.push-used.ensures.rows c.push-used.ensures.used c.in_ok-put_shown.ensures ahead

pub returns-clause-fits : goal.returns-clause-fits
returns-clause-fits g c =
    let on = goes c.args.walk.nodes c.args.budget c.args.spot.word c.look_at-look.result c.requires.within (sym c.stop.ensures ∙ c.in_default.is) in
    let below : c.args.walk.nodes < c.args.budget = on.1 in
    let s : Store = g.W.Words.store c.args.words.now in
    let room : c.args.walk.used < length c.args.rows.now = omega arith in
    let l = c.look_at-look.result in
    let place = c.args.spot.place in
    let used : ℕ = c.args.walk.used in
    let upto = used_upto place l used in
    let low = shown_fits s c.args.atoms.now c.args.spot.limit c.args.spot.word c.args.rows.now used place l (g.met.W.Words.has_addresses c.args.words.now) (sym c.look_at-look.ensures) room c.requires.low c.requires.rows_fit in
    let at_rows : RowsFit s c.push-used.new.rows (used_with (opened l) (row_index place l used) used) = subst (λ r. RowsFit s r (used_with (opened l) (row_index place l used) used)) (sym c.push-used.ensures.rows) low in
    (omega arith, omega (arith, c.push-used.ensures.used), subst (RowsFit s c.push-used.new.rows) (sym c.push-used.ensures.used) at_rows)
