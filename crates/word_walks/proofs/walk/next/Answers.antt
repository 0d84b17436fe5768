use Rattle.std.proofs.Common.{◌≡◌, ℕ, ◌-◌, string_bytes, set, get_or, refl, sym, ap, subst, ◌∙◌, arith}
use Rattle.std.proofs.lemmas.Result.{IfOk-weaker}
use Rattle.tagged_words.specs.Store.{Store}
use Rattle.word_walks.proofs.Fits.{rows_fit_on, used_within, word_there}
use Rattle.word_walks.proofs.Waiting.{row_closes, row_goes_on}
use Rattle.word_walks.specs.declared.scratch.Row.{Row}
use Rattle.word_walks.specs.declared.scratch.TheConstants.{BLANK}
use Rattle.word_walks.specs.Waiting.{RowsFit}
use Rattle.word_walks.proofs.walk.next.Goals as goal

pub returns-then-row-eq0-clause-holds : goal.returns-then-row-eq0-clause-holds
returns-then-row-eq0-clause-holds g c = λ text all left.
    let last : ℕ = c.args.walk.used - 1 in
    let row : Row = get_or c.args.rows.now last BLANK in
    row_closes (g.W.Words.store c.args.words.now) c.args.atoms.now c.args.rows.now c.args.walk.used last (string_bytes c.args.out.now) (string_bytes c.put_mark.new.out) c.args.walk.nodes row text all (omega arith) refl
    c.if-row-eq0.true c.in_ok-put_mark.ensures left

pub unreachable-requires : goal.unreachable-requires
unreachable-requires g c =
    let some : (get_or c.args.rows.now (c.args.walk.used - 1) BLANK).count ≡ 0 → ⊥ = c.if-row-eq0.false in
    word_there (g.W.Words.store c.args.words.now) c.args.rows.now c.args.walk.used (c.args.walk.used - 1) (omega arith) (omega arith) c.requires.rows_fit (sym c.word.ensures ∙ c.in_default.is)

pub visit-requires-clause-rows_fit : goal.visit-requires-clause-rows_fit
visit-requires-clause-rows_fit g c =
    let s : Store = g.W.Words.store c.args.words.now in
    let some : (get_or c.args.rows.now (c.args.walk.used - 1) BLANK).count ≡ 0 → ⊥ = c.if-row-eq0.false in
    let within = used_within s c.args.rows.now c.args.walk.used c.requires.rows_fit c.requires.room in
    let fit = rows_fit_on s c.args.rows.now c.args.walk.used (c.args.walk.used - 1) (g.met.W.Words.has_addresses c.args.words.now) (omega arith) within (omega arith) c.requires.rows_fit in
    subst (λ r. RowsFit s (set c.args.rows.now (c.args.walk.used - 1) r) c.args.walk.used) (sym c.rest_of.ensures) fit

pub returns-clause-holds : goal.returns-clause-holds
returns-clause-holds g c =
    let s : Store = g.W.Words.store c.args.words.now in
    let last : ℕ = c.args.walk.used - 1 in
    let row : Row = get_or c.args.rows.now last BLANK in
    let within = used_within s c.args.rows.now c.args.walk.used c.requires.rows_fit c.requires.room in
    IfOk-weaker c.visit.result _ _
    (λ step holds text all left. holds text all
    (row_goes_on s c.args.atoms.now c.args.rows.now _ c.args.walk.used last (string_bytes c.args.out.now) c.args.walk.nodes c.in-Some.word row c.place_of.result text all (g.met.W.Words.has_addresses c.args.words.now)
    (omega arith) within refl c.if-row-eq0.false (sym c.word.ensures ∙ c.in-Some.is)
    (ap (λ r. set c.args.rows.now last r) c.rest_of.ensures) c.place_of.ensures left))
    c.visit.ensures.holds
