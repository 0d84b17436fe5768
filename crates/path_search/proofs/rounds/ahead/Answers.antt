use Rattle.std.proofs.Common.{◌≡◌, ℕ, List, [], ◌++◌, Some, Bool, true, false, ◌<◌, ◌↔◌, ap, refl, ◌∙◌, arith, subst, take, length, slice_get, get_or}
use Rattle.std.specs.List.{Contains}
use Rattle.std.proofs.lemmas.Option.{slice_get_read}
use Rattle.paths.specs.Rules.{Ways, GoesOn}
use Rattle.path_search.specs.Found.{IsAhead, IsByItem, IsListed, goes_on_by_row}
use Rattle.path_search.proofs.Going.{goes_is}
use Rattle.path_search.proofs.rounds.ahead.Goals as goal

module _ {P : Type 0} (w : Ways P) (item : P → ℕ) (by_item : IsByItem w item) (xs ys : List P) (rows new : List (List ℕ)) (listed : IsListed item xs rows) (end at : ℕ) (x : P) (same : ys ≡ xs) (same_rows : new ≡ rows) (is : x ≡ get_or ys at x) (low : at < length xs) (goes : Bool) (test : goes ≡ goes_on_by_row w item ys new end x) where
  tested : (goes ≡ true) ↔ GoesOn w (Contains (take end xs)) x
  tested = goes_is w item by_item xs rows listed end x goes (test ∙ (ap (λ (l : List P). goes_on_by_row w item l new end x) same ∙ ap (λ (r : List (List ℕ)). goes_on_by_row w item xs r end x) same_rows))

  from_is : slice_get xs at ≡ Some x
  from_is = slice_get_read xs (length xs) at x refl low (is ∙ ap (λ (l : List P). get_or l at x) same)

  ahead_not : goes ≡ false → (fresh : List P) → fresh ≡ [] → IsAhead w (take end xs) at xs false fresh
  ahead_not off fresh e = record { from = x; is = from_is; goes_on = subst (λ (b : Bool). (b ≡ true) ↔ GoesOn w (Contains (take end xs)) x) off tested; moves = e }

  ahead_all : goes ≡ true → (none fresh : List P) → none ≡ [] → fresh ≡ none ++ w.graph.moves x → IsAhead w (take end xs) at xs true fresh
  ahead_all on none fresh e f = record {
    from = x;
    is = from_is;
    goes_on = subst (λ (b : Bool). (b ≡ true) ↔ GoesOn w (Contains (take end xs)) x) on tested;
    moves = f ∙ ap (λ (l : List P). l ++ w.graph.moves x) e;
  }

pub returns-then-not-goes_on : goal.returns-then-not-goes_on
returns-then-not-goes_on g c =
    ahead_not (g.W.Walk.ways c.args.walk.now) (g.W.Walk.item_of c.args.walk.now) (g.met.W.Walk.by_item c.args.walk.now) c.args.found.now.points c.as_slice-points.result.now c.args.found.now.rows.items c.deref.result.now
    c.requires.listed c.args.end c.args.at c.index-points-at.result c.as_slice-points.ensures c.deref.ensures.value c.index-points-at.is (omega (arith, c.requires.at, c.requires.end)) c.goes_on.result c.goes_on.ensures
    c.if-not-goes_on.true c.new-fresh.result c.new-fresh.ensures

pub returns : goal.returns
returns g c =
    ahead_all (g.W.Walk.ways c.args.walk.now) (g.W.Walk.item_of c.args.walk.now) (g.met.W.Walk.by_item c.args.walk.now) c.args.found.now.points c.as_slice-points.result.now c.args.found.now.rows.items c.deref.result.now
    c.requires.listed c.args.end c.args.at c.index-points-at.result c.as_slice-points.ensures c.deref.ensures.value c.index-points-at.is (omega (arith, c.requires.at, c.requires.end)) c.goes_on.result c.goes_on.ensures
    c.if-not-goes_on.false c.new-fresh.result c.moves.new.to c.new-fresh.ensures c.in_ok-moves.ensures
