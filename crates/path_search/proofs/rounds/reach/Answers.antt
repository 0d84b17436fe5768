use Rattle.std.proofs.Common.{◌≡◌, List, [], ◌∷◌, ap, sym, ◌∙◌, subst}
use Rattle.paths.specs.Rules.{Ways}
use Rattle.paths.specs.Search.{Level}
use Rattle.paths.proofs.Rounds.{level_start}
use Rattle.path_search.proofs.Flags.{latest_start}
use Rattle.path_search.proofs.rounds.reach.Goals as goal

begins : {P : Type 0} → (w : Ways P) (start : P) (xs : List P) → start ≡ w.graph.start → xs ≡ start ∷ [] → Level w xs 0
begins {P = P} w start xs e f = subst (λ (l : List P). Level w l 0) (sym (f ∙ ap (λ (p : P). p ∷ []) e)) (level_start w)

pub spread-requires-clause-level : goal.spread-requires-clause-level
spread-requires-clause-level g c = begins (g.W.Walk.ways c.args.walk.now) c.in-Ok.start c.in-Ok-begin.found.points c.in-Ok.ensures c.in-Ok-begin.ensures.points

pub spread-requires-clause-latest : goal.spread-requires-clause-latest
spread-requires-clause-latest g c = latest_start (g.W.Walk.ways c.args.walk.now) c.in-Ok-begin.found.points c.in-Ok.start c.in-Ok-begin.ensures.points c.in-Ok.ensures
