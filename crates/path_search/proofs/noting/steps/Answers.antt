use Rattle.std.proofs.Common.{◌≡◌, ℕ, Bool, List, length, sym, subst}
use Rattle.paths.specs.Rules.{Ways}
use Rattle.paths.specs.Search.{IsReach}
use Rattle.path_search.specs.Found.{AreFlags, AreSteps}
use Rattle.path_search.specs.Steps.{AreNoted}
use Rattle.path_search.proofs.Moving.{steps_of}
use Rattle.path_search.proofs.noting.steps.Goals as goal

steps_are : {P : Type 0} (w : Ways P) (item : P → ℕ) (xs ys : List P) (went flags : List Bool) (next rows : List (List ℕ)) → IsReach w xs → AreFlags w xs (length xs) went
    → ys ≡ xs → flags ≡ went → rows ≡ next → AreNoted w item ys flags (length ys) next → AreSteps w item rows
steps_are {P = P} w item xs ys went flags next rows reach are e f h noted =
    subst (λ (r : List (List ℕ)). AreSteps w item r) (sym h)
    (steps_of w item xs went next reach are (subst (λ (l : List Bool). AreNoted w item xs l (length xs) next) f (subst (λ (l : List P). AreNoted w item l flags (length l) next) e noted)))

pub returns-in_ok-next-in-Ok : goal.returns-in_ok-next-in-Ok
returns-in_ok-next-in-Ok g c =
    steps_are (g.W.Walk.ways c.args.walk.now) (g.W.Walk.item_of c.args.walk.now) c.in-Ok.found.points c.as_slice.result.now c.in-Ok.found.went.items c.deref.result.now c.in_ok-next-in-Ok.next.items c.from_vec.result
    c.in-Ok.ensures.reach c.in-Ok.ensures.flags c.as_slice.ensures c.deref.ensures.value c.from_vec.ensures c.in_ok-next-in-Ok.ensures
