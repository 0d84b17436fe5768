use Rattle.std.proofs.Common.{◌≡◌, ℕ, List, Option, None, ap, sym, ◌∙◌, subst}
use Rattle.paths.specs.Rules.{Ways, Says}
use Rattle.paths.specs.Search.{IsReach, least_of}
use Rattle.path_search.specs.Found.{IsByItem, IsListed, is_bad}
use Rattle.path_search.proofs.Lowest.{says}
use Rattle.path_search.proofs.rounds.search.Goals as goal

said_is : {P : Type 0} → (w : Ways P) (item : P → ℕ) → IsByItem w item → (xs ys : List P) (rows new : List (List ℕ)) → IsListed item xs rows → IsReach w xs
    → ys ≡ xs → new ≡ rows → (said : Option ℕ) → said ≡ least_of (is_bad w item ys new) item None ys → Says w item said
said_is {P = P} w item by_item xs ys rows new listed reach e f said s =
    subst (λ (o : Option ℕ). Says w item o)
    (sym (s ∙ (ap (λ (l : List P). least_of (is_bad w item l new) item None l) e ∙ ap (λ (r : List (List ℕ)). least_of (is_bad w item xs r) item None xs) f)))
    (says w item by_item xs rows listed reach)

pub returns-in-Ok-clause-says : goal.returns-in-Ok-clause-says
returns-in-Ok-clause-says g c =
    said_is (g.W.Walk.ways c.args.walk.now) (g.W.Walk.item_of c.args.walk.now) (g.met.W.Walk.by_item c.args.walk.now) c.in-Ok.found.points c.as_slice.result.now c.in-Ok.found.rows.items c.deref.result.now
    c.in-Ok.ensures.kept.listed c.in-Ok.ensures.reach c.as_slice.ensures c.deref.ensures.value c.lowest-said.result c.lowest-said.ensures
