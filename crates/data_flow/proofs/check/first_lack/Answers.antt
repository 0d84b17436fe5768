use Rattle.std.proofs.Common.{◌≡◌, ◌≤◌, ℕ, List, Option, Err, refl, subst, ◌∙◌, ap}
use Rattle.paths.specs.Rules.{Holds, Says}
use Rattle.paths.proofs.Forgetting.{says_up}
use Rattle.path_search.specs.declared.rounds.Stop.TheVariants.{States}
use Rattle.path_search.specs.Found.{HasMore, HasTwins}
use Rattle.path_search.proofs.Carrying.{more_up}
use Rattle.path_search.proofs.Twins.{twins_of}
use Rattle.data_flow.specs.declared.flow.Flow.{Flow}
use Rattle.data_flow.specs.declared.flow.Need.{Need}
use Rattle.data_flow.specs.Flow.{IsFlow, flow_ways, cut, cut_ways, item_of}
use Rattle.data_flow.specs.Rows.{AreNeeded, IsClosed}
use Rattle.data_flow.proofs.Cuts.{cuts, one_point}
use Rattle.data_flow.proofs.check.first_lack.Goals as goal

says_of : (flow : Flow) (needs slice : List Need) → IsFlow flow → IsClosed flow needs → slice ≡ needs → (said : Option ℕ) → Says (cut_ways flow slice) item_of said → Says (flow_ways flow) item_of said
says_of flow needs slice is closed e said s =
    says_up (flow_ways flow) (cut_ways flow needs) (cut needs) (λ p. p.count ≤ flow.bound) (cuts flow needs is closed) item_of item_of (λ x. refl) said
    (subst (λ (l : List Need). Says (cut_ways flow l) item_of said) e s)

more_of : (flow : Flow) (needs slice : List Need) → IsFlow flow → IsClosed flow needs → slice ≡ needs → (limit : Option ℕ) → HasMore (cut_ways flow slice) item_of limit → HasMore (flow_ways flow) item_of limit
more_of flow needs slice is closed e limit more =
    more_up (cut needs) item_of item_of (λ x. refl) (flow_ways flow) (cut_ways flow needs) (λ p. p.count ≤ flow.bound) (cuts flow needs is closed) limit
    (subst (λ (l : List Need). HasMore (cut_ways flow l) item_of limit) e more)

no_twins : (flow : Flow) (needs slice : List Need) → IsFlow flow → IsClosed flow needs → AreNeeded flow needs → slice ≡ needs → (limit : Option ℕ) → HasMore (cut_ways flow slice) item_of limit → Holds (flow_ways flow) → ⊥
no_twins flow needs slice is closed needed e limit more holds =
    let t = subst (λ (l : List Need). HasTwins item_of (cut_ways flow l)) e (twins_of item_of (cut_ways flow slice) limit more) in
    t.6 (one_point flow needs is closed needed holds t.0 t.0 t.1 t.2 t.3 t.4 t.5)

pub returns-in-Ok-search-clause-says : goal.returns-in-Ok-search-clause-says
returns-in-Ok-search-clause-says c =
    says_of c.args.flow.now c.in-Ok.needs.items c.deref.result.now c.requires c.in-Ok.ensures.closed c.deref.ensures.value c.in-Ok-search.said c.in-Ok-search.ensures.says

pub returns-clause-states : goal.returns-clause-states
returns-clause-states c = λ e holds. (
    let s : c.in-Err-search.stop ≡ States = cc in
    no_twins c.args.flow.now c.in-Ok.needs.items c.deref.result.now c.requires c.in-Ok.ensures.closed c.in-Ok.ensures.needed c.deref.ensures.value _
    (c.search.ensures.states (c.in-Err-search.is ∙ ap (λ q. Err q) s)) holds)

pub returns-clause-more : goal.returns-clause-more
returns-clause-more c = λ e. (
    let s : c.in-Err-search.stop ≡ States = cc in
    more_of c.args.flow.now c.in-Ok.needs.items c.deref.result.now c.requires c.in-Ok.ensures.closed c.deref.ensures.value _ (c.search.ensures.states (c.in-Err-search.is ∙ ap (λ q. Err q) s)))
