-- An item is on a cycle of moves exactly where it is one of the graph of the moves.
use Rattle.std.proofs.Common.{ℕ, zero, suc, ◌↔◌, List, [], ◌∷◌, ◌++◌, Option, sym, subst, refl}
use Rattle.std.specs.List.{Contains}
use Rattle.std.proofs.lemmas.Option.{unwrap_or-slice_get}
use Rattle.paths.specs.Rules.{Ways, Step, Leads}
use Rattle.paths.proofs.Steps.{leads_same}
use Rattle.beam_code.specs.declared.module.Module.{Module}
use Rattle.beam_code.specs.Function.{Placed}
use Rattle.liveness.specs.Live.{list_of}
use Rattle.cycles.specs.Cycles.{AreWithin, IsLowest, OnCycle, Walk}
use Rattle.path_rules.specs.declared.rule.Rule.TheVariants.{Loop}
use Rattle.path_rules.specs.Frames.{frame_item, frame_of, frame_ways}
use Rattle.path_rules.specs.Points.{item_of}
use Rattle.path_rules.specs.Rules.{OnLoop, SaysLoop, ways}
use Rattle.path_rules.proofs.Forgets.{forgets}
use Rattle.path_search.specs.Found.{AreSteps}

module _ {P : Type 0} (w : Ways P) (item : P → ℕ) (next : List (List ℕ)) (steps : AreSteps w item next) where
  in_row : (a b : ℕ) → Step w item a b → Contains (list_of next a) b
  in_row a b s = subst (λ (l : List ℕ). Contains l b) (sym (unwrap_or-slice_get next a [])) ((steps.steps a b).1 s)

  is_step : (a b : ℕ) → Contains (list_of next a) b → Step w item a b
  is_step a b c = (steps.steps a b).0 (subst (λ (l : List ℕ). Contains l b) (unwrap_or-slice_get next a []) c)

  pub are_within : AreWithin next
  are_within a b c = steps.within a b (subst (λ (l : List ℕ). Contains l b) (unwrap_or-slice_get next a []) c)

  -- a walk with one edge more
  walk_on : (a c b : ℕ) (path : List ℕ) → Walk next a c path → Contains (list_of next c) b → Walk next a b (path ++ b ∷ [])
  walk_on a c b [] w e = (subst (λ i. Contains (list_of next i) b) (sym w) e, refl)
  walk_on a c b (m ∷ path) w e = (w.0, walk_on m c b path w.1 e)

  to_walk : (n a b : ℕ) → Leads w item n a b → (m : ℕ) × (path : List ℕ) × Walk next a b (m ∷ path)
  to_walk zero a b s = (b, [], (in_row a b s, refl))
  to_walk (suc n) a b l = (let r = to_walk n a l.0 l.1 in (r.0, r.1 ++ b ∷ [], walk_on a l.0 b (r.0 ∷ r.1) r.2 (in_row l.0 b l.2)))

  to_leads : (n a c b : ℕ) (path : List ℕ) → Leads w item n a c → Walk next c b path → (k : ℕ) × Leads w item k a b
  to_leads n a c b [] l e = (n, subst (λ i. Leads w item n a i) e l)
  to_leads n a c b (m ∷ path) l e = to_leads (suc n) a m b path (c, l, is_step c m e.0) e.1

  pub on_cycle : (i : ℕ) → OnCycle next i ↔ ((n : ℕ) × Leads w item n i i)
  on_cycle i = (λ c. to_leads zero i c.0 i c.1 (is_step i c.0 c.2.0) c.2.1, λ l. to_walk l.0 i i l.1)

module _ (ms : List Module) (f : Placed) where
  leads_as : (n a b : ℕ) → Leads (ways ms f Loop) item_of n a b ↔ Leads (frame_ways ms f Loop) frame_item n a b
  leads_as n a b = leads_same (ways ms f Loop) (frame_ways ms f Loop) frame_of (λ p. Unit {0}) (forgets ms f Loop refl) item_of frame_item (λ p. refl) n a b

  -- so what is said of the graph is said of the paths
  pub says_of : (next : List (List ℕ)) (said : Option ℕ) → AreSteps (frame_ways ms f Loop) frame_item next → IsLowest next said → SaysLoop ms f said
  says_of next said steps lowest = record {
    none = λ e n a l. lowest.none e a (cycle a (n, l));
    some = λ i e. (let s = lowest.some i e in (loop i s.0, λ j l. s.1 j (cycle j l)));
  }
    where
      cycle : (i : ℕ) → OnLoop ms f i → OnCycle next i
      cycle i l = (on_cycle (frame_ways ms f Loop) frame_item next steps i).1 (l.0, (leads_as l.0 i i).0 l.1)

      loop : (i : ℕ) → OnCycle next i → OnLoop ms f i
      loop i c = (let l = (on_cycle (frame_ways ms f Loop) frame_item next steps i).0 c in (l.0, (leads_as l.0 i i).1 l.1))
