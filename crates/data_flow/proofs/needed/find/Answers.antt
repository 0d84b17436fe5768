use Rattle.std.proofs.Common.{ℕ, List, [], refl, sym, ap, ◌∙◌, subst, arith, length}
use Rattle.std.proofs.lemmas.List.{length-replicate}
use Rattle.std.specs.List.{Contains}
use Rattle.data_flow.specs.declared.flow.Need.{Need}
use Rattle.data_flow.specs.Flow.{nothing}
use Rattle.data_flow.specs.Rows.{AreNeeded, Spreads}
use Rattle.data_flow.proofs.Cuts.{needed_none}
use Rattle.data_flow.proofs.Settling.{first_start, spreads_needed, spreads_long, spreads_low}
use Rattle.data_flow.proofs.needed.find.Goals as goal

pub look_at_all-requires-clause-first : goal.look_at_all-requires-clause-first
look_at_all-requires-clause-first c =
    let flow = c.args.flow.now in
    let order = c.args.order.now in
    let needs = c.args.needs.now in
    let new = c.spread.new.needs in
    let more = c.spread.new.pending.items in
    let s : Spreads flow order needs c.new-pending.result.items new more = c.in_ok-spread.ensures in
    let same = spreads_long flow order needs c.new-pending.result.items new more s in
    first_start flow c.requires.flow new more
    (spreads_needed flow c.requires.flow order needs c.new-pending.result.items new more s (subst (λ (l : List Need). AreNeeded flow l) (sym c.requires.nothing) (needed_none flow (length flow.nodes))))
    (same ∙ (ap (λ (l : List Need). length l) c.requires.nothing ∙ length-replicate (length flow.nodes) nothing))
    (λ k d. (let h = spreads_low flow c.requires.flow order needs c.new-pending.result.items new more s (length needs) refl (λ i e. absurd (none i (subst (λ (l : List ℕ). Contains l i) c.new-pending.ensures.items e))) k d in omega (arith, h, same)))
  where
    none : (i : ℕ) → Contains [] i → ⊥
    none i e = let low = e.1 in omega arith
