use Rattle.std.proofs.Common.{ℕ, List, ◌<◌, sym, subst}
use Rattle.data_flow.specs.Rows.{IsSettling, Spreads, work}
use Rattle.data_flow.proofs.Settling.{settling_next}
use Rattle.data_flow.proofs.needed.settle.Goals as goal

pub loop-at-preserved : goal.loop-at-preserved
loop-at-preserved c =
    (settling_next c.args.flow.now c.requires.flow c.args.prev.now c.loop-at.needs c.pop.new.self.items c.in-Some.at c.spread.new.needs c.spread.new.pending.items c.requires.prev
    (subst (λ (l : List ℕ). IsSettling c.args.flow.now c.loop-at.needs l) c.in-Some.ensures.items c.loop-at.invariant)
    (subst (λ (l : List ℕ). Spreads c.args.flow.now l c.loop-at.needs c.pop.new.self.items c.spread.new.needs c.spread.new.pending.items) c.row.ensures c.in_ok-spread.ensures)).0

pub loop-at-smaller : goal.loop-at-smaller
loop-at-smaller c =
    subst (λ (l : List ℕ). work c.spread.new.needs c.spread.new.pending.items < work c.loop-at.needs l) (sym c.in-Some.ensures.items)
    (settling_next c.args.flow.now c.requires.flow c.args.prev.now c.loop-at.needs c.pop.new.self.items c.in-Some.at c.spread.new.needs c.spread.new.pending.items c.requires.prev
    (subst (λ (l : List ℕ). IsSettling c.args.flow.now c.loop-at.needs l) c.in-Some.ensures.items c.loop-at.invariant)
    (subst (λ (l : List ℕ). Spreads c.args.flow.now l c.loop-at.needs c.pop.new.self.items c.spread.new.needs c.spread.new.pending.items) c.row.ensures c.in_ok-spread.ensures)).1
