use Rattle.std.proofs.Common.{◌≡◌, ◌↔◌, Bool, true, sym, subst}
use Rattle.liveness.specs.Live.{IsGraph}
use Rattle.liveness.proofs.Whole.{passes_is}
use Rattle.liveness.proofs.graph.Graph.is_whole.Goals as goal

pub returns : goal.returns
returns c = subst (λ (b : Bool). (b ≡ true) ↔ IsGraph c.args.self.now) (sym c.passes.ensures) (passes_is c.args.self.now)
