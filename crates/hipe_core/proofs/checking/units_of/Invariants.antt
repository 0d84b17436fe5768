use Rattle.std.proofs.Common.{◌≡◌, ◌+◌, drop}
use Rattle.path_rules.specs.Profile.{units_of}
use Rattle.hipe_core.proofs.checking.units_of.Given as goal

abbrev pub invariant-loop-item : goal.invariant-loop-item
invariant-loop-item l = l.sum + units_of (drop l.item-index l.items) ≡ units_of l.items
