-- What is left so far, with the items that are left.
use Rattle.std.proofs.Common.{◌≡◌, ◌≤◌, drop}
use Rattle.path_rules.specs.Profile.{units_of}
use Rattle.module_check.specs.Sizes.{left}
use Rattle.module_check.proofs.size.left_behind_items.Given as goal

abbrev pub invariant-loop-item : goal.invariant-loop-item
invariant-loop-item l = (left l.rest (units_of (drop l.item-index l.items)) ≡ left l.fn.most (units_of l.items)) × (l.rest ≤ l.fn.most)
