-- What is left so far, with the functions that are left.
use Rattle.std.proofs.Common.{◌≡◌, drop, map}
use Rattle.path_rules.specs.Sites.{placed_in}
use Rattle.module_check.specs.Sizes.{left_behind_all}
use Rattle.module_check.proofs.size.left_behind_module.Given as goal

abbrev pub invariant-loop-function : goal.invariant-loop-function
invariant-loop-function l =
    left_behind_all l.rest (map (placed_in l.fn.module) (drop l.function-index l.fn.module.functions)) ≡ left_behind_all l.fn.most (map (placed_in l.fn.module) l.fn.module.functions)
