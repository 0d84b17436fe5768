-- What is left so far, with the modules that are left.
use Rattle.std.proofs.Common.{◌≡◌, drop}
use Rattle.beam_code.specs.Function.{all_functions}
use Rattle.module_check.specs.Sizes.{left_behind_all}
use Rattle.module_check.proofs.size.left_behind_modules.Given as goal

abbrev pub invariant-loop-module : goal.invariant-loop-module
invariant-loop-module l = left_behind_all l.rest (all_functions (drop l.module-index l.modules)) ≡ left_behind_all l.fn.most (all_functions l.modules)
