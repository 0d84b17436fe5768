-- The functions from here on.
use Rattle.std.proofs.Common.{◌≡◌, ◌≤◌, drop, length}
use Rattle.indexmap.specs.IndexMap.{get}
use Rattle.beam_code.specs.Function.{all_functions, first_that, is_target}
use Rattle.word_rows.specs.Targets.{Target, same_target}
use Rattle.word_rows.proofs.targets.target_map.Given as goal

abbrev pub invariant-loop-fid : goal.invariant-loop-fid
invariant-loop-fid l = (l.fid ≤ length (all_functions l.checked)) × ((k : Target) → get same_target l.map k ≡ first_that (is_target k.owner k.label k.arity) l.fid (drop l.fid (all_functions l.checked)))

abbrev pub decreases-loop-fid : goal.decreases-loop-fid
decreases-loop-fid l = l.fid
