-- What was looked up so far.
use Rattle.std.proofs.Common.{◌≡◌, List, ◌++◌, map, drop}
use Rattle.std.specs.Prelude.{option_map}
use Rattle.beam_code.specs.declared.module.Module.{Module}
use Rattle.beam_code.specs.Function.{Placed}
use Rattle.path_rules.specs.Sites.{AreSites}
use Rattle.function_check.specs.Standings as spec
use Rattle.function_check.proofs.standing.standings.Given as goal

abbrev pub invariant-loop-frame : goal.invariant-loop-frame
invariant-loop-frame l =
    (ms : List Module) (f : Placed) → AreSites ms f l.fn.sites → l.table ++ map (option_map (spec.standing_in f.function)) (drop l.frame-index l.frames) ≡ map (option_map (spec.standing_in f.function)) l.frames
