-- The costs of the functions so far.
use Rattle.std.proofs.Common.{◌≡◌, ◌-◌, ◌^◌, map, take}
use Rattle.std.specs.Prelude.{min}
use Rattle.beam_code.specs.Function.{all_functions, cost_of}
use Rattle.native_link.proofs.places.costs_of.Given as goal

abbrev pub invariant-loop-fid : goal.invariant-loop-fid
invariant-loop-fid l = l.costs.items ≡ map (λ p. min (cost_of p.function) (2 ^ 32 - 1)) (take l.fid (all_functions l.checked))
