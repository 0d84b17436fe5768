use Rattle.std.proofs.Common.{◌-◌, ◌≤◌}
use Rattle.native_link.specs.Lookup.{Splits}
use Rattle.native_link.proofs.image.place_of_descriptor.Given as goal

abbrev pub invariant-loop-low : goal.invariant-loop-low
invariant-loop-low l = record { order : l.low ≤ l.high; splits : Splits (λ d. d.ret) l.descriptors l.ret l.low l.high }

abbrev pub decreases-loop-low : goal.decreases-loop-low
decreases-loop-low l = l.high - l.low
