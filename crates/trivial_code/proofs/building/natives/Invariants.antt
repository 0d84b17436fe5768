-- The natives so far, and those that are left.
use Rattle.std.proofs.Common.{◌≡◌, ◌++◌, ◌-◌}
use Rattle.trivial_code.specs.Compiled.{natives_from}
use Rattle.trivial_code.proofs.building.natives.Given as goal

abbrev pub invariant-loop-fid : goal.invariant-loop-fid
invariant-loop-fid l = l.natives ++ natives_from l.fid (l.count - l.fid) ≡ natives_from 0 l.count
