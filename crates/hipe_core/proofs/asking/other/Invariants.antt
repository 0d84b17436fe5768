use Rattle.std.proofs.Common.{◌≡◌, map, length, slice_get, string_bytes}
use Rattle.hipe_core.specs.Words as spec
use Rattle.hipe_core.proofs.asking.other.Given as goal

abbrev pub invariant-loop-first : goal.invariant-loop-first
invariant-loop-first l = slice_get (spec.others (map string_bytes l.left)) l.skip ≡ slice_get (spec.others (map string_bytes l.fn.words)) l.fn.place

abbrev pub decreases-loop-first : goal.decreases-loop-first
decreases-loop-first l = length l.left
