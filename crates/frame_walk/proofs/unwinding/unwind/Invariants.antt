use Rattle.std.proofs.Common.{◌≡◌}
use Rattle.frame_walk.specs.Walk.{target_of, walk}
use Rattle.frame_walk.proofs.unwinding.unwind.Given as goal

-- a raise goes on where it does from the frames that are left
abbrev pub invariant-loop-found : goal.invariant-loop-found
invariant-loop-found l =
    (goal.iterator-loop-found).can_next l.found-iterator × (goal.iterator-loop-found).is_finite l.found-iterator
    × (target_of (walk l.image.parts.descriptors l.stack l.ret l.sp) ≡ target_of l.found-iterator)
