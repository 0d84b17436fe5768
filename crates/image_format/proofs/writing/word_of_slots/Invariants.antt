use Rattle.std.proofs.Common.{◌≡◌, ◌+◌, ◌-◌}
use Rattle.image_format.specs.Mask.{has, word_of}
use Rattle.image_format.proofs.writing.word_of_slots.Given as goal

abbrev pub invariant-loop-j : goal.invariant-loop-j
invariant-loop-j l = l.word ≡ word_of (has l.live) l.j (l.first + (32 - l.j))
