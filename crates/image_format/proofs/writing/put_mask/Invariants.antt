use Rattle.std.proofs.Common.{◌≡◌, ◌*◌, ◌++◌, map}
use Rattle.std.specs.List.{flat_map}
use Rattle.image_format.specs.Mask.{has, numbers, word_of}
use Rattle.image_format.specs.Spelling.{word}
use Rattle.image_format.proofs.writing.put_mask.Given as goal

abbrev pub invariant-loop-k : goal.invariant-loop-k
invariant-loop-k l = l.out.items ≡ l.fn.out.items ++ flat_map word (map (λ k. word_of (has l.live) 32 (32 * k)) (numbers l.k 0))
