use Rattle.std.proofs.Common.{◌≡◌, take, map}
use Rattle.liveness.specs.Words.{word_from}
use Rattle.liveness.proofs.words.words.Given as goal

abbrev pub invariant-loop-list : goal.invariant-loop-list
invariant-loop-list l = l.all.items ≡ map (word_from 0 l.first) (take l.list-index l.lists)
