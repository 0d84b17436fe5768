use Rattle.std.proofs.Common.{◌≡◌, drop}
use Rattle.liveness.specs.Words.{word_from}
use Rattle.liveness.proofs.words.word.Given as goal

abbrev pub invariant-loop-name : goal.invariant-loop-name
invariant-loop-name l = word_from l.word l.first (drop l.name-index l.list) ≡ word_from 0 l.first l.list
