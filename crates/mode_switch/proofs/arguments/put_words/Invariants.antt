-- What is left to write.
use Rattle.std.proofs.Common.{◌≡◌, ◌+◌, ◌*◌, drop}
use Rattle.word_laying.specs.Written.{written}
use Rattle.mode_switch.proofs.arguments.put_words.Given as goal

abbrev pub invariant-loop-word : goal.invariant-loop-word
invariant-loop-word l = record {
  words : written l.block l.next (drop l.word-index l.words) ≡ written l.fn.block l.at l.words;
  next : l.next ≡ l.at + 4 * l.word-index;
}
