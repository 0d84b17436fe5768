use Rattle.std.proofs.Common.{◌<◌, length}
use Rattle.hand_words.specs.Hand.{used_store}
use Rattle.tagged_words.specs.Store.{words_in}
use Rattle.hipe_bench.proofs.lists.print_again.Given as goal

abbrev pub invariant-loop-i : goal.invariant-loop-i
invariant-loop-i l = words_in (used_store l.words.literals l.words.heap l.words.used) < length l.scratch
