-- The words so far, and those of the literals that are left.
use Rattle.std.proofs.Common.{◌≡◌, ◌+◌, drop}
use Rattle.ir_code.specs.Laying.{literals_in}
use Rattle.word_laying.specs.Count.{row_words}
use Rattle.ir_code.proofs.laying.count_words.Given as goal

abbrev pub invariant-loop-mention : goal.invariant-loop-mention
invariant-loop-mention l = l.count + row_words 0 (literals_in (drop l.mention-index l.mentions)) ≡ row_words 0 (literals_in l.mentions)
