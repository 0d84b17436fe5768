use Rattle.std.proofs.Common.{take}
use Rattle.image_format.specs.Fitting.{IsWord}
use Rattle.image_format.specs.Spelling.{word, PutsAll}
use Rattle.image_format.proofs.writing.put_words.Given as goal

abbrev pub invariant-loop-number : goal.invariant-loop-number
invariant-loop-number l = PutsAll word IsWord (take l.number-index l.numbers) l.fn.out.items l.out.items
