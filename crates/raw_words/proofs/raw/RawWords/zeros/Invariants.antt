use Rattle.std.proofs.Common.{◌≡◌, ◌+◌, replicate}
use Rattle.raw_words.proofs.raw.RawWords.zeros.Given as goal

abbrev pub invariant-loop-i : goal.invariant-loop-i
invariant-loop-i l = (l.cells.at ≡ l.base.ptr) × (l.cells.words ≡ replicate l.i 0) × (l.cells.room + l.i ≡ l.len)
