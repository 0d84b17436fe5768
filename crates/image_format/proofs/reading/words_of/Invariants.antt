use Rattle.std.proofs.Common.{◌≡◌, ◌-◌}
use Rattle.image_format.specs.Cursor.{many_at}
use Rattle.image_format.specs.Reading.{each_word, no_more}
use Rattle.image_format.proofs.Loop.{with_front}
use Rattle.image_format.proofs.reading.words_of.Given as goal

abbrev pub invariant-loop : goal.invariant-loop
invariant-loop l = with_front l.words (many_at each_word no_more (l.count - l.counter) tt l.reader) ≡ many_at each_word no_more l.count tt l.fn.reader
