use Rattle.std.proofs.Common.{◌≡◌, ◌-◌}
use Rattle.image_format.specs.Cursor.{many_at}
use Rattle.image_format.specs.Reading.{text_at}
use Rattle.image_format.specs.Fitting.{after_text}
use Rattle.beam_code.specs.declared.module.TheConstants.{MOST_TEXT_BYTES}
use Rattle.image_format.proofs.Loop.{with_front}
use Rattle.image_format.proofs.reading.many_texts.Given as goal

abbrev pub invariant-loop : goal.invariant-loop
invariant-loop l = with_front l.texts (many_at text_at after_text (l.count - l.counter) l.room l.reader) ≡ many_at text_at after_text l.count MOST_TEXT_BYTES l.fn.reader
