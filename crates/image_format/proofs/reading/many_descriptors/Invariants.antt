use Rattle.std.proofs.Common.{◌≡◌, ◌-◌}
use Rattle.image_format.specs.Cursor.{many_at}
use Rattle.image_format.specs.Reading.{descriptor_at}
use Rattle.image_format.specs.Fitting.{after_descriptor}
use Rattle.image_format.proofs.Loop.{with_front}
use Rattle.image_format.proofs.reading.many_descriptors.Given as goal

abbrev pub invariant-loop : goal.invariant-loop
invariant-loop l = with_front l.descriptors (many_at descriptor_at after_descriptor (l.count - l.counter) l.least l.reader) ≡ many_at descriptor_at after_descriptor l.count 0 l.fn.reader
