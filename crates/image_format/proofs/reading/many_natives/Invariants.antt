use Rattle.std.proofs.Common.{◌≡◌, ◌-◌}
use Rattle.image_format.specs.Fitting.{turn, after_native, first_turn, total_count}
use Rattle.image_format.specs.Cursor.{many_at}
use Rattle.image_format.specs.Reading.{native_at}
use Rattle.image_format.proofs.Loop.{with_front}
use Rattle.image_format.proofs.reading.many_natives.Given as goal

abbrev pub invariant-loop : goal.invariant-loop
invariant-loop l = record {
  read : with_front l.natives (many_at native_at after_native (l.count - l.counter) (turn l.least l.place) l.reader) ≡ many_at native_at after_native l.count first_turn l.fn.reader;
  total : l.place ≡ total_count l.natives;
}
