use Rattle.std.proofs.Common.{◌≡◌, ◌-◌, length}
use Rattle.image_format.specs.Cursor.{many_at}
use Rattle.image_format.specs.Reading.{mask_at, after_mask, masks_at}
use Rattle.image_format.proofs.Loop.{with_front}
use Rattle.image_format.proofs.reading.masks_of.Given as goal

abbrev pub invariant-loop-k : goal.invariant-loop-k
invariant-loop-k l = record {
  read : with_front l.words (many_at (mask_at l.frame) after_mask (l.count - l.k) l.k l.reader) ≡ masks_at l.frame l.fn.reader;
  count : length l.words ≡ l.k;
}
