-- The rows so far, and those of the functions that are left.
use Rattle.std.proofs.Common.{◌≡◌, ◌++◌, drop}
use Rattle.beam_code.specs.Function.{all_functions}
use Rattle.native_link.specs.Places.{first_item}
use Rattle.word_rows.specs.Rows.{rows_in, rows_of}
use Rattle.word_rows.proofs.building.rows.Given as goal

abbrev pub invariant-loop-number : goal.invariant-loop-number
invariant-loop-number l = l.made.items ++ rows_in l.image (first_item l.image.modules l.number) l.roots.left.now (drop l.number (all_functions l.image.modules)) ≡ rows_of l.image
