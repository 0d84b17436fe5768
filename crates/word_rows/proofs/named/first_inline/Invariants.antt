-- What is left decides.
use Rattle.std.proofs.Common.{◌≡◌, ◌&&◌, drop, nat_eq}
use Rattle.std.specs.Str.{bytes_eq}
use Rattle.beam_code.specs.Function.{first_that}
use Rattle.word_rows.proofs.named.first_inline.Given as goal

abbrev pub invariant-loop-row : goal.invariant-loop-row
invariant-loop-row l = record {
  at : l.at ≡ l.row-index;
  left : first_that (λ row. row.3 && bytes_eq l.name row.1.now && nat_eq l.arity row.2) l.at (drop l.row-index l.rows) ≡ first_that (λ row. row.3 && bytes_eq l.name row.1.now && nat_eq l.arity row.2) 0 l.rows;
}
