-- What is left decides.
use Rattle.std.proofs.Common.{◌≡◌, ◌&&◌, drop, nat_eq}
use Rattle.std.specs.Str.{bytes_eq}
use Rattle.path_rules.specs.BuiltIns.{first_row}
use Rattle.path_rules.proofs.built_ins.first_called.Given as goal

abbrev pub invariant-loop-row : goal.invariant-loop-row
invariant-loop-row l =
    first_row (λ row. bytes_eq l.owner row.0.now && bytes_eq l.name row.1.now && nat_eq l.arity row.2) (λ row. row.4) (drop l.row-index l.rows)
    ≡ first_row (λ row. bytes_eq l.owner row.0.now && bytes_eq l.name row.1.now && nat_eq l.arity row.2) (λ row. row.4) l.rows
