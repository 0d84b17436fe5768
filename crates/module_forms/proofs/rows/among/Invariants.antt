-- None so far.
use Rattle.std.proofs.Common.{◌≡◌, drop}
use Rattle.module_forms.specs.Rows.{first_named}
use Rattle.module_forms.proofs.rows.among.Given as goal

abbrev pub invariant-loop-row : goal.invariant-loop-row
invariant-loop-row g l = first_named l.text (drop l.row-index l.words) ≡ first_named l.text l.words
