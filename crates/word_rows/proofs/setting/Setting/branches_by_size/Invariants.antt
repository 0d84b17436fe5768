-- The branches so far, and those of the cases that are left.
use Rattle.std.proofs.Common.{◌≡◌, ◌++◌, drop}
use Rattle.word_rows.specs.Rows.{branches_by_size}
use Rattle.word_rows.specs.Setting.{here}
use Rattle.word_rows.proofs.setting.Setting.branches_by_size.Given as goal

abbrev pub invariant-loop-case : goal.invariant-loop-case
invariant-loop-case l = l.all ++ branches_by_size (here l.self) (drop l.case-index l.cases) ≡ branches_by_size (here l.self) l.cases
