-- The branches so far, and those of the cases that are left.
use Rattle.std.proofs.Common.{◌≡◌, true, ◌++◌, drop, map}
use Rattle.beam_code.specs.Canonical.{are_canonical_cases}
use Rattle.word_rows.specs.Rows.{behind_all, branches_by_value}
use Rattle.word_rows.specs.Setting.{here}
use Rattle.word_rows.proofs.setting.Setting.branches_by_value.Given as goal

abbrev pub invariant-loop-case : goal.invariant-loop-case
invariant-loop-case l = record {
  all : l.all ++ branches_by_value (here l.self) (drop l.case-index l.cases) ≡ branches_by_value (here l.self) l.cases;
  left : behind_all (map (λ c. c.value) (drop l.case-index l.cases)) l.roots.left.now ≡ behind_all (map (λ c. c.value) l.cases) l.fn.roots.left.now;
  canonical : are_canonical_cases (drop l.case-index l.cases) ≡ true;
}
