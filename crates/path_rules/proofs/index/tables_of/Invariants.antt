-- The tables of the modules so far.
use Rattle.std.proofs.Common.{take}
use Rattle.path_rules.specs.Index.{AreTables}
use Rattle.path_rules.proofs.index.tables_of.Given as goal

abbrev pub invariant-loop-module : goal.invariant-loop-module
invariant-loop-module l = AreTables (take l.module-index l.modules) l.tables
