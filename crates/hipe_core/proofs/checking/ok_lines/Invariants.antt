use Rattle.std.proofs.Common.{◌≡◌, ◌++◌, drop, string_bytes}
use Rattle.hipe_core.specs.Checking.{ok_lines}
use Rattle.hipe_core.proofs.checking.ok_lines.Given as goal

abbrev pub invariant-loop-module : goal.invariant-loop-module
invariant-loop-module l = string_bytes l.text ++ ok_lines (drop l.module-index l.modules) ≡ ok_lines l.modules
