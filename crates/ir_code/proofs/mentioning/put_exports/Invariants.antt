-- The mentions so far, and those of the exports that are left.
use Rattle.std.proofs.Common.{◌≡◌, ◌++◌, drop, map}
use Rattle.ir_code.specs.Mentions.{Named}
use Rattle.ir_code.specs.Shown.{shown}
use Rattle.ir_code.proofs.mentioning.put_exports.Given as goal

abbrev pub invariant-loop-export : goal.invariant-loop-export
invariant-loop-export l = shown l.all.items ++ map (λ e. Named e.0) (drop l.export-index l.exports) ≡ shown l.fn.all.items ++ map (λ e. Named e.0) l.exports
