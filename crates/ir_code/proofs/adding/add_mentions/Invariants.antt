-- The names so far, and those of the mentions that are left.
use Rattle.std.proofs.Common.{◌≡◌, drop}
use Rattle.ir_code.specs.Constants.{with_mentions}
use Rattle.ir_code.specs.Shown.{shown}
use Rattle.ir_code.proofs.adding.add_mentions.Given as goal

abbrev pub invariant-loop-mention : goal.invariant-loop-mention
invariant-loop-mention l = with_mentions l.atoms (shown (drop l.mention-index l.mentions)) ≡ with_mentions l.fn.atoms (shown l.mentions)
