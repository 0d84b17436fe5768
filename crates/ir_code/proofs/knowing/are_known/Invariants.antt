-- What is left decides, since what stands before is known.
use Rattle.std.proofs.Common.{◌≡◌, drop}
use Rattle.ir_code.specs.Known.{knows_all}
use Rattle.ir_code.specs.Shown.{shown}
use Rattle.ir_code.proofs.knowing.are_known.Given as goal

abbrev pub invariant-loop-mention : goal.invariant-loop-mention
invariant-loop-mention l = knows_all l.atoms (shown (drop l.mention-index l.mentions)) ≡ knows_all l.atoms (shown l.mentions)
