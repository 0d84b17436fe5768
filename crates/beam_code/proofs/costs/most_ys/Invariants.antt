-- The greatest so far, and that of the items that are left.
use Rattle.std.proofs.Common.{◌≡◌, max, drop}
use Rattle.beam_code.specs.Function.{most_of}
use Rattle.beam_code.specs.Registers.{instr_ys}
use Rattle.beam_code.proofs.costs.most_ys.Given as goal

abbrev pub invariant-loop-item : goal.invariant-loop-item
invariant-loop-item l = max l.most (most_of instr_ys (drop l.item-index l.items)) ≡ most_of instr_ys l.items
