use Rattle.std.proofs.Common.{◌+◌, ◌≤◌, length}
use Rattle.asm_text.proofs.AtomSizes.{Counted}
use Rattle.asm_text.proofs.entry.characters_between.Given as goal

abbrev pub invariant-loop-first : goal.invariant-loop-first
invariant-loop-first l = record {
  within : l.count + length l.rest ≤ length l.fn.bytes;
  counted : Counted 39 l.skip l.count l.rest l.fn.bytes;
}

abbrev pub decreases-loop-first : goal.decreases-loop-first
decreases-loop-first l = length l.rest
