-- The literals so far, no more than there were mentions, and those that are left.
use Rattle.std.proofs.Common.{◌≡◌, ◌+◌, ◌≤◌, drop, length}
use Rattle.ir_code.specs.Laying.{literals_in}
use Rattle.native_link.proofs.checking.count_literals.Given as goal

abbrev pub invariant-loop-mention : goal.invariant-loop-mention
invariant-loop-mention l =
    record {
      few : l.count ≤ l.mention-index;
      rest : l.count + length (literals_in (drop l.mention-index l.mentions)) ≡ length (literals_in l.mentions);
    }
