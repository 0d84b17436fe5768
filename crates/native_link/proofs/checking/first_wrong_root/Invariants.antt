-- The roots that are left, as many as the literals that are left, and the first wrong one among them.
use Rattle.std.proofs.Common.{◌≡◌, ◌+◌, drop, length}
use Rattle.ir_code.specs.Laying.{literals_in}
use Rattle.native_link.specs.Checking.{wrong_root}
use Rattle.native_link.proofs.checking.first_wrong_root.Given as goal
use Rattle.word_terms.specs.Literals.{literal_store}

abbrev pub invariant-loop-mention : goal.invariant-loop-mention
invariant-loop-mention l =
    record {
      many : l.index + length (literals_in (drop l.mention-index l.mentions)) ≡ length l.roots;
      wrong : wrong_root (literal_store l.literals) l.table l.index (drop l.index l.roots) (literals_in (drop l.mention-index l.mentions))
          ≡ wrong_root (literal_store l.literals) l.table 0 l.roots (literals_in l.mentions);
    }
