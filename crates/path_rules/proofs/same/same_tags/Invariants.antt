-- What is left decides.
use Rattle.std.proofs.Common.{◌≡◌, drop, length}
use Rattle.path_rules.specs.Tags.{same_tags}
use Rattle.path_rules.proofs.same.same_tags.Given as goal

abbrev pub invariant-loop-i : goal.invariant-loop-i
invariant-loop-i l = (same_tags (drop l.i l.a) (drop l.i l.b) ≡ same_tags l.a l.b) × (length l.a ≡ length l.b)
