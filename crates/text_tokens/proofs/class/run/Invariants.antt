use Rattle.std.proofs.Common.{◌≡◌, ◌+◌, drop}
use Rattle.text_tokens.specs.Character as text
use Rattle.text_tokens.specs.Class.{is_in}
use Rattle.text_tokens.proofs.class.run.Given as goal

abbrev pub invariant-loop-at : goal.invariant-loop-at
invariant-loop-at l = text.run (is_in l.class) l.bytes ≡ l.at + text.run (is_in l.class) (drop l.at l.bytes)
