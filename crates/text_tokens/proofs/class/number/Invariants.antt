use Rattle.std.proofs.Common.{◌≡◌, ◌≤◌, drop, min}
use Rattle.text_tokens.specs.Character as text
use Rattle.text_tokens.proofs.class.number.Given as goal

abbrev pub invariant-loop-digit : goal.invariant-loop-digit
invariant-loop-digit l =
    (l.value ≤ 150000000) × (min (text.number_after l.base l.value (drop l.digit-index l.digits)) 150000000 ≡ min (text.number_after l.base 0 l.digits) 150000000)
