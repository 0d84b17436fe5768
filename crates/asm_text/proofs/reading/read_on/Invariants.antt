use Rattle.std.proofs.Common.{◌≡◌, length}
use Rattle.text_tokens.specs.Tokens.{tokens, tokens_after}
use Rattle.text_forms.specs.Steps.{run}
use Rattle.asm_text.proofs.reading.read_on.Given as goal

abbrev pub invariant-loop-first : goal.invariant-loop-first
invariant-loop-first l = run l.stand (tokens_after l.skip l.before l.line l.rest) ≡ run l.fn.stand (tokens l.fn.text)

abbrev pub decreases-loop-first : goal.decreases-loop-first
decreases-loop-first l = length l.rest
