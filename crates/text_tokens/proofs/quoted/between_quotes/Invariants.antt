use Rattle.std.proofs.Common.{◌≡◌, ◌≤◌, length, [], string_bytes}
use Rattle.text_tokens.specs.Character as text
use Rattle.text_tokens.proofs.quoted.between_quotes.Given as goal

abbrev pub invariant-loop-first : goal.invariant-loop-first
invariant-loop-first l =
    (length l.rest ≤ length l.fn.bytes) × (text.between_quotes l.quote l.skip (string_bytes l.text) l.rest ≡ text.between_quotes l.quote 0 [] l.fn.bytes)

abbrev pub decreases-loop-first : goal.decreases-loop-first
decreases-loop-first l = length l.rest
