use Rattle.std.proofs.Common.{◌≡◌, map}
use Rattle.text_tokens.specs.Pieces.{code_term}
use Rattle.text_tokens.proofs.cutting.code_terms.Given as goal

abbrev pub invariant-loop-code : goal.invariant-loop-code
invariant-loop-code l = l.codes ≡ map code_term l.yielded
