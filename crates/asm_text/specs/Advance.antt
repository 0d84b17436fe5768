-- One piece of a text, as the code goes over it.
use Rattle.std.specs.Prelude.{ℕ, ◌-◌, Result, Ok, Err}
use Rattle.text_tokens.specs.declared.token.Piece.{Piece}
use Rattle.text_tokens.specs.declared.token.Piece.TheVariants as p
use Rattle.text_tokens.specs.Tokens.{at}
use Rattle.text_forms.specs.declared.refusal.TextRefusal.{TextRefusal}
use Rattle.text_forms.specs.declared.place.Stand.{Stand}
use Rattle.text_forms.specs.Refusals.{refusal_at}
use Rattle.text_forms.specs.Steps.{step}

-- the stand after a token, with how many bytes behind the first are its own
abbrev pub behind : ℕ → Result Stand TextRefusal → Result (Stand × ℕ) TextRefusal
behind size (Err refusal) = Err refusal
behind size (Ok s) = Ok (s, size - 1)

abbrev pub advanced : Stand → ℕ → Piece → Result (Stand × ℕ) TextRefusal
advanced s line (p.Blank size) = Ok (s, size - 1)
advanced s line (p.Whole token size) = behind size (step s (at line token))
advanced s line (p.Bad reason) = Err (refusal_at line reason)

-- the stand as it is now, with the number that a call gives
abbrev pub with_number : Stand → Result ℕ TextRefusal → Result (Stand × ℕ) TextRefusal
with_number s (Err refusal) = Err refusal
with_number s (Ok number) = Ok (s, number)
