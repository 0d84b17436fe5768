-- The tokens of a text with their lines (docs/TEXT.md).
use Rattle.std.specs.Prelude.{ℕ, ◌+◌, ◌-◌, min, nat_lt, ◌==◌, if◌then◌else◌, List, [], ◌∷◌}
use Rattle.text_tokens.specs.declared.token.Token.{Token}
use Rattle.text_tokens.specs.declared.token.Reason.{Reason}
use Rattle.text_tokens.specs.declared.token.Piece.TheVariants as p
use Rattle.text_tokens.specs.Pieces.{piece}

pub data Tokens : Type 0 where
  Stop : ℕ → Tokens  -- no more; the line of the text's last byte, or 1
  Bad : ℕ → Reason → Tokens  -- one that is refused whatever came before, at its line
  More : ℕ → Token → Tokens → Tokens  -- one at its line, and those after it

-- a token at its line
pub record Lined : Type 0 where
  pub line : ℕ
  pub token : Token

abbrev pub at : ℕ → Token → Lined
at line token = record { line = line; token = token }

-- these tokens before others
abbrev pub lined : List Lined → Tokens → Tokens
lined [] rest = rest
lined (a ∷ ts) rest = More a.line a.token (lined ts rest)

-- the greatest line number, which later lines have too
abbrev pub last_line : ℕ
last_line = 4294967295

-- the line after a byte of this line: a line feed belongs to the line that it ends
abbrev pub line_after : ℕ → ℕ → ℕ
line_after line b = if b == 10 then min (line + 1) last_line else line

-- the tokens of bytes that begin in a line, where `skip` of them belong to the piece before
abbrev pub tokens_after : ℕ → ℕ → ℕ → List ℕ → Tokens
tokens_after skip before line [] = Stop before
tokens_after skip before line (b ∷ bs) =
    if nat_lt 0 skip then tokens_after (skip - 1) line (line_after line b) bs
    else elim (piece (b ∷ bs)) [
      | p.Blank size ↦ tokens_after (size - 1) line (line_after line b) bs
      | p.Whole token size ↦ More line token (tokens_after (size - 1) line (line_after line b) bs)
      | p.Bad reason ↦ Bad line reason
    ]

abbrev pub tokens : List ℕ → Tokens
tokens text = tokens_after 0 1 1 text
