-- How bytes are cut: the tokens behind a piece are those of the bytes behind it, and what stands between quotes is that of
-- its characters, one after the other (docs/TEXT.md, Tokens).
use Rattle.std.specs.Prelude.{ℕ, ◌-◌, ◌≡◌, ◌≢◌, List, [], ◌∷◌, ◌++◌, take, drop, Some, encode_utf8}
use Rattle.text_tokens.specs.Character.{quoted_character}
use Rattle.text_tokens.specs.Tokens.{Tokens, tokens_after, line_after}

-- the line after these bytes, and the line of the last of them: `before` where there are none
abbrev pub line_past : ℕ → List ℕ → ℕ
line_past line [] = line
line_past line (b ∷ bs) = line_past (line_after line b) bs

abbrev pub line_of_last : ℕ → ℕ → List ℕ → ℕ
line_of_last before line [] = before
line_of_last before line (b ∷ bs) = line_of_last line (line_after line b) bs

-- the tokens of bytes that begin in a line
abbrev pub tokens_at : ℕ → ℕ → List ℕ → Tokens
tokens_at before line bs = tokens_after 0 before line bs

-- the tokens of the bytes behind so many
abbrev pub tokens_behind : ℕ → ℕ → ℕ → List ℕ → Tokens
tokens_behind size before line bs = tokens_at (line_of_last before line (take size bs)) (line_past line (take size bs)) (drop size bs)

-- these bytes are characters and a closing quote, with this text between the quotes and these bytes behind
pub data IsQuoted (quote : ℕ) : List ℕ → List ℕ → List ℕ → Type 0 where
  closes : (rest : List ℕ) → IsQuoted quote (quote ∷ rest) [] rest
  goes_on : (b : ℕ) (bs : List ℕ) (code size : ℕ) (text rest : List ℕ) → b ≢ quote → quoted_character (b ∷ bs) ≡ Some (code, size) → IsQuoted quote (drop (size - 1) bs) text rest →
      IsQuoted quote (b ∷ bs) (encode_utf8 code ++ text) rest
