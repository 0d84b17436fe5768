-- Sets of bytes (docs/TEXT.md).
use Rattle.std.specs.Prelude.{ℕ, Bool}
use Rattle.text_tokens.specs.declared.class.Class.{Class}
use Rattle.text_tokens.specs.declared.class.Class.TheVariants as c
use Rattle.text_tokens.specs.Character.{is, is_digit_of}
use Rattle.text_tokens.specs.Pieces.{is_digit, is_separator, is_lower, is_name_byte, is_sign, is_no_line_feed}

-- the test of a class
abbrev pub is_in : Class → ℕ → Bool
is_in (c.Byte b) = is b
is_in c.Digit = is_digit
is_in c.HexDigit = is_digit_of 16
is_in c.Separator = is_separator
is_in c.Lower = is_lower
is_in c.Name = is_name_byte
is_in c.Sign = is_sign
is_in c.Comment = is_no_line_feed
