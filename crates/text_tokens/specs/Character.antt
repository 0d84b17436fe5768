-- Characters as bytes and between quotes (The Unicode Standard, table 3-7, Well-Formed UTF-8 Byte Sequences; Erlang
-- reference manual, Data Types, Escape Sequences; docs/TEXT.md). A character at the front of some bytes is its code
-- and its size in bytes; a code is that of a character if it is a Unicode scalar value.
use Rattle.std.specs.Prelude.{ℕ, ◌+◌, ◌-◌, ◌*◌, Bool, false, ◌&&◌, nat_lt, nat_le, ◌==◌, if◌then◌else◌, List, [], ◌∷◌, ◌++◌, length, take, drop, slice_get, Option, Some, None, option_and_then, encode_utf8}
use Rattle.std.specs.Char.{digit_value}
use lib.Utf8.{scalar}

-- a byte from the first of these to the second
abbrev pub is_between : ℕ → ℕ → ℕ → Bool
is_between low high b = nat_le low b && nat_le b high

-- whether a first byte passes the test
abbrev pub begins : (ℕ → Bool) → List ℕ → Bool
begins p [] = false
begins p (b ∷ bs) = p b

-- how many bytes at the front pass the test
abbrev pub run : (ℕ → Bool) → List ℕ → ℕ
run p [] = 0
run p (b ∷ bs) = if p b then 1 + run p bs else 0

-- a digit of the base; the letters a to f of either case are digits of base 16
abbrev pub is_digit_of : ℕ → ℕ → Bool
is_digit_of base b = nat_lt (digit_value b) base

-- the number that the digits write after those of `value`
abbrev pub number_after : ℕ → ℕ → List ℕ → ℕ
number_after base value [] = value
number_after base value (d ∷ ds) = number_after base (value * base + digit_value d) ds

-- the character, if its code is a Unicode scalar value
abbrev pub scalar_of : ℕ → ℕ → Option (ℕ × ℕ)
scalar_of code size = if scalar code then Some (code, size) else None

-- the bits of a character with six more from a continuation byte
abbrev pub continued : Option ℕ → ℕ → Option ℕ
continued None bits = None
continued (Some b) bits = if is_between 128 191 b then Some (bits * 64 + (b - 128)) else None

-- the code of these bits, unless fewer bytes can spell it
abbrev pub from_bits : ℕ → ℕ → ℕ → Option (ℕ × ℕ)
from_bits least size bits = if nat_lt bits least then None else Some (bits, size)

abbrev pub two_bytes : ℕ → List ℕ → Option (ℕ × ℕ)
two_bytes b bs = option_and_then (from_bits 128 2) (continued (slice_get bs 0) (b - 192))

abbrev pub three_bytes : ℕ → List ℕ → Option (ℕ × ℕ)
three_bytes b bs =
    option_and_then (λ bits. option_and_then (from_bits 2048 3) (continued (slice_get bs 1) bits)) (continued (slice_get bs 0) (b - 224))

abbrev pub four_bytes : ℕ → List ℕ → Option (ℕ × ℕ)
four_bytes b bs =
    option_and_then (λ bits. option_and_then (λ more. option_and_then (from_bits 65536 4) (continued (slice_get bs 2) more)) (continued (slice_get bs 1) bits)) (continued (slice_get bs 0) (b - 240))

-- the code at the front, in UTF-8
abbrev pub utf8_code : List ℕ → Option (ℕ × ℕ)
utf8_code [] = None
utf8_code (b ∷ bs) =
    if nat_lt b 128 then Some (b, 1)
    else if nat_lt b 192 then None
    else if nat_lt b 224 then two_bytes b bs
    else if nat_lt b 240 then three_bytes b bs
    else if nat_lt b 248 then four_bytes b bs
    else None

-- the byte is this one
abbrev pub is : ℕ → ℕ → Bool
is c b = b == c

-- the value of the digit of a base at a place
abbrev pub digit_value_of : ℕ → Option ℕ → Option ℕ
digit_value_of base None = None
digit_value_of base (Some b) = if is_digit_of base b then Some (digit_value b) else None

-- one to three octal digits
abbrev pub octal_digits : ℕ → Option ℕ → Option ℕ → ℕ × ℕ
octal_digits first None third = (first, 2)
octal_digits first (Some second) None = (first * 8 + second, 3)
octal_digits first (Some second) (Some third) = ((first * 8 + second) * 8 + third, 4)

abbrev pub octal_escape : ℕ → List ℕ → ℕ × ℕ
octal_escape first bs = octal_digits first (digit_value_of 8 (slice_get bs 0)) (digit_value_of 8 (slice_get bs 1))

-- two hexadecimal digits; without them `\x` is the character x
abbrev pub two_hex_digits : Option ℕ → Option ℕ → ℕ × ℕ
two_hex_digits None low = (120, 2)
two_hex_digits (Some high) None = (120, 2)
two_hex_digits (Some high) (Some low) = (high * 16 + low, 4)

-- the same of one or more digits and a closing brace, after `\x{`
abbrev pub braced_escape : List ℕ → Option (ℕ × ℕ)
braced_escape bs =
    let count = run (is_digit_of 16) bs in
    if nat_lt 0 count && begins (is 125) (drop count bs) then scalar_of (number_after 16 0 (take count bs)) (count + 4)
    else Some (120, 2)

abbrev pub hex_escape : List ℕ → Option (ℕ × ℕ)
hex_escape bs =
    if begins (is 123) bs then braced_escape (drop 1 bs)
    else Some (two_hex_digits (digit_value_of 16 (slice_get bs 0)) (digit_value_of 16 (slice_get bs 1)))

-- `\^` and a character from `@` to `_`, or a letter; before another character it is `^`
abbrev pub control_escape : Option ℕ → ℕ × ℕ
control_escape None = (94, 2)
control_escape (Some b) =
    if is_between 64 95 b then (b - 64, 3)
    else if is_between 97 122 b then (b - 96, 3)
    else (94, 2)

-- the escapes b, d, e, f, n, r, s, t and v; any other character is itself
abbrev pub named : ℕ → ℕ
named b =
    if b == 98 then 8 else if b == 100 then 127 else if b == 101 then 27 else if b == 102 then 12
    else if b == 110 then 10 else if b == 114 then 13 else if b == 115 then 32 else if b == 116 then 9
    else if b == 118 then 11 else b

abbrev pub after_backslash : Option (ℕ × ℕ) → Option (ℕ × ℕ)
after_backslash None = None
after_backslash (Some c) = Some (c.0, c.1 + 1)

-- the code that a backslash and these bytes begin with
abbrev pub escape : List ℕ → Option (ℕ × ℕ)
escape [] = None
escape (b ∷ bs) =
    if is_digit_of 8 b then Some (octal_escape (digit_value b) bs)
    else if b == 120 then hex_escape bs
    else if b == 94 then Some (control_escape (slice_get bs 0))
    else if nat_lt b 128 then Some (named b, 2)
    else after_backslash (utf8_code (b ∷ bs))

-- the code at the front, as it stands between quotes
abbrev pub quoted_code : List ℕ → Option (ℕ × ℕ)
quoted_code [] = None
quoted_code (b ∷ bs) = if b == 92 then escape bs else utf8_code (b ∷ bs)

-- the character at the front, as it stands between quotes
unfoldable pub quoted_character : List ℕ → Option (ℕ × ℕ)
quoted_character bs = option_and_then (λ c. scalar_of c.0 c.1) (quoted_code bs)

-- what stands between quotes, in UTF-8, and how many bytes are left after the closing quote. `skip` bytes belong to
-- the character before, and `got` has come so far.
abbrev pub between_quotes : ℕ → ℕ → List ℕ → List ℕ → Option (List ℕ × ℕ)
between_quotes quote skip got [] = None
between_quotes quote skip got (b ∷ bs) =
    if nat_lt 0 skip then between_quotes quote (skip - 1) got bs
    else if b == quote then Some (got, length bs)
    else elim (quoted_character (b ∷ bs)) [
      | None ↦ None
      | Some c ↦ between_quotes quote (c.1 - 1) (got ++ encode_utf8 c.0) bs
    ]
