-- Tokens by their spelling (Erlang reference manual, Data Types; docs/TEXT.md).
use Rattle.std.specs.Prelude.{ℕ, pos, ◌-ℤ◌, ◌+◌, ◌-◌, Bool, true, false, ◌&&◌, ◌||◌, nat_lt, nat_le, ◌==◌, if◌then◌else◌, List, [], ◌∷◌, length, map, take, drop, Option, Some, None}
use Rattle.std.specs.Str.{chars, is_utf8}
use Rattle.term_tree.specs.declared.term.Term as t
use Rattle.term_tree.specs.Name.{characters_in}
use Rattle.term_tree.specs.declared.name.TheConstants.{MOST_CHARACTERS}
use Rattle.term_tree.specs.Small.{small_limit}
use Rattle.text_tokens.specs.declared.token.Kind.TheVariants as k
use Rattle.text_tokens.specs.declared.token.Token.{Token}
use Rattle.text_tokens.specs.declared.token.Token.TheVariants.{Integer, Wide, Float, Atom, Text, OpenTuple, OpenList, OpenMap, CloseBrace, CloseBracket, Comma, Bar, Arrow, Dot}
use Rattle.text_tokens.specs.declared.token.Reason.TheVariants.{Syntax, OfKind}
use Rattle.text_tokens.specs.declared.token.Piece.{Piece}
use Rattle.text_tokens.specs.declared.token.Piece.TheVariants.{Blank, Whole, Bad}
use Rattle.text_tokens.specs.Character.{is, is_between, is_digit_of, begins, run, number_after, between_quotes}

abbrev pub is_digit : ℕ → Bool
is_digit = is_digit_of 10

-- tab, line feed, vertical tab, form feed, carriage return and space
abbrev pub is_separator : ℕ → Bool
is_separator b = is_between 9 13 b || b == 32

abbrev pub is_lower : ℕ → Bool
is_lower = is_between 97 122

-- a letter, a digit, `_` or `@`
abbrev pub is_name_byte : ℕ → Bool
is_name_byte b = is_lower b || is_between 65 90 b || is_between 48 57 b || b == 95 || b == 64

abbrev pub is_no_line_feed : ℕ → Bool
is_no_line_feed b = if b == 10 then false else true

-- the bytes after the `%` of a comment
unfoldable pub comment : List ℕ → Piece
comment bs = let count = run is_no_line_feed bs in if is_utf8 (take count bs) then Blank (count + 1) else Bad Syntax

abbrev pub integer : Bool → ℕ → Token
integer negative n =
    if negative then (if nat_le n small_limit then Integer (pos 0 -ℤ pos n) else Wide)
    else (if nat_lt n small_limit then Integer (pos n) else Wide)

abbrev pub is_sign : ℕ → Bool
is_sign b = b == 43 || b == 45

abbrev pub sign_size : List ℕ → ℕ
sign_size bs = if begins is_sign bs then 1 else 0

-- how many bytes belong to the exponent of a float
abbrev pub exponent_size : List ℕ → ℕ
exponent_size [] = 0
exponent_size (b ∷ bs) =
    let sign = sign_size bs in
    let count = run is_digit (drop sign bs) in
    if (b == 101 || b == 69) && nat_lt 0 count then 1 + sign + count else 0

-- the point of a float, with a digit after it
abbrev pub begins_fraction : List ℕ → Bool
begins_fraction [] = false
begins_fraction (b ∷ bs) = b == 46 && begins is_digit bs

-- a float, from its point on, of which this many bytes stand before the point
abbrev pub float : ℕ → List ℕ → Piece
float size bs =
    let count = run is_digit (drop 1 bs) in Whole Float (size + 1 + count + exponent_size (drop (1 + count) bs))

-- digits, after the minus sign of a negative number
unfoldable pub number : Bool → List ℕ → Piece
number negative bs =
    let count = run is_digit bs in
    let rest = drop count bs in
    let size = (if negative then count + 1 else count) in
    if begins_fraction rest then float size rest
    else if begins (is 35) rest then Bad (OfKind k.Based)
    else Whole (integer negative (number_after 10 0 (take count bs))) size

-- an atom with the bytes of its text, if it has no more characters than an atom may have
abbrev pub atom : List ℕ → ℕ → Piece
atom text size = if nat_lt MOST_CHARACTERS (characters_in text) then Bad Syntax else Whole (Atom text) size

unfoldable pub bare_atom : List ℕ → Piece
bare_atom bs = let count = run is_name_byte bs in atom (take count bs) count

-- a code point as a term
abbrev pub code_term : ℕ → t.Term
code_term code = t.Int (pos code)

-- a string as its code points
abbrev pub code_terms : List ℕ → List t.Term
code_terms text = map code_term (chars text)

-- a quoted atom or a string, after its opening quote; `inside` is the text between its quotes and how many bytes are left
unfoldable pub quoted : ℕ → ℕ → Option (List ℕ × ℕ) → Piece
quoted quote size None = Bad Syntax
quoted quote size (Some (text, left)) =
    if quote == 39 then atom text (size - left) else Whole (Text (code_terms text)) (size - left)

-- the dot that ends a form
abbrev pub dot : List ℕ → Piece
dot [] = Whole Dot 1
dot (b ∷ bs) = if is_separator b || b == 37 then Whole Dot 1 else Bad Syntax

-- a byte that begins none of the above, and those after it
unfoldable pub mark : ℕ → List ℕ → Piece
mark b bs =
    if b == 123 then Whole OpenTuple 1
    else if b == 125 then Whole CloseBrace 1
    else if b == 91 then Whole OpenList 1
    else if b == 93 then Whole CloseBracket 1
    else if b == 44 then Whole Comma 1
    else if b == 124 then Whole Bar 1
    else if b == 46 then dot bs
    else if b == 36 then Bad (OfKind k.Character)
    else if b == 60 && begins (is 60) bs then Bad (OfKind k.Binary)
    else if b == 35 then (if begins (is 123) bs then Whole OpenMap 2 else Bad (OfKind k.Map))
    else if b == 61 && begins (is 62) bs then Whole Arrow 2
    else Bad Syntax

-- what the bytes begin with: the longest token, or a separator or a comment
unfoldable pub piece : List ℕ → Piece
piece [] = Bad Syntax
piece (b ∷ bs) =
    if is_separator b then Blank 1
    else if b == 37 then comment bs
    else if is_digit b then number false (b ∷ bs)
    else if b == 45 && begins is_digit bs then number true bs
    else if is_lower b then bare_atom (b ∷ bs)
    else if b == 39 || b == 34 then quoted b (length bs + 1) (between_quotes b 0 [] bs)
    else mark b bs
