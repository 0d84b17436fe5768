-- How tokens are spelled (Erlang reference manual, Data Types; docs/TEXT.md): what the first bytes of some are, and how many
-- of them. A piece is the longest of these.
use Rattle.std.specs.Prelude.{ℕ, ◌≡◌, ◌≤◌, ◌<◌, ◌+◌, ◌-◌, ◌==◌, Bool, true, ◌||◌, if◌then◌else◌, List, [], ◌∷◌, length, take, drop}
use Rattle.std.specs.List.{list_all}
use Rattle.term_tree.specs.declared.name.TheConstants.{MOST_CHARACTERS}
use Rattle.term_tree.specs.Name.{characters_in}
use Rattle.text_tokens.specs.declared.token.Token.{Token}
use Rattle.text_tokens.specs.declared.token.Token.TheVariants as k
use Rattle.text_tokens.specs.Character.{number_after}
use Rattle.text_tokens.specs.Cuts.{IsQuoted}
use Rattle.text_tokens.specs.Pieces.{is_digit, is_separator, is_lower, is_name_byte, sign_size, integer, code_terms}

-- the first bytes, so many, pass the test
pub record IsFront (passes : ℕ → Bool) (size : ℕ) (bs : List ℕ) : Type 0 where
  pub some : 0 < size
  pub within : size ≤ length bs
  pub all : list_all passes (take size bs) ≡ true

-- a number with its minus sign, if it has one
abbrev pub signed : Bool → List ℕ → List ℕ
signed negative bs = if negative then 45 ∷ bs else bs

abbrev pub signed_size : Bool → ℕ → ℕ
signed_size negative size = if negative then size + 1 else size

-- the exponent of a float, or none
pub data IsExponent : List ℕ → ℕ → Type 0 where
  no_exponent : (bs : List ℕ) → IsExponent bs 0
  exponent : (b : ℕ) (bs : List ℕ) (size : ℕ) → (b == 101 || b == 69) ≡ true → IsFront is_digit size (drop (sign_size bs) bs) → IsExponent (b ∷ bs) (1 + sign_size bs + size)

-- the first bytes, so many, spell the token
pub data IsToken : List ℕ → Token → ℕ → Type 0 where
  whole : (negative : Bool) (bs : List ℕ) (size : ℕ) → IsFront is_digit size bs → IsToken (signed negative bs) (integer negative (number_after 10 0 (take size bs))) (signed_size negative size)
  float : (negative : Bool) (bs cs : List ℕ) (size count more : ℕ) → IsFront is_digit size bs → drop size bs ≡ 46 ∷ cs → IsFront is_digit count cs → IsExponent (drop count cs) more →
      IsToken (signed negative bs) k.Float (signed_size negative size + 1 + count + more)
  bare : (b : ℕ) (bs : List ℕ) (size : ℕ) → is_lower b ≡ true → IsFront is_name_byte size (b ∷ bs) → characters_in (take size (b ∷ bs)) ≤ MOST_CHARACTERS → IsToken (b ∷ bs) (k.Atom (take size (b ∷ bs))) size
  quoted : (bs text rest : List ℕ) → IsQuoted 39 bs text rest → characters_in text ≤ MOST_CHARACTERS → IsToken (39 ∷ bs) (k.Atom text) (length bs + 1 - length rest)
  string : (bs text rest : List ℕ) → IsQuoted 34 bs text rest → IsToken (34 ∷ bs) (k.Text (code_terms text)) (length bs + 1 - length rest)
  open_tuple : (bs : List ℕ) → IsToken (123 ∷ bs) k.OpenTuple 1
  open_list : (bs : List ℕ) → IsToken (91 ∷ bs) k.OpenList 1
  open_map : (bs : List ℕ) → IsToken (35 ∷ 123 ∷ bs) k.OpenMap 2
  close_brace : (bs : List ℕ) → IsToken (125 ∷ bs) k.CloseBrace 1
  close_bracket : (bs : List ℕ) → IsToken (93 ∷ bs) k.CloseBracket 1
  comma : (bs : List ℕ) → IsToken (44 ∷ bs) k.Comma 1
  bar : (bs : List ℕ) → IsToken (124 ∷ bs) k.Bar 1
  arrow : (bs : List ℕ) → IsToken (61 ∷ 62 ∷ bs) k.Arrow 2
  last_dot : IsToken (46 ∷ []) k.Dot 1
  dot : (b : ℕ) (bs : List ℕ) → (is_separator b || b == 37) ≡ true → IsToken (46 ∷ b ∷ bs) k.Dot 1
