-- The text of a term (Erlang reference manual, Data Types; docs/TEXT.md).
use Rattle.std.specs.Prelude.{ℕ, Bool, true, false, ◌&&◌, ◌||◌, not, List, [], ◌∷◌, ◌++◌, if◌then◌else◌, nat_eq, nat_le, Option, Some, None}
use Rattle.std.specs.List.{list_all, list_any, flat_map}
use Rattle.std.specs.Str.{chars, bytes_eq}
use Rattle.std.specs.Fmt.{signed_decimal, digits}
use Rattle.term_tree.specs.Tree.{Tree, Trees, Int, Atom, Nil, Cons, Tuple, No, More}
use lib.Chars.{codes}

abbrev pub is_small_letter : ℕ → Bool
is_small_letter c = nat_le 97 c && nat_le c 122

-- a letter, a digit, `_` or `@`
abbrev pub is_name_character : ℕ → Bool
is_name_character c = is_small_letter c || nat_le 65 c && nat_le c 90 || nat_le 48 c && nat_le c 57 || nat_eq c 95 || nat_eq c 64

-- a small letter, and then letters, digits, `_` and `@`
abbrev pub is_bare : List ℕ → Bool
is_bare [] = false
is_bare (c ∷ cs) = is_small_letter c && list_all is_name_character cs

-- the reserved words of the language
abbrev pub reserved_words : List (List ℕ)
reserved_words =
    codes "after" ∷ codes "and" ∷ codes "andalso" ∷ codes "band" ∷ codes "begin" ∷ codes "bnot" ∷ codes "bor" ∷ codes "bsl" ∷ codes "bsr" ∷ codes "bxor" ∷ codes "case" ∷ codes "catch"
    ∷ codes "cond" ∷ codes "div" ∷ codes "end" ∷ codes "fun" ∷ codes "if" ∷ codes "let" ∷ codes "not" ∷ codes "of" ∷ codes "or" ∷ codes "orelse" ∷ codes "receive" ∷ codes "rem"
    ∷ codes "try" ∷ codes "when" ∷ codes "xor" ∷ []

unfoldable pub is_reserved : List ℕ → Bool
is_reserved bytes = list_any (λ word. bytes_eq word bytes) reserved_words

-- a character between the quotes of an atom, with its code in hexadecimal unless it is printable ASCII
abbrev pub quoted_character : ℕ → List ℕ
quoted_character c =
    if nat_eq c 39 || nat_eq c 92 then 92 ∷ c ∷ []
    else if nat_le 32 c && nat_le c 126 then c ∷ []
    else codes "\\x{" ++ digits 16 true c ++ codes "}"

-- the text of the atom with these bytes: in quotes unless it is bare and no reserved word
unfoldable pub atom_text : List ℕ → List ℕ
atom_text bytes = if is_bare bytes && not (is_reserved bytes) then bytes else codes "'" ++ flat_map quoted_character (chars bytes) ++ codes "'"

-- `{a,b}`, `[a,b]` and `[a|b]`, with no spaces
abbrev mutual
  pub text_of : Tree → List ℕ
  text_of (Int i) = signed_decimal i
  text_of (Atom a) = atom_text a
  text_of Nil = codes "[]"
  text_of (Cons h t) = codes "[" ++ text_of h ++ behind_head t
  text_of (Tuple ts) = codes "{" ++ elements_text ts ++ codes "}"

  -- what follows an element of a list, where this tree is the rest of the list
  pub behind_head : Tree → List ℕ
  behind_head (Int i) = codes "|" ++ signed_decimal i ++ codes "]"
  behind_head (Atom a) = codes "|" ++ atom_text a ++ codes "]"
  behind_head Nil = codes "]"
  behind_head (Cons h t) = codes "," ++ text_of h ++ behind_head t
  behind_head (Tuple ts) = codes "|" ++ (codes "{" ++ elements_text ts ++ codes "}") ++ codes "]"

  pub elements_text : Trees → List ℕ
  elements_text No = []
  elements_text (More t ts) = text_of t ++ behind_element ts

  -- what follows an element of a tuple, where these are the others
  pub behind_element : Trees → List ℕ
  behind_element No = []
  behind_element (More t ts) = codes "," ++ text_of t ++ behind_element ts

-- the texts of several terms, with commas between them
abbrev pub joined : List Tree → List ℕ
joined [] = []
joined (t ∷ ts) = text_of t ++ flat_map (λ u. codes "," ++ text_of u) ts

-- the text of what a list ends in, `[]` where there is nothing
abbrev pub end_text : Option Tree → List ℕ
end_text None = []
end_text (Some t) = codes "|" ++ text_of t
