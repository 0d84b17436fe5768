-- The text of an atom (Erlang reference manual, Data Types, Atom).
use Rattle.std.specs.Prelude.{ℕ, List, Bool, length, not, nat_lt, ◌&&◌, ◌==◌}
use Rattle.std.specs.Cmp.Lexicographic.{pointwise}
use Rattle.std.specs.Str.{chars, is_utf8}
use Rattle.term_tree.specs.declared.name.TheConstants.{MOST_CHARACTERS}

-- how many characters a text has, given by its bytes
abbrev pub characters_in : List ℕ → ℕ
characters_in bytes = length (chars bytes)

-- whether bytes are the text of an atom: UTF-8 of no more characters than an atom may have
abbrev pub is_name : List ℕ → Bool
is_name bytes = is_utf8 bytes && not (nat_lt MOST_CHARACTERS (characters_in bytes))

-- whether two names are the same text
abbrev pub same_name : List ℕ → List ℕ → Bool
same_name a b = pointwise ◌==◌ a b
