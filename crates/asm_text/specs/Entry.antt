-- The entry of a call: the names of a module and of a function as atoms, with a colon and nothing else between them
-- (docs/TEXT.md, Entries).
use Rattle.std.specs.Prelude.{ℕ, ◌+◌, ◌-◌, ◌==◌, nat_lt, if◌then◌else◌, List, [], ◌∷◌, drop, length, Option, Some, None, nat_eq}
use Rattle.std.specs.Option.{option_map}
use Rattle.term_tree.specs.declared.name.TheConstants.{MOST_CHARACTERS}
use Rattle.text_tokens.specs.declared.token.Token.{Token}
use Rattle.text_tokens.specs.declared.token.Token.TheVariants as k
use Rattle.text_tokens.specs.declared.token.Piece.{Piece}
use Rattle.text_tokens.specs.declared.token.Piece.TheVariants as p
use Rattle.text_tokens.specs.Character.{between_quotes}
use Rattle.text_tokens.specs.Pieces.{is_lower, bare_atom, quoted}

-- an atom with its size in bytes
abbrev pub atom_token : Token → ℕ → Option (List ℕ × ℕ)
atom_token (k.Atom a) size = Some (a, size)
atom_token other size = None

abbrev pub atom_piece : Piece → Option (List ℕ × ℕ)
atom_piece (p.Whole token size) = atom_token token size
atom_piece (p.Blank size) = None
atom_piece (p.Bad reason) = None

-- the atom at the front of some bytes
abbrev pub atom_at : List ℕ → Option (List ℕ × ℕ)
atom_at [] = None
atom_at (b ∷ bs) =
    if is_lower b then atom_piece (bare_atom (b ∷ bs))
    else if b == 39 then atom_piece (quoted 39 (length bs + 1) (between_quotes 39 0 [] bs))
    else None

-- how many bytes an atom with so many characters has
abbrev pub sized : ℕ → ℕ → Option ℕ
sized characters size = if nat_lt MOST_CHARACTERS characters then None else Some size

-- the size of a quoted atom in this many bytes, by its characters and the bytes left behind it
abbrev pub quoted_size : ℕ → Option (ℕ × ℕ) → Option ℕ
quoted_size size None = None
quoted_size size (Some c) = sized c.0 (size - c.1)

-- an atom that is all of so many bytes
abbrev pub whole_atom : ℕ → Option (List ℕ × ℕ) → Option (List ℕ)
whole_atom size None = None
whole_atom size (Some a) = if nat_eq a.1 size then Some a.0 else None

-- the function's name, behind the module's
abbrev pub function_after : List ℕ → Option (List ℕ)
function_after [] = None
function_after (b ∷ bs) = if b == 58 then whole_atom (length bs) (atom_at bs) else None

abbrev pub names_with : List ℕ → Option (List ℕ × ℕ) → Option (List ℕ × List ℕ)
names_with bytes None = None
names_with bytes (Some owner) = option_map (λ function. (owner.0, function)) (function_after (drop owner.1 bytes))

-- the two names of an entry
abbrev pub entry_of : List ℕ → Option (List ℕ × List ℕ)
entry_of word = names_with word (atom_at word)
