-- Characters and texts of the code as their definitions give them.
use Rattle.std.specs.Prelude.{ℕ, List, Option, Some, None, string_bytes}
use Rattle.text_tokens.specs.declared.escape.Spelled.{Spelled}
use Rattle.text_tokens.specs.declared.quoted.Inside.{Inside}

abbrev pub found : Option Spelled → Option (ℕ × ℕ)
found None = None
found (Some s) = Some (s.code, s.size)

abbrev pub inside_of : Option Inside → Option (List ℕ × ℕ)
inside_of None = None
inside_of (Some i) = Some (string_bytes i.text, i.left)
