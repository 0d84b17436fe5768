-- Whether bytes are the text of an atom.
use Rattle.std.proofs.Common.{◌≡◌, ℕ, ◌<◌, Bool, true, false, List, refl, inl, inr}
use Rattle.std.specs.Str.{IsUtf8, is_utf8}
use Rattle.std.proofs.lemmas.Bool.{cases_lt, le-ltb, lt-ltb}
use Rattle.std.proofs.lemmas.Str.{IsUtf8-from_is_utf8, is_utf8-from_IsUtf8}
use Rattle.term_tree.specs.Name.{characters_in}
use Rattle.term_tree.specs.Name.{is_name}

not_utf8 : (b : Bool) (bytes : List ℕ) → is_utf8 bytes ≡ b → (IsUtf8 bytes → ⊥) → b ≡ false
not_utf8 true bytes e h = absurd (h (IsUtf8-from_is_utf8 bytes e))
not_utf8 false bytes e h = refl

pub no_name : (bytes : List ℕ) → (IsUtf8 bytes → ⊥) → is_name bytes ≡ false
no_name bytes h = rw (not_utf8 (is_utf8 bytes) bytes refl h) refl

pub a_name : (bytes : List ℕ) → IsUtf8 bytes → (255 < characters_in bytes → ⊥) → is_name bytes ≡ true
a_name bytes u h = rw (is_utf8-from_IsUtf8 bytes u) (elim (cases_lt 255 (characters_in bytes)) [ inl lt ↦ absurd (h lt) | inr le ↦ rw (le-ltb 255 (characters_in bytes) le) refl ])

pub too_long : (bytes : List ℕ) → IsUtf8 bytes → 255 < characters_in bytes → is_name bytes ≡ false
too_long bytes u lt = rw (is_utf8-from_IsUtf8 bytes u, lt-ltb 255 (characters_in bytes) lt) refl
