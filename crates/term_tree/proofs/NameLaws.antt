-- The characters of a text.
use Rattle.std.proofs.Common.{◌≡◌, ℕ, ◌≤◌, List, length, ap, sym, subst, arith}
use Rattle.std.proofs.lemmas.Str.{length-le-encodes, encodes-chars}
use Rattle.std.specs.Str.{IsUtf8, chars}

-- a text has no more characters than bytes
pub characters_few : (bs : List ℕ) → IsUtf8 bs → length (chars bs) ≤ length bs
characters_few bs text =
    let same = ap length (encodes-chars bs text) in
    let few = length-le-encodes (chars bs) in
    omega arith
