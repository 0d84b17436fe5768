-- One step between quotes.
use Rattle.std.proofs.Common.{◌≡◌, ◌≢◌, ℕ, ◌-◌, ◌<◌, ◌≤◌, ◌==◌, true, false, nat_lt, List, ◌∷◌, ◌++◌, length, Some, None, encode_utf8, arith}
use Rattle.text_tokens.specs.Character.{between_quotes, quoted_character}

pub quotes-skip : (quote skip : ℕ) (got bs : List ℕ) (b : ℕ) (rest : List ℕ) → bs ≡ b ∷ rest → 0 < skip →
    between_quotes quote skip got bs ≡ between_quotes quote (skip - 1) got rest
quotes-skip quote skip got bs b rest e h =
    let t : nat_lt 0 skip ≡ true = grind arith in
    rw (e, t)

pub quotes-close : (quote skip : ℕ) (got bs : List ℕ) (b : ℕ) (rest : List ℕ) → bs ≡ b ∷ rest → skip ≤ 0 → b ≡ quote →
    between_quotes quote skip got bs ≡ Some (got, length rest)
quotes-close quote skip got bs b rest e h same =
    let t : nat_lt 0 skip ≡ false = grind arith in
    let q : (b == quote) ≡ true = grind arith in
    rw (e, t, q)

pub quotes-bad : (quote skip : ℕ) (got bs : List ℕ) (b : ℕ) (rest : List ℕ) → bs ≡ b ∷ rest → skip ≤ 0 → b ≢ quote →
    quoted_character bs ≡ None → between_quotes quote skip got bs ≡ None
quotes-bad quote skip got bs b rest e h other none =
    let t : nat_lt 0 skip ≡ false = grind arith in
    let q : (b == quote) ≡ false = grind arith in
    let c : quoted_character (b ∷ rest) ≡ None = rw e at none in
    rw (e, t, q, c)

pub quotes-more : (quote skip : ℕ) (got bs : List ℕ) (b : ℕ) (rest : List ℕ) (code size : ℕ) → bs ≡ b ∷ rest → skip ≤ 0 → b ≢ quote →
    quoted_character bs ≡ Some (code, size) → between_quotes quote skip got bs ≡ between_quotes quote (size - 1) (got ++ encode_utf8 code) rest
quotes-more quote skip got bs b rest code size e h other some =
    let t : nat_lt 0 skip ≡ false = grind arith in
    let q : (b == quote) ≡ false = grind arith in
    let c : quoted_character (b ∷ rest) ≡ Some (code, size) = rw e at some in
    rw (e, t, q, c)

pub ruleset quote_steps = (quotes-skip, quotes-close, quotes-bad, quotes-more)
