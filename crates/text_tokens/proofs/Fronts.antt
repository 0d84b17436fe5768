-- The tokens of some bytes, by the piece at their front.
use Rattle.std.proofs.Common.{◌≡◌, ℕ, ◌-◌, ◌<◌, ◌≤◌, true, false, nat_lt, List, [], ◌∷◌, length, refl, sym, ap, ◌∙◌, arith}
use Rattle.std.proofs.lemmas.List.{nil_from_length}
use Rattle.text_tokens.specs.declared.token.Token.{Token}
use Rattle.text_tokens.specs.declared.token.Piece.{Piece}
use Rattle.text_tokens.specs.declared.token.Piece.TheVariants as p
use Rattle.text_tokens.specs.Pieces.{piece, is_separator}
use Rattle.text_tokens.specs.Tokens.{Tokens, Stop, Bad, More, tokens_after, line_after}

-- the tokens from a piece on, by those behind it
abbrev pub front_tokens : ℕ → (ℕ → Tokens) → Piece → Tokens
front_tokens line rest (p.Blank size) = rest (size - 1)
front_tokens line rest (p.Whole token size) = More line token (rest (size - 1))
front_tokens line rest (p.Bad reason) = Bad line reason

pub tokens-skip : (skip before line : ℕ) (bs : List ℕ) (b : ℕ) (rest : List ℕ) → bs ≡ b ∷ rest → 0 < skip →
    tokens_after skip before line bs ≡ tokens_after (skip - 1) line (line_after line b) rest
tokens-skip skip before line bs b rest e h = let t : nat_lt 0 skip ≡ true = grind arith in rw (e, t)

tokens-piece : (line b : ℕ) (rest : List ℕ) (q : Piece) → front_tokens line (λ size. tokens_after size line (line_after line b) rest) q ≡ elim q [
  | p.Blank size ↦ tokens_after (size - 1) line (line_after line b) rest
  | p.Whole token size ↦ More line token (tokens_after (size - 1) line (line_after line b) rest)
  | p.Bad reason ↦ Bad line reason
]
tokens-piece line b rest (p.Blank size) = refl
tokens-piece line b rest (p.Whole token size) = refl
tokens-piece line b rest (p.Bad reason) = refl

pub tokens-front : (skip before line : ℕ) (bs : List ℕ) (b : ℕ) (rest : List ℕ) → bs ≡ b ∷ rest → skip ≤ 0 →
    tokens_after skip before line bs ≡ front_tokens line (λ size. tokens_after size line (line_after line b) rest) (piece bs)
tokens-front skip before line bs b rest e h =
    let t : nat_lt 0 skip ≡ false = grind arith in
    rw (e, t) (sym (tokens-piece line b rest (piece (b ∷ rest))))

pub tokens-whole : (skip before line : ℕ) (bs : List ℕ) (b : ℕ) (rest : List ℕ) (token : Token) (size : ℕ) → bs ≡ b ∷ rest → skip ≤ 0 → piece bs ≡ p.Whole token size →
    tokens_after skip before line bs ≡ More line token (tokens_after (size - 1) line (line_after line b) rest)
tokens-whole skip before line bs b rest token size e h is = tokens-front skip before line bs b rest e h ∙ ap (front_tokens line (λ size. tokens_after size line (line_after line b) rest)) is

-- a separator is a piece of its own
pub tokens-separator : (skip before line : ℕ) (bs : List ℕ) (b : ℕ) (rest : List ℕ) → bs ≡ b ∷ rest → skip ≤ 0 → is_separator b ≡ true →
    tokens_after skip before line bs ≡ tokens_after skip line (line_after line b) rest
unfolding piece
tokens-separator skip before line bs b rest e h is =
    let t : nat_lt 0 skip ≡ false = grind arith in
    let none : skip ≡ 0 = omega arith in
    rw (e, t, is, none)

-- and so is a token of one byte
pub tokens-byte : (skip before line : ℕ) (bs : List ℕ) (b : ℕ) (rest : List ℕ) (token : Token) → bs ≡ b ∷ rest → skip ≤ 0 → ((r : List ℕ) → piece (b ∷ r) ≡ p.Whole token 1) →
    tokens_after skip before line bs ≡ More line token (tokens_after skip line (line_after line b) rest)
tokens-byte skip before line bs b rest token e h is =
    let t : nat_lt 0 skip ≡ false = grind arith in
    let none : skip ≡ 0 = omega arith in
    let c : piece (b ∷ rest) ≡ p.Whole token 1 = is rest in
    rw (e, t, c, none)

pub tokens-stop : (skip before line : ℕ) (bs : List ℕ) → length bs ≡ 0 → tokens_after skip before line bs ≡ Stop before
tokens-stop skip before line bs e = let n : bs ≡ [] = nil_from_length bs e in rw n
