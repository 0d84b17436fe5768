-- The tokens of every text are canonical: their integers are small, and so are the code points of their strings, since what
-- stands between quotes is UTF-8.
use Rattle.std.proofs.Common.{◌≡◌, ℕ, zero, suc, pos, ◌-ℤ◌, ◌-◌, ◌<◌, Bool, true, false, ◌&&◌, nat_lt, nat_le, if◌then◌else◌, List, [], ◌∷◌, map, take, drop, Option, Some, None, refl, sym, ap, ◌∙◌, subst, arith, encode_utf8, append-nil}
use Rattle.std.specs.Prelude.{option_and_then}
use Rattle.std.specs.Cmp.Derive.{both_true}
use Rattle.std.specs.List.{list_all}
use Rattle.std.specs.Str.{chars, IsUtf8}
use Rattle.std.proofs.lemmas.Str.{scalars-chars, IsUtf8-nil, IsUtf8-append}
use lib.Utf8.{scalar, scalars, scalar_cases}
use borrow.Author.Tests.{lt-ltb}
use Rattle.term_tree.specs.Small.{is_small, small_limit}
use Rattle.term_tree.specs.Term.{is_canonical}
use Rattle.term_tree.proofs.TermLaws.{both_hold, canonical-Int}
use Rattle.text_tokens.specs.declared.token.Token.{Token}
use Rattle.text_tokens.specs.declared.token.Token.TheVariants as k
use Rattle.text_tokens.specs.declared.token.Piece.{Piece}
use Rattle.text_tokens.specs.declared.token.Piece.TheVariants as p
use Rattle.text_tokens.specs.Canonical.{in_token}
use Rattle.text_tokens.specs.Character.{number_after, scalar_of, quoted_code, quoted_character}
use Rattle.text_tokens.specs.Cuts.{IsQuoted, closes, goes_on}
use Rattle.text_tokens.specs.Pieces.{integer, code_term, piece}
use Rattle.text_tokens.specs.Spellings.{IsToken}
use Rattle.text_tokens.specs.Spellings as s
use Rattle.text_tokens.specs.Tokens.{Tokens, Stop, Bad, More, Lined, lined, tokens, tokens_after, line_after}
use Rattle.text_tokens.proofs.Longest.{IsPieceOf, piece-spelled}

-- ---- between quotes

-- a character, if there is one, is a Unicode scalar value
abbrev Good : Option (ℕ × ℕ) → Type 0
Good None = Unit {0}
Good (Some c) = scalar c.0 ≡ true

good : (o : Option (ℕ × ℕ)) → Good (option_and_then (λ c. scalar_of c.0 c.1) o)
good None = tt
good (Some c) = go (scalar c.0) refl
  where
    go : (test : Bool) → scalar c.0 ≡ test → Good (if test then Some (c.0, c.1) else None)
    go true e = e
    go false e = tt

quoted-good : (bs : List ℕ) → Good (quoted_character bs)
unfolding quoted_character
quoted-good bs = good (quoted_code bs)

encode-utf8 : (c : ℕ) → scalar c ≡ true → IsUtf8 (encode_utf8 c)
encode-utf8 c e = (c ∷ [], (ap (λ b. b && true) e, append-nil (encode_utf8 c)))

quoted-utf8 : (quote : ℕ) (bs text rest : List ℕ) → IsQuoted quote bs text rest → IsUtf8 text
quoted-utf8 quote _ _ _ (closes rest) = IsUtf8-nil
quoted-utf8 quote _ _ _ (goes_on b bs code size text rest other is more) =
    let G : Option (ℕ × ℕ) → Type 0 = λ o. Good o in
    IsUtf8-append (encode_utf8 code) text (encode-utf8 code (subst G is (quoted-good (b ∷ bs)))) (quoted-utf8 quote (drop (size - 1) bs) text rest more)

-- ---- pieces

-- the terms of these tokens are canonical
abbrev pub in_lined : Lined → Bool
in_lined a = in_token a.token

in_tokens : Tokens → Bool
in_tokens (Stop line) = true
in_tokens (Bad line reason) = true
in_tokens (More line token rest) = in_token token && in_tokens rest

negative-small : (n : ℕ) → nat_le n small_limit ≡ true → is_small (pos 0 -ℤ pos n) ≡ true
negative-small zero e = refl
negative-small (suc n) e = grind arith

integer-in : (negative : Bool) (n : ℕ) → in_token (integer negative n) ≡ true
integer-in true n = go (nat_le n small_limit) refl
  where
    go : (small : Bool) → nat_le n small_limit ≡ small → in_token (if small then k.Integer (pos 0 -ℤ pos n) else k.Wide) ≡ true
    go true e = negative-small n e
    go false e = refl
integer-in false n = go (nat_lt n small_limit) refl
  where
    go : (small : Bool) → nat_lt n small_limit ≡ small → in_token (if small then k.Integer (pos n) else k.Wide) ≡ true
    go true e = e
    go false e = refl

scalar_small : (c : ℕ) → scalar c ≡ true → c < small_limit
scalar_small c e = grind (arith, scalar_cases c e)

codes-in : (cs : List ℕ) → scalars cs ≡ true → list_all is_canonical (map code_term cs) ≡ true
codes-in [] e = refl
codes-in (c ∷ cs) e =
    let parts = both_hold (scalar c) (scalars cs) e in
    both_true (canonical-Int (pos c) ∙ lt-ltb c small_limit (scalar_small c parts.0)) (codes-in cs parts.1)

begins-in : (bs : List ℕ) (t : Token) (size : ℕ) → IsToken bs t size → in_token t ≡ true
begins-in _ _ _ (s.whole negative bs n f) = integer-in negative (number_after 10 0 (take n bs))
begins-in _ _ _ (s.float negative bs cs n count more f point g x) = refl
begins-in _ _ _ (s.bare b bs n lower f short) = refl
begins-in _ _ _ (s.quoted bs text rest is short) = refl
begins-in _ _ _ (s.string bs text rest is) = codes-in (chars text) (scalars-chars text (quoted-utf8 34 bs text rest is))
begins-in _ _ _ (s.open_tuple bs) = refl
begins-in _ _ _ (s.open_list bs) = refl
begins-in _ _ _ (s.open_map bs) = refl
begins-in _ _ _ (s.close_brace bs) = refl
begins-in _ _ _ (s.close_bracket bs) = refl
begins-in _ _ _ (s.comma bs) = refl
begins-in _ _ _ (s.bar bs) = refl
begins-in _ _ _ (s.arrow bs) = refl
begins-in _ _ _ s.last_dot = refl
begins-in _ _ _ (s.dot b bs ends) = refl

-- ---- tokens

tokens-in : (skip before line : ℕ) (bs : List ℕ) → in_tokens (tokens_after skip before line bs) ≡ true
unfolding in_tokens
tokens-in skip before line [] = refl
tokens-in skip before line (b ∷ bs) = go (nat_lt 0 skip) (piece (b ∷ bs)) (piece-spelled (b ∷ bs)) (λ k. tokens-in k line (line_after line b) bs)
  where
    go : (skips : Bool) (q : Piece) → IsPieceOf (b ∷ bs) q → ((k : ℕ) → in_tokens (tokens_after k line (line_after line b) bs) ≡ true) → in_tokens (if skips then tokens_after (skip - 1) line (line_after line b) bs
        else elim q [ p.Blank size ↦ tokens_after (size - 1) line (line_after line b) bs | p.Whole token size ↦ More line token (tokens_after (size - 1) line (line_after line b) bs) | p.Bad reason ↦ Bad line reason ]) ≡ true
    go true q fine ih = ih (skip - 1)
    go false (p.Blank size) fine ih = ih (size - 1)
    go false (p.Whole token size) fine ih = both_true (begins-in (b ∷ bs) token size fine) (ih (size - 1))
    go false (p.Bad reason) fine ih = refl

lined-in : (ts : List Lined) (rest : Tokens) → in_tokens (lined ts rest) ≡ true → list_all in_lined ts ≡ true
unfolding in_tokens
lined-in [] rest e = refl
lined-in (a ∷ ts) rest e = let parts = both_hold (in_token a.token) (in_tokens (lined ts rest)) e in both_true parts.0 (lined-in ts rest parts.1)

pub tokens_canonical : (text : List ℕ) (ts : List Lined) (rest : Tokens) → tokens text ≡ lined ts rest → list_all in_lined ts ≡ true
tokens_canonical text ts rest e = lined-in ts rest (ap in_tokens (sym e) ∙ tokens-in 0 1 1 text)
