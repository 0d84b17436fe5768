-- The laws of cutting.
use Rattle.std.proofs.Common.{◌≡◌, ◌≢◌, ℕ, zero, suc, ◌-◌, ◌==◌, Bool, true, false, nat_lt, if◌then◌else◌, List, [], ◌∷◌, ◌++◌, length, drop, Option, Some, None, refl, sym, ap, ◌∙◌, subst, arith, append_assoc, append-nil, encode_utf8}
use Rattle.text_tokens.specs.declared.token.Token.{Token}
use Rattle.text_tokens.specs.declared.token.Reason.{Reason}
use Rattle.text_tokens.specs.declared.token.Piece.{Piece}
use Rattle.text_tokens.specs.declared.token.Piece.TheVariants as p
use Rattle.text_tokens.specs.Character.{quoted_character, between_quotes}
use Rattle.text_tokens.specs.Pieces.{piece}
use Rattle.text_tokens.specs.Tokens.{Bad, More, tokens_after, line_after}
use Rattle.text_tokens.specs.Cuts.{tokens_at, tokens_behind, IsQuoted, closes, goes_on}
use Rattle.text_tokens.proofs.Fronts.{front_tokens, tokens-front}
use Rattle.text_tokens.proofs.Quotes.{quotes-skip, quotes-close, quotes-more}

tokens-behind : (skip before line : ℕ) (bs : List ℕ) → tokens_after skip before line bs ≡ tokens_behind skip before line bs
tokens-behind zero before line [] = refl
tokens-behind (suc n) before line [] = refl
tokens-behind zero before line (b ∷ bs) = refl
tokens-behind (suc n) before line (b ∷ bs) =
    let t : nat_lt 0 (suc n) ≡ true = grind arith in
    let less : suc n - 1 ≡ n = omega arith in
    rw (t, less) (tokens-behind n line (line_after line b) bs)

-- the tokens from a piece on
front : (before line b : ℕ) (bs : List ℕ) (q : Piece) → piece (b ∷ bs) ≡ q → tokens_at before line (b ∷ bs) ≡ front_tokens line (λ size. tokens_after size line (line_after line b) bs) q
front before line b bs q e = tokens-front 0 before line (b ∷ bs) b bs refl (omega arith) ∙ ap (front_tokens line (λ size. tokens_after size line (line_after line b) bs)) e

pub token-cut : (before line b size : ℕ) (bs : List ℕ) (token : Token) → piece (b ∷ bs) ≡ p.Whole token size → tokens_at before line (b ∷ bs) ≡ More line token (tokens_behind (size - 1) line (line_after line b) bs)
token-cut before line b size bs token e = front before line b bs (p.Whole token size) e ∙ ap (More line token) (tokens-behind (size - 1) line (line_after line b) bs)

pub blank-cut : (before line b size : ℕ) (bs : List ℕ) → piece (b ∷ bs) ≡ p.Blank size → tokens_at before line (b ∷ bs) ≡ tokens_behind (size - 1) line (line_after line b) bs
blank-cut before line b size bs e = front before line b bs (p.Blank size) e ∙ tokens-behind (size - 1) line (line_after line b) bs

pub bad-cut : (before line b : ℕ) (bs : List ℕ) (reason : Reason) → piece (b ∷ bs) ≡ p.Bad reason → tokens_at before line (b ∷ bs) ≡ Bad line reason
bad-cut before line b bs reason e = front before line b bs (p.Bad reason) e

-- ---- quotes

-- what is left between quotes, after what has come
pub record Quoted (quote : ℕ) (skip : ℕ) (got bs text : List ℕ) (left : ℕ) : Type 0 where
  pub more : List ℕ
  pub rest : List ℕ
  pub whole : got ++ more ≡ text
  pub size : length rest ≡ left
  pub is : IsQuoted quote (drop skip bs) more rest

quoted_from : (quote skip : ℕ) (got bs text : List ℕ) (left : ℕ) → between_quotes quote skip got bs ≡ Some (text, left) → Quoted quote skip got bs text left
quoted_from quote skip got [] text left e = absurd (cc)
quoted_from quote (suc n) got (b ∷ bs) text left e =
    let t : nat_lt 0 (suc n) ≡ true = grind arith in
    let less : suc n - 1 ≡ n = omega arith in
    let q : Quoted quote n got bs text left = quoted_from quote n got bs text left (rw (t, less) at e) in
    record { more = q.more; rest = q.rest; whole = q.whole; size = q.size; is = q.is }
quoted_from quote zero got (b ∷ bs) text left e = go (b == quote) refl (quoted_character (b ∷ bs)) refl (λ skip so_far h. quoted_from quote skip so_far bs text left h) e
  where
    go : (ends : Bool) → (b == quote) ≡ ends → (c : Option (ℕ × ℕ)) → quoted_character (b ∷ bs) ≡ c → ((skip : ℕ) (so_far : List ℕ) → between_quotes quote skip so_far bs ≡ Some (text, left) → Quoted quote skip so_far bs text left) →
        (if ends then Some (got, length bs) else elim c [ None ↦ None | Some c ↦ between_quotes quote (c.1 - 1) (got ++ encode_utf8 c.0) bs ]) ≡ Some (text, left) → Quoted quote zero got (b ∷ bs) text left
    go true q c d ih e =
        let same : b ≡ quote = grind arith in
        let text_is : got ≡ text = ap (λ o. text_of o) e in
        let left_is : length bs ≡ left = ap (λ o. left_of o) e in
        let P : ℕ → Type 0 = λ x. IsQuoted quote (x ∷ bs) [] bs in
        record { more = []; rest = bs; whole = append-nil got ∙ text_is; size = left_is; is = subst P (sym same) (closes bs) }
      where
        text_of : Option (List ℕ × ℕ) → List ℕ
        text_of None = []
        text_of (Some x) = x.0

        left_of : Option (List ℕ × ℕ) → ℕ
        left_of None = 0
        left_of (Some x) = x.1
    go false q None d ih e = absurd (cc)
    go false q (Some c) d ih e =
        let other : b ≢ quote = grind arith in
        let more : Quoted quote (c.1 - 1) (got ++ encode_utf8 c.0) bs text left = ih (c.1 - 1) (got ++ encode_utf8 c.0) e in
        record {
          more = encode_utf8 c.0 ++ more.more;
          rest = more.rest;
          whole = sym (append_assoc got (encode_utf8 c.0) more.more) ∙ more.whole;
          size = more.size;
          is = goes_on b bs c.0 c.1 more.more more.rest other d more.is;
        }

pub quotes-cut : (quote : ℕ) (bs text : List ℕ) (left : ℕ) → between_quotes quote 0 [] bs ≡ Some (text, left) → (rest : List ℕ) × (length rest ≡ left) × IsQuoted quote bs text rest
quotes-cut quote bs text left e =
    let q : Quoted quote 0 [] bs text left = quoted_from quote 0 [] bs text left e in
    let P : List ℕ → Type 0 = λ t. IsQuoted quote bs t q.rest in
    (q.rest, q.size, subst P q.whole q.is)

-- the bytes that belong to the character before are passed over
quotes-behind : (quote skip : ℕ) (got bs : List ℕ) → between_quotes quote skip got bs ≡ between_quotes quote 0 got (drop skip bs)
quotes-behind quote zero got [] = refl
quotes-behind quote (suc n) got [] = refl
quotes-behind quote zero got (b ∷ bs) = refl
quotes-behind quote (suc n) got (b ∷ bs) =
    let less : suc n - 1 ≡ n = omega arith in
    quotes-skip quote (suc n) got (b ∷ bs) b bs refl (omega arith) ∙ ap (λ k. between_quotes quote k got bs) less ∙ quotes-behind quote n got bs

pub quotes-joined : (quote : ℕ) (bs text rest got : List ℕ) → IsQuoted quote bs text rest → between_quotes quote 0 got bs ≡ Some (got ++ text, length rest)
quotes-joined quote _ _ _ got (closes rest) = quotes-close quote 0 got (quote ∷ rest) quote rest refl (omega arith) refl ∙ ap (λ t. Some (t, length rest)) (sym (append-nil got))
quotes-joined quote _ _ _ got (goes_on b bs code size text rest other is more) =
    quotes-more quote 0 got (b ∷ bs) b bs code size refl (omega arith) other is
    ∙ quotes-behind quote (size - 1) (got ++ encode_utf8 code) bs
    ∙ quotes-joined quote (drop (size - 1) bs) text rest (got ++ encode_utf8 code) more
    ∙ ap (λ t. Some (t, length rest)) (append_assoc got (encode_utf8 code) text)
