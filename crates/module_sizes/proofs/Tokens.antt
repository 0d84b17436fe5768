-- The tokens of a text weigh no more than its bytes bear.
use Rattle.std.proofs.Common.{◌≡◌, inl, inr, ◌⊎◌, ℕ, zero, suc, pos, ◌-ℤ◌, ◌+◌, ◌-◌, ◌*◌, ◌≤◌, Bool, true, false, ◌&&◌, nat_lt, nat_le, if◌then◌else◌, List, [], ◌∷◌, ◌++◌, length, map, take, drop, Some, refl, sym, ap, ◌∙◌, subst, arith, encode_utf8, append-nil, length-append, length-drop}
use Rattle.std.specs.List.{sum_by}
use Rattle.std.specs.Str.{chars, IsUtf8}
use Rattle.std.proofs.lemmas.List.{length-map}
use Rattle.std.proofs.lemmas.List.Sums.{sum_by-cons}
use Rattle.std.proofs.lemmas.Str.{chars-nil, chars-append, chars_from_encodes}
use lib.Utf8.{scalar}
use Rattle.term_tree.specs.Small.{small_limit}
use Rattle.text_tokens.specs.declared.token.Piece.{Piece}
use Rattle.text_tokens.specs.declared.token.Piece.TheVariants as p
use Rattle.text_tokens.specs.declared.token.Token.{Token}
use Rattle.text_tokens.specs.declared.token.Token.TheVariants as k
use Rattle.text_tokens.specs.Character.{number_after, scalar_of, quoted_code, quoted_character}
use Rattle.text_tokens.specs.Cuts.{IsQuoted, closes, goes_on}
use Rattle.text_tokens.specs.Pieces.{integer, code_term, piece}
use Rattle.text_tokens.specs.Spellings.{IsToken}
use Rattle.text_tokens.specs.Spellings as s
use Rattle.text_tokens.specs.Tokens.{Tokens, Stop, Lined, lined, tokens_after, line_after}
use Rattle.text_tokens.proofs.Fronts.{front_tokens, tokens-front, tokens-skip}
use Rattle.text_tokens.proofs.Longest.{begins-with}
use Rattle.form_laws.proofs.Terms.{chained, tested_last}
use Rattle.module_sizes.proofs.Weights.{weight, weights, weight-Int}

-- a string weighs what its list does, any other token what a byte bears
abbrev pub token_weight : Token → ℕ
token_weight (k.Text codes) = 2 * length codes + weights codes
token_weight other = 2

abbrev pub lined_weight : Lined → ℕ
lined_weight a = token_weight a.token

abbrev pub all_weights : List Lined → ℕ
all_weights ts = sum_by lined_weight ts

-- ---- characters between quotes take a byte each at least

quoted_scalar : (bs : List ℕ) (code size : ℕ) → quoted_character bs ≡ Some (code, size) → scalar code ≡ true
unfolding quoted_character
quoted_scalar bs code size e =
    let c = chained (λ c. scalar_of c.0 c.1) (quoted_code bs) (code, size) e in
    let g = tested_last (scalar c.0.0) (code, size) (Some (c.0.0, c.0.1)) c.2 in
    let same : (c.0.0, c.0.1) ≡ (code, size) = (let h = g.1 in cc) in
    subst (λ n. scalar n ≡ true) (ap (λ (q : ℕ × ℕ). q.0) same) g.0

one_char : (code : ℕ) → scalar code ≡ true → IsUtf8 (encode_utf8 code) × (length (chars (encode_utf8 code)) ≡ 1)
one_char code h =
    let utf8 : IsUtf8 (encode_utf8 code) = (code ∷ [], (ap (λ b. b && true) h, append-nil (encode_utf8 code))) in
    (utf8, sym (ap length (chars_from_encodes (code ∷ []) (encode_utf8 code) utf8 (append-nil (encode_utf8 code)))))

few_chars : (quote : ℕ) (bs text rest : List ℕ) → IsQuoted quote bs text rest → length (chars text) + length rest + 1 ≤ length bs
few_chars quote _ _ _ (closes rest) = let none : length (chars []) ≡ 0 = ap length chars-nil in omega (arith, none)
few_chars quote _ _ _ (goes_on b bs code size text rest other is more) =
    let one = one_char code (quoted_scalar (b ∷ bs) code size is) in
    let both : length (chars (encode_utf8 code ++ text)) ≡ length (chars (encode_utf8 code) ++ chars text) = ap length (chars-append (encode_utf8 code) text one.0) in
    let count = few_chars quote (drop (size - 1) bs) text rest more in
    omega (arith, count, both, one.1, length-append (chars (encode_utf8 code)) (chars text), length-drop (size - 1) bs)

-- ---- one token

codes_weigh : (cs : List ℕ) → weights (map code_term cs) ≡ 0
codes_weigh [] = refl
codes_weigh (c ∷ cs) = let rest = codes_weigh cs in omega (arith, rest, sum_by-cons weight (code_term c) (map code_term cs), weight-Int (pos c))

integer_weighs : (negative : Bool) (n : ℕ) → token_weight (integer negative n) ≡ 2
integer_weighs true n = go (nat_le n small_limit)
  where
    go : (small : Bool) → token_weight (if small then k.Integer (pos 0 -ℤ pos n) else k.Wide) ≡ 2
    go true = refl
    go false = refl
integer_weighs false n = go (nat_lt n small_limit)
  where
    go : (small : Bool) → token_weight (if small then k.Integer (pos n) else k.Wide) ≡ 2
    go true = refl
    go false = refl

-- a token weighs what one byte bears, or else what its bytes do
abbrev IsLight : List ℕ → Token → ℕ → Type 0
IsLight bs t size = (token_weight t ≤ 2) ⊎ ((token_weight t ≤ 2 * size) × (size ≤ length bs))

light : (bs : List ℕ) (t : Token) (size : ℕ) → IsToken bs t size → IsLight bs t size
light _ _ _ (s.whole negative bs n f) = inl (omega (arith, integer_weighs negative (number_after 10 0 (take n bs))))
light _ _ _ (s.string bs text rest is) =
    inr ((omega (arith, few_chars 34 bs text rest is, codes_weigh (chars text), length-map (chars text) code_term), omega arith))
light _ _ _ other = inl (omega arith)

-- ---- the tokens of some bytes

-- from a piece on, where what is behind it weighs no more than its bytes bear
front_weighs : (line end b : ℕ) (bs : List ℕ) (rest : ℕ → Tokens) (q : Piece) → piece (b ∷ bs) ≡ q →
    ((size : ℕ) (us : List Lined) → rest size ≡ lined us (Stop end) → all_weights us ≤ 2 * (length bs - size)) →
    (ts : List Lined) → front_tokens line rest q ≡ lined ts (Stop end) → all_weights ts ≤ 2 * length (b ∷ bs)
front_weighs line end b bs rest (p.Blank size) is behind ts e = omega (arith, behind (size - 1) ts e)
front_weighs line end b bs rest (p.Bad reason) is behind [] e = omega arith
front_weighs line end b bs rest (p.Bad reason) is behind (a ∷ ts) e = absurd cc
front_weighs line end b bs rest (p.Whole token size) is behind [] e = omega arith
front_weighs line end b bs rest (p.Whole token size) is behind (a ∷ ts) e =
    let same : rest (size - 1) ≡ lined ts (Stop end) = cc in
    let here : token_weight token ≡ lined_weight a = (let h : token ≡ a.token = cc in ap token_weight h) in
    let more = behind (size - 1) ts same in
    let all = sum_by-cons lined_weight a ts in
    elim (light (b ∷ bs) token size (begins-with (b ∷ bs) token size is)) [
      | inl h ↦ omega (arith, here, more, all, h)
      | inr h ↦ omega (arith, here, more, all, h.0, h.1)
    ]

-- behind those bytes that belong to the piece before
pub tokens_weigh : (bs : List ℕ) (skip before line end : ℕ) (ts : List Lined) → tokens_after skip before line bs ≡ lined ts (Stop end) →
    all_weights ts ≤ 2 * (length bs - skip)
tokens_weigh [] skip before line end [] e = omega arith
tokens_weigh [] skip before line end (a ∷ ts) e = absurd cc
tokens_weigh (b ∷ bs) (suc n) before line end ts e =
    let less : suc n - 1 ≡ n = omega arith in
    let next = tokens-skip (suc n) before line (b ∷ bs) b bs refl (omega arith) ∙ ap (λ k. tokens_after k line (line_after line b) bs) less in
    omega (arith, tokens_weigh bs n line (line_after line b) end ts (sym next ∙ e))
tokens_weigh (b ∷ bs) zero before line end ts e =
    let next = tokens-front 0 before line (b ∷ bs) b bs refl (omega arith) in
    let rest = λ (size : ℕ). tokens_after size line (line_after line b) bs in
    omega (arith, front_weighs line end b bs rest (piece (b ∷ bs)) refl (λ size us h. tokens_weigh bs size line (line_after line b) end us h) ts (sym next ∙ e))
