-- One piece of a text further.
use Rattle.std.proofs.Common.{◌≡◌, ℕ, ◌-◌, ◌<◌, ◌≤◌, true, List, ◌∷◌, length, Result, Ok, Err, refl, ap, ◌∙◌, subst}
use Rattle.text_tokens.specs.declared.token.Token.{Token}
use Rattle.text_tokens.specs.declared.token.Piece.{Piece}
use Rattle.text_tokens.specs.declared.token.Piece.TheVariants.{Blank, Whole, Bad}
use Rattle.text_tokens.specs.Pieces.{piece, is_separator}
use Rattle.text_tokens.specs.Tokens.{Tokens, at, tokens_after, line_after}
use Rattle.text_tokens.proofs.Fronts.{tokens-skip, tokens-separator, tokens-front, tokens-byte, tokens-stop, front_tokens}
use Rattle.text_forms.specs.declared.refusal.TextRefusal.{TextRefusal}
use Rattle.text_forms.specs.declared.refusal.TextRefusal.TheVariants.{Syntax, Wide, Kind, Deep, Memory}
use Rattle.text_forms.specs.declared.place.Stand.{Stand}
use Rattle.text_forms.specs.Refusals.{Meets}
use Rattle.text_forms.specs.Steps.{step, run}
use Rattle.asm_text.specs.Advance.{behind, advanced}

-- a refusal is its own answer, and that of what is refused with it
pub Meets-refused : {A : Type 0} (refusal : TextRefusal) (wanted : Result A TextRefusal) → wanted ≡ Err refusal → Meets {A = A} (Err refusal) wanted
Meets-refused (Syntax line) wanted e = e
Meets-refused (Wide line) wanted e = e
Meets-refused (Kind line kind) wanted e = e
Meets-refused (Deep line) wanted e = e
Meets-refused (Memory m) wanted e = tt

Meets-passed : {A B : Type 0} (refusal : TextRefusal) (x : Result A TextRefusal) (y : Result B TextRefusal) → ((r : TextRefusal) → x ≡ Err r → y ≡ Err r) → Meets {A = A} (Err refusal) x → Meets {A = B} (Err refusal) y
Meets-passed (Syntax line) x y go e = go (Syntax line) e
Meets-passed (Wide line) x y go e = go (Wide line) e
Meets-passed (Kind line kind) x y go e = go (Kind line kind) e
Meets-passed (Deep line) x y go e = go (Deep line) e
Meets-passed (Memory m) x y go e = tt

-- ---- one token

pub sized : (s t : Stand) (line size : ℕ) (token : Token) → step s (at line token) ≡ Ok t → advanced s line (Whole token size) ≡ Ok (t, size - 1)
sized s t line size token e = ap (behind size) e

pub sized-refused : (s : Stand) (line size : ℕ) (token : Token) (refusal : TextRefusal) → Meets {A = Stand} (Err refusal) (step s (at line token)) → Meets {A = Stand × ℕ} (Err refusal) (advanced s line (Whole token size))
sized-refused s line size token refusal e = Meets-passed refusal (step s (at line token)) (advanced s line (Whole token size)) (λ r h. ap (behind size) h) e

pub ruleset token_steps = (sized, sized-refused)

pub ruleset piece_steps = (Meets-refused)

-- ---- the bytes of a text

after_step : Tokens → Result Stand TextRefusal → Result (Stand × ℕ) TextRefusal
after_step rest r = elim r [ Err refusal ↦ Err refusal | Ok next ↦ run next rest ]

after_piece : (ℕ → Tokens) → Result (Stand × ℕ) TextRefusal → Result (Stand × ℕ) TextRefusal
after_piece rest r = elim r [ Err refusal ↦ Err refusal | Ok x ↦ run x.0 (rest x.1) ]

run-front : (s : Stand) (line : ℕ) (rest : ℕ → Tokens) (q : Piece) → run s (front_tokens line rest q) ≡ after_piece rest (advanced s line q)
unfolding after_piece
run-front s line rest (Blank size) = refl
run-front s line rest (Bad reason) = refl
run-front s line rest (Whole token size) = go (step s (at line token))
  where
    go : (r : Result Stand TextRefusal) → (elim r [ Err refusal ↦ Err refusal | Ok next ↦ run next (rest (size - 1)) ]) ≡ after_piece rest (behind size r)
    go (Err refusal) = refl
    go (Ok next) = refl

pub run-piece : (s t : Stand) (skip n before line : ℕ) (bs : List ℕ) (b : ℕ) (rest : List ℕ) → bs ≡ b ∷ rest → skip ≤ 0 → advanced s line (piece bs) ≡ Ok (t, n) →
    run s (tokens_after skip before line bs) ≡ run t (tokens_after n line (line_after line b) rest)
unfolding after_piece
run-piece s t skip n before line bs b rest e h is =
    let here = λ (size : ℕ). tokens_after size line (line_after line b) rest in
    ap (run s) (tokens-front skip before line bs b rest e h) ∙ run-front s line here (piece bs) ∙ ap (after_piece here) is

pub piece-refused : (s : Stand) (skip before line : ℕ) (bs : List ℕ) (b : ℕ) (rest : List ℕ) (refusal : TextRefusal) → bs ≡ b ∷ rest → skip ≤ 0 → Meets {A = Stand × ℕ} (Err refusal) (advanced s line (piece bs)) →
    Meets {A = Stand × ℕ} (Err refusal) (run s (tokens_after skip before line bs))
unfolding after_piece
piece-refused s skip before line bs b rest refusal e h m =
    let here = λ (size : ℕ). tokens_after size line (line_after line b) rest in
    Meets-passed refusal (advanced s line (piece bs)) (run s (tokens_after skip before line bs))
    (λ r is. ap (run s) (tokens-front skip before line bs b rest e h) ∙ run-front s line here (piece bs) ∙ ap (after_piece here) is) m

-- the same where the whole text comes to that
pub text-refused : (s : Stand) (skip before line : ℕ) (bs : List ℕ) (b : ℕ) (rest : List ℕ) (refusal : TextRefusal) (wanted : Result (Stand × ℕ) TextRefusal) → bs ≡ b ∷ rest → skip ≤ 0 →
    Meets {A = Stand × ℕ} (Err refusal) (advanced s line (piece bs)) → run s (tokens_after skip before line bs) ≡ wanted → Meets {A = Stand × ℕ} (Err refusal) wanted
text-refused s skip before line bs b rest refusal wanted e h m same =
    let P : Result (Stand × ℕ) TextRefusal → Type 0 = λ r. Meets {A = Stand × ℕ} (Err refusal) r in subst P same (piece-refused s skip before line bs b rest refusal e h m)

-- a token of one byte
pub run-byte : (s t : Stand) (skip before line : ℕ) (bs : List ℕ) (b : ℕ) (rest : List ℕ) (token : Token) → bs ≡ b ∷ rest → skip ≤ 0 → ((r : List ℕ) → piece (b ∷ r) ≡ Whole token 1) → step s (at line token) ≡ Ok t →
    run s (tokens_after skip before line bs) ≡ run t (tokens_after skip line (line_after line b) rest)
unfolding after_step
run-byte s t skip before line bs b rest token e h is steps =
    ap (run s) (tokens-byte skip before line bs b rest token e h is) ∙ ap (after_step (tokens_after skip line (line_after line b) rest)) steps

pub byte-refused : (s : Stand) (skip before line : ℕ) (bs : List ℕ) (b : ℕ) (rest : List ℕ) (token : Token) (refusal : TextRefusal) → bs ≡ b ∷ rest → skip ≤ 0 → ((r : List ℕ) → piece (b ∷ r) ≡ Whole token 1) →
    Meets {A = Stand} (Err refusal) (step s (at line token)) → Meets {A = Stand × ℕ} (Err refusal) (run s (tokens_after skip before line bs))
unfolding after_step
byte-refused s skip before line bs b rest token refusal e h is m =
    Meets-passed refusal (step s (at line token)) (run s (tokens_after skip before line bs))
    (λ r steps. ap (run s) (tokens-byte skip before line bs b rest token e h is) ∙ ap (after_step (tokens_after skip line (line_after line b) rest)) steps) m

pub run-skip : (s : Stand) (skip before line : ℕ) (bs : List ℕ) (b : ℕ) (rest : List ℕ) → bs ≡ b ∷ rest → 0 < skip → run s (tokens_after skip before line bs) ≡ run s (tokens_after (skip - 1) line (line_after line b) rest)
run-skip s skip before line bs b rest e h = ap (run s) (tokens-skip skip before line bs b rest e h)

pub run-separator : (s : Stand) (skip before line : ℕ) (bs : List ℕ) (b : ℕ) (rest : List ℕ) → bs ≡ b ∷ rest → skip ≤ 0 → is_separator b ≡ true →
    run s (tokens_after skip before line bs) ≡ run s (tokens_after skip line (line_after line b) rest)
run-separator s skip before line bs b rest e h is = ap (run s) (tokens-separator skip before line bs b rest e h is)

pub run-stop : (s : Stand) (skip before line : ℕ) (bs : List ℕ) → length bs ≡ 0 → run s (tokens_after skip before line bs) ≡ Ok (s, before)
run-stop s skip before line bs e = ap (run s) (tokens-stop skip before line bs e)

pub ruleset text_steps = (run-skip, run-separator, run-byte, run-piece, byte-refused, piece-refused, run-stop)
