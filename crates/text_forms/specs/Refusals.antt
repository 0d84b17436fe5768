-- What tokens are read as: all of them as a text, or the refusal at the first that cannot go on as one (docs/TEXT.md,
-- Refusals). `Are` is one of the two relations AreForms and AreArguments.
use Rattle.std.specs.Prelude.{ℕ, ◌≡◌, List, [], ◌∷◌, ◌++◌, Result, Ok, Err}
use Rattle.text_tokens.specs.declared.token.Reason.{Reason}
use Rattle.text_tokens.specs.declared.token.Reason.TheVariants as r
use Rattle.text_tokens.specs.Tokens.{Tokens, Stop, Bad, More, Lined, at, lined}
use Rattle.text_forms.specs.declared.refusal.TextRefusal.{TextRefusal}
use Rattle.text_forms.specs.declared.refusal.TextRefusal.TheVariants.{Syntax, Wide, Kind, Deep, Memory}
use Rattle.text_forms.specs.Places.{AllAllowed, refusal_after}

-- the tokens are a text of this
abbrev pub Makes : {A : Type 0} → (A → List Lined → Type 0) → A → List Lined → Type 0
Makes Are all ts = Are all ts × AllAllowed [] ts

-- some further tokens make a text of them
abbrev pub Begins : {A : Type 0} → (A → List Lined → Type 0) → List Lined → Type 0
Begins {A = A} Are ts = (us : List Lined) × (all : A) × Makes Are all (ts ++ us)

abbrev pub refusal_at : ℕ → Reason → TextRefusal
refusal_at line r.Syntax = Syntax line
refusal_at line (r.OfKind kind) = Kind line kind

-- why a refusal comes after these tokens, by what comes there: the text ends too early; bytes that are no token; or a
-- token with which no text begins
abbrev pub IsRefusedAt : {A : Type 0} → (A → List Lined → Type 0) → TextRefusal → List Lined → Tokens → Type 0
IsRefusedAt {A = A} Are refusal ts (Stop line) = (refusal ≡ Syntax line) × ((all : A) → ¬ (Makes Are all ts))
IsRefusedAt Are refusal ts (Bad line reason) = refusal ≡ refusal_at line reason
IsRefusedAt Are refusal ts (More line token rest) = (refusal ≡ refusal_after ts (at line token)) × ¬ (Begins Are (ts ++ at line token ∷ []))

-- the reading of tokens: what they are a text of, or the refusal after the tokens with which a text begins
abbrev pub IsReading : {A : Type 0} → (A → List Lined → Type 0) → Tokens → Result A TextRefusal → Type 0
IsReading Are all (Ok a) = (ts : List Lined) × (line : ℕ) × (all ≡ lined ts (Stop line)) × Makes Are a ts
IsReading Are all (Err refusal) = (ts : List Lined) × (rest : Tokens) × (all ≡ lined ts rest) × Begins Are ts × IsRefusedAt Are refusal ts rest

-- but for want of memory, a call's answer is the definition's
abbrev pub Meets : {A : Type 0} → Result A TextRefusal → Result A TextRefusal → Type 0
Meets (Err (Memory e)) wanted = Unit {0}
Meets (Err (Syntax line)) wanted = wanted ≡ Err (Syntax line)
Meets (Err (Wide line)) wanted = wanted ≡ Err (Wide line)
Meets (Err (Kind line kind)) wanted = wanted ≡ Err (Kind line kind)
Meets (Err (Deep line)) wanted = wanted ≡ Err (Deep line)
Meets (Ok answer) wanted = wanted ≡ Ok answer
