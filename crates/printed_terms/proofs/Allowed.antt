-- Tokens of printed terms are allowed where their brackets are few enough.
use Rattle.std.proofs.Common.{◌≡◌, ℕ, ℤ, suc, ◌+◌, ◌≤◌, false, nat_le, List, [], ◌∷◌, ◌++◌, Some, None, refl, sym, ap, ◌∙◌, arith, append_assoc, append-nil, if◌then◌else◌}
use Rattle.text_tokens.specs.declared.token.Token.TheVariants as k
use Rattle.text_tokens.specs.Tokens.{Lined, at}
use Rattle.text_forms.specs.declared.refusal.TextRefusal.TheVariants.{Deep}
use Rattle.text_forms.specs.Places.{opened, open_after, refused_after, AllAllowed, most_open}
use Rattle.text_forms.proofs.Tracks.{open_more}
use Rattle.text_forms.proofs.Reached.{allowed_joined}

-- wherever so many more brackets may be open, the tokens are allowed, and as many are open behind them
pub record Allowed (before ts : List Lined) : Type 0 where
  pub fine : AllAllowed before ts
  pub same : open_after 0 (before ++ ts) ≡ open_after 0 before

abbrev pub Allows : ℕ → List Lined → Type 0
Allows deep ts = (before : List Lined) → open_after 0 before + deep ≤ most_open → Allowed before ts

pub nothing_allows : (deep : ℕ) → Allows deep []
nothing_allows deep before h = record { fine = tt; same = ap (open_after 0) (append-nil before) }

pub deeper_allows : (deep more : ℕ) (ts : List Lined) → deep ≤ more → Allows deep ts → Allows more ts
deeper_allows deep more ts le allows before h = allows before (omega arith)

pub joined_allows : (deep : ℕ) (ts us : List Lined) → Allows deep ts → Allows deep us → Allows deep (ts ++ us)
joined_allows deep ts us allows more before h =
    let one : Allowed before ts = allows before h in
    let two : Allowed (before ++ ts) us = more (before ++ ts) (omega (arith, one.same)) in
    record { fine = allowed_joined before ts us one.fine two.fine; same = ap (open_after 0) (sym (append_assoc before ts us)) ∙ two.same ∙ one.same }

-- a token that is no bracket
plain_allows : (deep : ℕ) (a : Lined) → ((before : List Lined) → refused_after before a ≡ None) → ((count : ℕ) → opened count a.token ≡ count) → Allows deep (a ∷ [])
plain_allows deep a fine same before h = record { fine = (fine before, tt); same = open_more 0 before a ∙ same (open_after 0 before) }

pub integer_allows : (deep : ℕ) (i : ℤ) → Allows deep (at 1 (k.Integer i) ∷ [])
integer_allows deep i = plain_allows deep (at 1 (k.Integer i)) (λ before. refl) (λ count. refl)

pub atom_allows : (deep : ℕ) (a : List ℕ) → Allows deep (at 1 (k.Atom a) ∷ [])
atom_allows deep a = plain_allows deep (at 1 (k.Atom a)) (λ before. refl) (λ count. refl)

pub comma_allows : (deep : ℕ) → Allows deep (at 1 k.Comma ∷ [])
comma_allows deep = plain_allows deep (at 1 k.Comma) (λ before. refl) (λ count. refl)

pub bar_allows : (deep : ℕ) → Allows deep (at 1 k.Bar ∷ [])
bar_allows deep = plain_allows deep (at 1 k.Bar) (λ before. refl) (λ count. refl)

-- brackets are one more than what is in them
bracket_allows : (first close : Lined) → ((before : List Lined) → refused_after before first ≡ (if nat_le most_open (open_after 0 before) then Some (Deep first.line) else None)) → ((before : List Lined) → refused_after before close ≡ None) →
    ((count : ℕ) → opened (opened count first.token) close.token ≡ count) → ((count : ℕ) → opened count first.token ≡ count + 1) →
    (deep more : ℕ) (ts : List Lined) → suc deep ≤ more → Allows deep ts → Allows more (first ∷ (ts ++ close ∷ []))
bracket_allows first close fine free round up deep more ts le allows before h =
    let room : nat_le most_open (open_after 0 before) ≡ false = grind arith in
    let opens : open_after 0 (before ++ first ∷ []) ≡ opened (open_after 0 before) first.token = open_more 0 before first in
    let inside : Allowed (before ++ first ∷ []) ts = allows (before ++ first ∷ []) (omega (arith, opens, up (open_after 0 before))) in
    let behind : List Lined = (before ++ first ∷ []) ++ ts in
    let joins : before ++ first ∷ (ts ++ close ∷ []) ≡ behind ++ close ∷ [] = simp append_assoc in
    record {
      fine = (fine before ∙ rw room refl, allowed_joined (before ++ first ∷ []) ts (close ∷ []) inside.fine (free behind, tt));
      same = ap (open_after 0) joins ∙ open_more 0 behind close ∙ ap (λ count. opened count close.token) (inside.same ∙ opens) ∙ round (open_after 0 before);
    }

pub list_allows : (deep more : ℕ) (ts : List Lined) → suc deep ≤ more → Allows deep ts → Allows more (at 1 k.OpenList ∷ (ts ++ at 1 k.CloseBracket ∷ []))
list_allows = bracket_allows (at 1 k.OpenList) (at 1 k.CloseBracket) (λ before. refl) (λ before. refl) (λ count. omega arith) (λ count. refl)

pub tuple_allows : (deep more : ℕ) (ts : List Lined) → suc deep ≤ more → Allows deep ts → Allows more (at 1 k.OpenTuple ∷ (ts ++ at 1 k.CloseBrace ∷ []))
tuple_allows = bracket_allows (at 1 k.OpenTuple) (at 1 k.CloseBrace) (λ before. refl) (λ before. refl) (λ count. omega arith) (λ count. refl)
