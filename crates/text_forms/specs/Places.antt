-- Which tokens are allowed after which: loose places, open brackets, and a token that is refused by itself (docs/TEXT.md,
-- Terms and forms, Refusals). A place is known by the tokens before it.
use Rattle.std.specs.Prelude.{ℕ, ◌≡◌, ◌+◌, ◌-◌, Bool, true, false, ◌&&◌, nat_le, ◌==◌, if◌then◌else◌, List, [], ◌∷◌, ◌++◌, Option, Some, None, unwrap_or}
use Rattle.std.specs.Cmp.Lexicographic.{pointwise}
use Rattle.text_tokens.specs.declared.token.Kind.TheVariants as n
use Rattle.text_tokens.specs.declared.token.Token.{Token}
use Rattle.text_tokens.specs.declared.token.Token.TheVariants as k
use Rattle.text_tokens.specs.Tokens.{Lined}
use Rattle.text_forms.specs.declared.refusal.TextRefusal.{TextRefusal}
use Rattle.text_forms.specs.declared.refusal.TextRefusal.TheVariants.{Syntax, Wide, Kind, Deep}

-- the most brackets that may be open
abbrev pub most_open : ℕ
most_open = 200

abbrev pub is_dot : Token → Bool
is_dot k.Dot = true
is_dot other = false

abbrev pub is_brace : Token → Bool
is_brace k.OpenTuple = true
is_brace other = false

abbrev pub is_percent : Token → Bool
is_percent (k.Atom a) = pointwise ◌==◌ a (37 ∷ [])
is_percent other = false

abbrev pub is_comma : Token → Bool
is_comma k.Comma = true
is_comma other = false

-- the tokens since the last dot
abbrev pub since_dot : List Lined → List Lined → List Lined
since_dot form [] = form
since_dot form (a ∷ ts) = since_dot (if is_dot a.token then [] else form ++ a ∷ []) ts

-- whether a form begins with `{`, the atom `%` and a comma: all places after these are loose
abbrev pub begins_loosely : List Lined → Bool
begins_loosely [] = false
begins_loosely (a ∷ []) = false
begins_loosely (a ∷ b ∷ []) = false
begins_loosely (a ∷ b ∷ c ∷ ts) = is_brace a.token && (is_percent b.token && is_comma c.token)

-- whether the place after these tokens is loose
abbrev pub is_loose_after : List Lined → Bool
is_loose_after before = begins_loosely (since_dot [] before)

-- how many brackets are open after one more token, and after some
abbrev pub opened : ℕ → Token → ℕ
opened count k.OpenTuple = count + 1
opened count k.OpenList = count + 1
opened count k.OpenMap = count + 1
opened count k.CloseBrace = count - 1
opened count k.CloseBracket = count - 1
opened count other = count

abbrev pub open_after : ℕ → List Lined → ℕ
open_after count [] = count
open_after count (a ∷ ts) = open_after (opened count a.token) ts

-- a bracket that opens when so many are open
abbrev pub too_deep : ℕ → ℕ → Option TextRefusal
too_deep line count = if nat_le most_open count then Some (Deep line) else None

-- why a token is refused by itself
abbrev pub refused_itself : Bool → ℕ → ℕ → Token → Option TextRefusal
refused_itself loose line count k.Wide = if loose then None else Some (Wide line)
refused_itself loose line count k.Float = if loose then None else Some (Kind line n.Float)
refused_itself loose line count k.OpenMap = if loose then too_deep line count else Some (Kind line n.Map)
refused_itself loose line count k.OpenTuple = too_deep line count
refused_itself loose line count k.OpenList = too_deep line count
refused_itself loose line count other = None

-- the same of a token after these
abbrev pub refused_after : List Lined → Lined → Option TextRefusal
refused_after before a = refused_itself (is_loose_after before) a.line (open_after 0 before) a.token

-- the refusal of a token after these: its own, or that it cannot follow
abbrev pub refusal_after : List Lined → Lined → TextRefusal
refusal_after before a = unwrap_or (refused_after before a) (Syntax a.line)

-- no token is refused by itself, in the place after those before it
abbrev pub AllAllowed : List Lined → List Lined → Type 0
AllAllowed before [] = Unit {0}
AllAllowed before (a ∷ ts) = (refused_after before a ≡ None) × AllAllowed (before ++ a ∷ []) ts
