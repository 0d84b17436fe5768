-- Where a reading stands after each token, and what the tokens of a whole text come to.
use Rattle.std.specs.Prelude.{ℕ, Bool, true, false, if◌then◌else◌, List, [], ◌∷◌, ◌++◌, length, Option, Some, None, option_map, Result, Ok, Err}
use Rattle.term_tree.specs.declared.term.Term.{Term, out-Term}
use Rattle.term_tree.specs.declared.term.Term.TheOpen.{Term-F}
use Rattle.text_tokens.specs.declared.token.Token.{Token}
use Rattle.text_tokens.specs.Tokens.{Tokens, Stop, Bad, More, Lined, at}
use Rattle.text_forms.specs.declared.form.Form.{Form}
use Rattle.text_forms.specs.declared.refusal.TextRefusal.{TextRefusal}
use Rattle.text_forms.specs.declared.refusal.TextRefusal.TheVariants.{Syntax}
use Rattle.text_forms.specs.declared.place.Open.{Open}
use Rattle.text_forms.specs.declared.place.Open.TheVariants as o
use Rattle.text_forms.specs.declared.place.Last.{Last}
use Rattle.text_forms.specs.declared.place.Last.TheVariants as l
use Rattle.text_forms.specs.declared.place.Looseness.{Looseness}
use Rattle.text_forms.specs.declared.place.Looseness.TheVariants as places
use Rattle.text_forms.specs.declared.place.Place.{Place}
use Rattle.text_forms.specs.declared.place.Stand.{Stand}
use Rattle.text_forms.specs.Moves.{place, move, dot_term}
use Rattle.text_forms.specs.Places.{is_dot, is_brace, is_percent, is_comma, refused_itself}
use Rattle.text_forms.specs.Refusals.{refusal_at}

-- whether all places from here to the form's dot are loose
abbrev pub is_loose : Looseness → Bool
is_loose places.Loose = true
is_loose other = false

-- one token further
abbrev pub looseness_after : Looseness → Token → Looseness
looseness_after places.Start token = if is_brace token then places.Brace else places.Strict
looseness_after places.Brace token = if is_percent token then places.Percent else places.Strict
looseness_after places.Percent token = if is_comma token then places.Loose else places.Strict
looseness_after places.Loose token = places.Loose
looseness_after places.Strict token = places.Strict

abbrev pub form_line : Looseness → ℕ → ℕ → ℕ
form_line places.Start line token_line = token_line
form_line other line token_line = line

abbrev pub first_place : Open → Place
first_place root = place [] root l.Mark

-- before a form, or before arguments, after some forms
abbrev pub before : Open → List Form → Stand
before root forms = record { forms = forms; place = first_place root; looseness = places.Start; line = 1 }

abbrev pub moved : Stand → Lined → Place → Stand
moved s a p = record { forms = s.forms; place = p; looseness = looseness_after s.looseness a.token; line = form_line s.looseness s.line a.line }

abbrev pub given : Stand → Term → Stand
given s term = before o.Form (s.forms ++ record { line = s.line; term = term } ∷ [])

-- what a token does, where it is allowed
abbrev pub does : Stand → Lined → Option Stand
does s a = if is_dot a.token then option_map (given s) (dot_term s.place) else option_map (moved s a) (move s.place a.token)

abbrev pub placed : ℕ → Option Stand → Result Stand TextRefusal
placed line None = Err (Syntax line)
placed line (Some s) = Ok s

abbrev pub unless : Option TextRefusal → Result Stand TextRefusal → Result Stand TextRefusal
unless (Some refusal) rest = Err refusal
unless None rest = rest

abbrev pub step : Stand → Lined → Result Stand TextRefusal
step s a = unless (refused_itself (is_loose s.looseness) a.line (length s.place.outer) a.token) (placed a.line (does s a))

-- all tokens of a text, with the line of its last byte
abbrev pub run : Stand → Tokens → Result (Stand × ℕ) TextRefusal
run s (Stop line) = Ok (s, line)
run s (Bad line reason) = Err (refusal_at line reason)
run s (More line token rest) = elim (step s (at line token)) [ Err refusal ↦ Err refusal | Ok next ↦ run next rest ]

-- the forms, where no further one has begun
abbrev pub whole_forms : Stand → Option (List Form)
whole_forms s = elim s.looseness [ places.Start ↦ Some s.forms | _ ↦ None ]

-- the arguments, where their list has ended
abbrev pub proper_items : Term-F Term → Option (List Term)
proper_items (Term-F.List items None) = Some items
proper_items other = None

abbrev pub items_at : Open → Last → Option (List Term)
items_at o.Arguments (l.Term term) = proper_items (out-Term term)
items_at other last = None

abbrev pub whole_arguments : Stand → Option (List Term)
whole_arguments s = items_at s.place.inner s.place.last

abbrev pub ended : {A : Type 0} → ℕ → Option A → Result A TextRefusal
ended line (Some all) = Ok all
ended line None = Err (Syntax line)

abbrev pub outcome : {A : Type 0} → (Stand → Option A) → Result (Stand × ℕ) TextRefusal → Result A TextRefusal
outcome whole (Err refusal) = Err refusal
outcome whole (Ok end) = ended end.1 (whole end.0)
