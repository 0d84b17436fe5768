-- What each token but the dot does to a place, or `None` where it cannot follow.
use Rattle.std.specs.Prelude.{Bool, true, false, ◌&&◌, ◌-◌, if◌then◌else◌, List, [], ◌∷◌, ◌++◌, length, take, slice_get, Option, Some, None, option_and_then, option_map, unwrap_or}
use Rattle.term_tree.specs.declared.term.Term as t
use Rattle.term_tree.specs.declared.term.Term.{Term}
use Rattle.text_tokens.specs.declared.token.Token.{Token}
use Rattle.text_tokens.specs.declared.token.Token.TheVariants as k
use Rattle.text_forms.specs.declared.place.Brackets.{Brackets}
use Rattle.text_forms.specs.declared.place.Brackets.TheVariants as b
use Rattle.text_forms.specs.declared.place.Mark.{Mark}
use Rattle.text_forms.specs.declared.place.Mark.TheVariants as m
use Rattle.text_forms.specs.declared.place.Open.{Open}
use Rattle.text_forms.specs.declared.place.Open.TheVariants as o
use Rattle.text_forms.specs.declared.place.Last.{Last}
use Rattle.text_forms.specs.declared.place.Last.TheVariants as l
use Rattle.text_forms.specs.declared.place.Place.{Place}
use Rattle.text_forms.specs.Spelling.{stand_in, with_tail}

-- whether terms stand in it
abbrev pub takes_terms : Open → Bool
takes_terms o.Arguments = false
takes_terms other = true

-- whether no term has come since the last mark
abbrev pub is_free : Last → Bool
is_free l.Bracket = true
is_free l.Mark = true
is_free (l.Term term) = false
is_free (l.Text codes) = false

-- whether a term may come now
abbrev pub wants_term : Place → Bool
wants_term p = is_free p.last && takes_terms p.inner

-- the term that stands last
abbrev pub last_term : Last → Option Term
last_term l.Bracket = None
last_term l.Mark = None
last_term (l.Term term) = Some term
last_term (l.Text codes) = Some (t.List codes None)

-- the terms in brackets that close now, with those before the last: none after the opening bracket, and one after a mark
abbrev pub all_terms : List Term → Last → Option (List Term)
all_terms items l.Bracket = Some items
all_terms items l.Mark = None
all_terms items (l.Term term) = Some (items ++ term ∷ [])
all_terms items (l.Text codes) = Some (items ++ t.List codes None ∷ [])

abbrev pub place : List Open → Open → Last → Place
place outer inner last = record { outer = outer; inner = inner; last = last }

-- a term of one token
abbrev pub after_term : Place → Term → Option Place
after_term p term = if wants_term p then Some (place p.outer p.inner (l.Term term)) else None

-- a string where a term may come, and one that joins the string before it
abbrev pub after_text : Place → List Term → Option Place
after_text p codes = elim p.last [
  | l.Text before ↦ Some (place p.outer p.inner (l.Text (before ++ codes)))
  | _ ↦ if wants_term p then Some (place p.outer p.inner (l.Text codes)) else None
]

-- a construct that begins
abbrev pub begun : Place → Open → Place
begun p new = place (p.outer ++ p.inner ∷ []) new l.Bracket

abbrev pub after_open : Place → Open → Option Place
after_open p new = if wants_term p then Some (begun p new) else None

-- the bracket of the arguments
abbrev pub after_first : Place → Option Place
after_first p = elim p.last [ l.Mark ↦ Some (begun p (o.Terms b.Arguments [])) | _ ↦ None ]

-- `[`
abbrev pub after_open_list : Place → Option Place
after_open_list p = elim p.inner [ o.Arguments ↦ after_first p | _ ↦ after_open p (o.Terms b.List []) ]

-- `,`, `|` and `=>` after a term: brackets with these terms, and any construct
abbrev pub terms_marked : Mark → Brackets → List Term → Option Open
terms_marked m.Comma kind items = Some (o.Terms kind items)
terms_marked m.Bar b.List items = Some (o.Tail items)
terms_marked other kind items = None

abbrev pub mark_after : Mark → Open → Term → Option Open
mark_after mark (o.Terms kind items) term = terms_marked mark kind (items ++ term ∷ [])
mark_after m.Arrow o.Key term = Some o.Value
mark_after m.Comma o.Value term = Some o.Key
mark_after mark other term = None

abbrev pub marked : Place → Open → Place
marked p inner = place p.outer inner l.Mark

abbrev pub after_mark : Mark → Place → Option Place
after_mark mark p = option_map (marked p) (option_and_then (mark_after mark p.inner) (last_term p.last))

-- the terms that `}` and `]` end
abbrev pub proper : List Term → Term
proper all = t.List all None

abbrev pub of_map : Term → Term
of_map value = stand_in

abbrev pub brace_value : Open → Last → Option Term
brace_value (o.Terms b.Tuple items) last = option_map t.Tuple (all_terms items last)
brace_value o.Key l.Bracket = Some stand_in
brace_value o.Value last = option_map of_map (last_term last)
brace_value other last = None

abbrev pub bracket_value : Open → Last → Option Term
bracket_value (o.Terms b.List items) last = option_map proper (all_terms items last)
bracket_value (o.Terms b.Arguments items) last = option_map proper (all_terms items last)
bracket_value (o.Tail items) last = option_map (with_tail items) (last_term last)
bracket_value other last = None

-- the innermost of these constructs, and those around it
abbrev pub innermost : List Open → Open
innermost outer = unwrap_or (slice_get outer (length outer - 1)) o.Form

abbrev pub around : List Open → List Open
around outer = take (length outer - 1) outer

-- a construct that ends
abbrev pub left : Place → Term → Place
left p value = place (around p.outer) (innermost p.outer) (l.Term value)

abbrev pub move : Place → Token → Option Place
move p (k.Integer n) = after_term p (t.Int n)
move p k.Wide = after_term p stand_in
move p k.Float = after_term p stand_in
move p (k.Atom a) = after_term p (t.Atom a)
move p (k.Text codes) = after_text p codes
move p k.OpenTuple = after_open p (o.Terms b.Tuple [])
move p k.OpenList = after_open_list p
move p k.OpenMap = after_open p o.Key
move p k.CloseBrace = option_map (left p) (brace_value p.inner p.last)
move p k.CloseBracket = option_map (left p) (bracket_value p.inner p.last)
move p k.Comma = after_mark m.Comma p
move p k.Bar = after_mark m.Bar p
move p k.Arrow = after_mark m.Arrow p
move p k.Dot = None

-- the term that a dot ends
abbrev pub dot_term : Place → Option Term
dot_term p = elim p.inner [ o.Form ↦ last_term p.last | _ ↦ None ]
