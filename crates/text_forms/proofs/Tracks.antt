-- What a stand keeps of the tokens before it: how loose its place is, the form's line and the open brackets.
use Rattle.std.proofs.Common.{◌≡◌, ℕ, ◌+◌, ◌-◌, Bool, true, false, ◌&&◌, List, [], ◌∷◌, ◌++◌, length, Option, Some, refl, sym, ap, ◌∙◌, arith, length-append, if◌then◌else◌}
use Rattle.std.specs.Prelude.{option_and_then, option_map}
use Rattle.std.proofs.lemmas.Grind.{common_steps}
use Rattle.term_tree.specs.declared.term.Term as t
use Rattle.term_tree.specs.declared.term.Term.{Term}
use Rattle.text_tokens.specs.declared.token.Token.{Token}
use Rattle.text_tokens.specs.declared.token.Token.TheVariants as k
use Rattle.text_tokens.specs.Tokens.{Lined}
use Rattle.text_forms.specs.declared.form.Form.{Form}
use Rattle.text_forms.specs.declared.place.Brackets.TheVariants as b
use Rattle.text_forms.specs.declared.place.Mark.{Mark}
use Rattle.text_forms.specs.declared.place.Mark.TheVariants as m
use Rattle.text_forms.specs.declared.place.Open.{Open}
use Rattle.text_forms.specs.declared.place.Open.TheVariants as o
use Rattle.text_forms.specs.declared.place.Last.{Last}
use Rattle.text_forms.specs.declared.place.Last.TheVariants as l
use Rattle.text_forms.specs.declared.place.Looseness.{Looseness}
use Rattle.text_forms.specs.declared.place.Looseness.TheVariants as places
use Rattle.text_forms.specs.declared.place.Place.{Place}
use Rattle.text_forms.specs.declared.place.Stand.{Stand}
use Rattle.text_forms.specs.Spelling.{stand_in, first_line}
use Rattle.text_forms.specs.Places.{is_dot, is_brace, is_percent, is_comma, since_dot, begins_loosely, is_loose_after, opened, open_after, refused_itself, refused_after}
use Rattle.text_forms.specs.Moves.{wants_term, last_term, place, begun, left, marked, move, after_term, after_text, after_open, after_open_list, after_mark, mark_after, brace_value, bracket_value, around}
use Rattle.text_forms.specs.Steps.{is_loose, looseness_after, form_line, before, moved}
use Rattle.text_forms.proofs.Follow.{mapped, passed}

-- ---- one token more

pub since_more : (form ts : List Lined) (a : Lined) → since_dot form (ts ++ a ∷ []) ≡ (if is_dot a.token then [] else since_dot form ts ++ a ∷ [])
since_more form [] a = refl
since_more form (b ∷ ts) a = since_more (if is_dot b.token then [] else form ++ b ∷ []) ts a

pub open_more : (count : ℕ) (ts : List Lined) (a : Lined) → open_after count (ts ++ a ∷ []) ≡ opened (open_after count ts) a.token
open_more count [] a = refl
open_more count (b ∷ ts) a = open_more (opened count b.token) ts a

-- ---- looseness

-- after further tokens of a form
abbrev pub looseness_from : Looseness → List Lined → Looseness
looseness_from p [] = p
looseness_from p (a ∷ ts) = looseness_from (looseness_after p a.token) ts

abbrev pub looseness_of : List Lined → Looseness
looseness_of form = looseness_from places.Start form

looseness_more : (p : Looseness) (form : List Lined) (a : Lined) → looseness_from p (form ++ a ∷ []) ≡ looseness_after (looseness_from p form) a.token
looseness_more p [] a = refl
looseness_more p (b ∷ ts) a = looseness_more (looseness_after p b.token) ts a

stays_strict : (ts : List Lined) → is_loose (looseness_from places.Strict ts) ≡ false
stays_strict [] = refl
stays_strict (a ∷ ts) = stays_strict ts

stays_loose : (ts : List Lined) → is_loose (looseness_from places.Loose ts) ≡ true
stays_loose [] = refl
stays_loose (a ∷ ts) = stays_loose ts

third : (three : Bool) (ts : List Lined) → is_loose (looseness_from (if three then places.Loose else places.Strict) ts) ≡ three
third true ts = stays_loose ts
third false ts = stays_strict ts

second : (two : Bool) (c : Lined) (ts : List Lined) → is_loose (looseness_from (if two then places.Percent else places.Strict) (c ∷ ts)) ≡ two && is_comma c.token
second true c ts = third (is_comma c.token) ts
second false c ts = stays_strict ts

first : (one : Bool) (b c : Lined) (ts : List Lined) → is_loose (looseness_from (if one then places.Brace else places.Strict) (b ∷ c ∷ ts)) ≡ one && (is_percent b.token && is_comma c.token)
first true b c ts = second (is_percent b.token) c ts
first false b c ts = stays_strict ts

strict_if : (test : Bool) (p : Looseness) → is_loose p ≡ false → is_loose (if test then p else places.Strict) ≡ false
strict_if true p e = e
strict_if false p e = refl

one_of : (one : Bool) (b : Lined) → is_loose (looseness_after (if one then places.Brace else places.Strict) b.token) ≡ false
one_of true b = strict_if (is_percent b.token) places.Percent refl
one_of false b = refl

pub loose_of : (form : List Lined) → is_loose (looseness_of form) ≡ begins_loosely form
loose_of [] = refl
loose_of (a ∷ []) = strict_if (is_brace a.token) places.Brace refl
loose_of (a ∷ b ∷ []) = one_of (is_brace a.token) b
loose_of (a ∷ b ∷ c ∷ ts) = first (is_brace a.token) b c ts

-- whether the form has no token yet
abbrev pub is_start : Looseness → Bool
is_start places.Start = true
is_start other = false

pub line_kept : (p : Looseness) (line token_line : ℕ) → is_start p ≡ false → form_line p line token_line ≡ line
line_kept places.Start line token_line e = absurd (cc)
line_kept places.Brace line token_line e = refl
line_kept places.Percent line token_line e = refl
line_kept places.Loose line token_line e = refl
line_kept places.Strict line token_line e = refl

if_no_start : (test : Bool) (p : Looseness) → is_start p ≡ false → is_start (if test then p else places.Strict) ≡ false
if_no_start true p e = e
if_no_start false p e = refl

pub has_begun : (p : Looseness) (token : Token) → is_start (looseness_after p token) ≡ false
has_begun places.Start token = if_no_start (is_brace token) places.Brace refl
has_begun places.Brace token = if_no_start (is_percent token) places.Percent refl
has_begun places.Percent token = if_no_start (is_comma token) places.Loose refl
has_begun places.Loose token = refl
has_begun places.Strict token = refl

begun_from : (p : Looseness) (ts : List Lined) → is_start p ≡ false → is_start (looseness_from p ts) ≡ false
begun_from p [] e = e
begun_from p (a ∷ ts) e = begun_from (looseness_after p a.token) ts (has_begun p a.token)

pub begun_of : (a : Lined) (ts : List Lined) → is_start (looseness_of (a ∷ ts)) ≡ false
begun_of a ts = begun_from (looseness_after places.Start a.token) ts (has_begun places.Start a.token)

line_more : (form : List Lined) (a : Lined) → form_line (looseness_of form) (first_line form) a.line ≡ first_line (form ++ a ∷ [])
line_more [] a = refl
line_more (b ∷ ts) a = line_kept (looseness_of (b ∷ ts)) b.line a.line (begun_of b ts)

-- ---- open brackets

few : (outer : List Open) → length (around outer) ≡ length outer - 1
few outer = grind (arith, common_steps)

text_count : (outer : List Open) (inner : Open) (last : Last) (q : Place) (codes : List Term) → after_text (place outer inner last) codes ≡ Some q → length q.outer ≡ length outer
text_count outer inner (l.Text codes) q more e = let same : place outer inner (l.Text (codes ++ more)) ≡ q = cc in ap (λ r. length r.outer) (sym same)
text_count outer inner last q codes e =
    ap (λ r. length r.outer) (sym ((passed (wants_term (place outer inner last)) (place outer inner (l.Text codes)) q e).same))

term_count : (p q : Place) (term : Term) → after_term p term ≡ Some q → length q.outer ≡ length p.outer
term_count p q term e = ap (λ r. length r.outer) (sym ((passed (wants_term p) (place p.outer p.inner (l.Term term)) q e).same))

begun_count : (p q : Place) (new : Open) → begun p new ≡ q → length q.outer ≡ length p.outer + 1
begun_count p q new e = ap (λ r. length r.outer) (sym e) ∙ length-append p.outer (p.inner ∷ [])

open_count : (p q : Place) (new : Open) → after_open p new ≡ Some q → length q.outer ≡ length p.outer + 1
open_count p q new e = begun_count p q new ((passed (wants_term p) (begun p new) q e).same)

open_list_count : (outer : List Open) (inner : Open) (last : Last) (q : Place) → after_open_list (place outer inner last) ≡ Some q → length q.outer ≡ length outer + 1
open_list_count outer o.Arguments l.Mark q e = begun_count (place outer o.Arguments l.Mark) q (o.Terms b.Arguments []) cc
open_list_count outer o.Arguments last q e = absurd (cc)
open_list_count outer inner last q e = open_count (place outer inner last) q (o.Terms b.List []) e

mark_count : (mark : Mark) (p q : Place) → after_mark mark p ≡ Some q → length q.outer ≡ length p.outer
mark_count mark p q e = ap (λ r. length r.outer) (sym ((mapped (marked p) (option_and_then (mark_after mark p.inner) (last_term p.last)) q e).same))

left_count : (p q : Place) (found : Option Term) → option_map (left p) found ≡ Some q → length q.outer ≡ length p.outer - 1
left_count p q found e = ap (λ r. length r.outer) (sym ((mapped (left p) found q e).same)) ∙ few p.outer

move_count : (p q : Place) (token : Token) → move p token ≡ Some q → length q.outer ≡ opened (length p.outer) token
move_count p q (k.Integer n) e = term_count p q (t.Int n) e
move_count p q k.Wide e = term_count p q stand_in e
move_count p q k.Float e = term_count p q stand_in e
move_count p q (k.Atom a) e = term_count p q (t.Atom a) e
move_count p q (k.Text codes) e = text_count p.outer p.inner p.last q codes e
move_count p q k.OpenTuple e = open_count p q (o.Terms b.Tuple []) e
move_count p q k.OpenList e = open_list_count p.outer p.inner p.last q e
move_count p q k.OpenMap e = open_count p q o.Key e
move_count p q k.CloseBrace e = left_count p q (brace_value p.inner p.last) e
move_count p q k.CloseBracket e = left_count p q (bracket_value p.inner p.last) e
move_count p q k.Comma e = mark_count m.Comma p q e
move_count p q k.Bar e = mark_count m.Bar p q e
move_count p q k.Arrow e = mark_count m.Arrow p q e
move_count p q k.Dot e = absurd (cc)

-- ---- what a stand keeps

pub record Tracks (done : List Lined) (s : Stand) : Type 0 where
  pub loose : s.looseness ≡ looseness_of (since_dot [] done)
  pub line : s.line ≡ first_line (since_dot [] done)
  pub count : length s.place.outer ≡ open_after 0 done

pub tracks_refused : (done : List Lined) (s : Stand) (a : Lined) → Tracks done s → refused_itself (is_loose s.looseness) a.line (length s.place.outer) a.token ≡ refused_after done a
tracks_refused done s a tracks =
    ap (λ loose. refused_itself loose a.line (length s.place.outer) a.token) (ap is_loose tracks.loose ∙ loose_of (since_dot [] done))
    ∙ ap (λ count. refused_itself (is_loose_after done) a.line count a.token) tracks.count

-- a token that is no dot
pub tracks_moved : (done : List Lined) (s : Stand) (a : Lined) (q : Place) → is_dot a.token ≡ false → Tracks done s → move s.place a.token ≡ Some q → Tracks (done ++ a ∷ []) (moved s a q)
tracks_moved done s a q plain tracks e =
    let since : since_dot [] (done ++ a ∷ []) ≡ since_dot [] done ++ a ∷ [] = since_more [] done a ∙ ap (λ (dot : Bool). if dot then [] else since_dot [] done ++ a ∷ []) plain in
    record {
      loose = ap (λ p. looseness_after p a.token) tracks.loose ∙ sym (looseness_more places.Start (since_dot [] done) a) ∙ ap looseness_of (sym since);
      line = ap (λ p. form_line p s.line a.line) tracks.loose ∙ ap (λ n. form_line (looseness_of (since_dot [] done)) n a.line) tracks.line ∙ line_more (since_dot [] done) a ∙ ap first_line (sym since);
      count = move_count s.place q a.token e ∙ ap (λ n. opened n a.token) tracks.count ∙ sym (open_more 0 done a);
    }

-- a dot, outside all brackets
pub tracks_given : (done : List Lined) (s : Stand) (a : Lined) (forms : List Form) → a.token ≡ k.Dot → Tracks done s → s.place.outer ≡ [] → Tracks (done ++ a ∷ []) (before o.Form forms)
tracks_given done s a forms dot tracks out =
    let since : since_dot [] (done ++ a ∷ []) ≡ [] = since_more [] done a ∙ ap (λ token. if is_dot token then [] else since_dot [] done ++ a ∷ []) dot in
    let none : 0 ≡ open_after 0 done = sym (ap length out) ∙ tracks.count in
    record {
      loose = ap looseness_of (sym since);
      line = ap first_line (sym since);
      count = none ∙ ap (λ token. opened (open_after 0 done) token) (sym dot) ∙ sym (open_more 0 done a);
    }
