-- Where the tokens of a form, or of arguments, have led, and one token more.
use Rattle.std.proofs.Common.{◌≡◌, ℕ, Bool, true, false, ◌&&◌, List, [], ◌∷◌, ◌++◌, Option, Some, None, refl, sym, ap, ◌∙◌, subst, append_assoc, append-nil}
use Rattle.std.specs.Prelude.{option_and_then, option_map}
use Rattle.term_tree.specs.declared.term.Term as t
use Rattle.term_tree.specs.declared.term.Term.{Term}
use Rattle.text_tokens.specs.declared.token.Token.{Token}
use Rattle.text_tokens.specs.declared.token.Token.TheVariants as k
use Rattle.text_tokens.specs.Tokens.{Lined, at}
use Rattle.text_forms.specs.declared.place.Brackets.{Brackets}
use Rattle.text_forms.specs.declared.place.Brackets.TheVariants as b
use Rattle.text_forms.specs.declared.place.Mark.{Mark}
use Rattle.text_forms.specs.declared.place.Mark.TheVariants as m
use Rattle.text_forms.specs.declared.place.Open.{Open}
use Rattle.text_forms.specs.declared.place.Open.TheVariants as o
use Rattle.text_forms.specs.declared.place.Last.{Last}
use Rattle.text_forms.specs.declared.place.Last.TheVariants as l
use Rattle.text_forms.specs.declared.place.Place.{Place}
use Rattle.text_forms.specs.Spelling.{stand_in, with_tail, One, Strings, Terms, Pairs, Spells, integer, atom, wide, float, strings, empty_tuple, tuple, empty_list, list, tail, empty_map, map, one_string, more_strings, one_term, more_terms, one_pair, more_pairs, AreArguments, no_arguments, some_arguments}
use Rattle.text_forms.specs.Moves.{takes_terms, is_free, wants_term, last_term, all_terms, place, begun, left, marked, move, after_term, after_text, after_open, after_open_list, after_mark, mark_after, brace_value, bracket_value, proper, of_map, around, innermost}
use Rattle.text_forms.proofs.Follow.{Mapped, mapped, Chained, chained, Passed, passed, around-pushed, innermost-pushed}

-- by what a construct begins
pub data Family : Type 0 where
  OfForm : Family
  OfArguments : Family
  OfList : Family  -- the list of arguments
  By : Token → Family

abbrev pub bracket_family : Brackets → Family
bracket_family b.Tuple = By k.OpenTuple
bracket_family b.List = By k.OpenList
bracket_family b.Arguments = OfList

abbrev pub family : Open → Family
family o.Form = OfForm
family o.Arguments = OfArguments
family (o.Terms kind items) = bracket_family kind
family (o.Tail items) = By k.OpenList
family o.Key = By k.OpenMap
family o.Value = By k.OpenMap

-- what the tokens of a construct are, of which this term is the last
abbrev pub Content : Open → Term → List Lined → Type 0
Content o.Form term ts = Spells (One term) ts
Content o.Arguments term ts = (all : List Term) × (term ≡ t.List all None) × AreArguments all ts
Content (o.Terms kind items) term ts = Spells (Terms (items ++ term ∷ [])) ts
Content (o.Tail items) term ts = (line end : ℕ) → Spells (One (with_tail items term)) (at line k.OpenList ∷ (ts ++ at end k.CloseBracket ∷ []))
Content o.Key term ts = (line : ℕ) (value : Term) (us : List Lined) → Spells (One value) us → Spells Pairs ((ts ++ at line k.Arrow ∷ []) ++ us)
Content o.Value term ts = Spells Pairs ts

-- after these tokens of a construct, a term may come
abbrev pub Opens : Open → List Lined → Type 0
Opens inner ts = (term : Term) (us : List Lined) → Spells (One term) us → Content inner term (ts ++ us)

-- these tokens of a construct lead to what stands last in it
pub data Inside : Open → Last → List Lined → Type 0 where
  first : (kind : Brackets) → Inside (o.Terms kind []) l.Bracket []
  first_key : Inside o.Key l.Bracket []
  waits : (inner : Open) (ts : List Lined) → takes_terms inner ≡ true → Opens inner ts → Inside inner l.Mark ts
  has_term : (inner : Open) (ts : List Lined) (term : Term) → Content inner term ts → Inside inner (l.Term term) ts
  has_text : (inner : Open) (ts : List Lined) (codes : List Term) (us : List Lined) → Opens inner ts → Spells (Strings codes) us → Inside inner (l.Text codes) (ts ++ us)
  before_list : Inside o.Arguments l.Mark []

-- these tokens of a form, or of arguments, lead to the beginning of the innermost construct
pub data Led (arguments : Bool) : List Open → Family → List Lined → Type 0 where
  led_form : arguments ≡ false → Led arguments [] OfForm []
  led_arguments : arguments ≡ true → Led arguments [] OfArguments []
  led_list : (line : ℕ) → arguments ≡ true → Led arguments (o.Arguments ∷ []) OfList (at line k.OpenList ∷ [])
  deeper : (outer : List Open) (line : ℕ) (token : Token) (ts us : List Lined) → Led arguments (around outer) (family (innermost outer)) ts → Opens (innermost outer) us →
      Led arguments outer (By token) (ts ++ (us ++ at line token ∷ []))

pub record Here (arguments : Bool) (p : Place) (done : List Lined) : Type 0 where
  pub front : List Lined
  pub inside : List Lined
  pub whole : front ++ inside ≡ done
  pub led : Led arguments p.outer (family p.inner) front
  pub has : Inside p.inner p.last inside

-- ---- what stands in a construct

pub opens_of : (inner : Open) (last : Last) (ts : List Lined) → Inside inner last ts → is_free last && takes_terms inner ≡ true → Opens inner ts
opens_of _ _ _ (first kind) e = λ term us d. one_term term us d
opens_of _ _ _ first_key e = λ key us d line value vs f. one_pair line key value us vs d f
opens_of _ _ _ (waits inner ts takes opens) e = opens
opens_of _ _ _ (has_term inner ts term content) e = absurd (cc)
opens_of _ _ _ (has_text inner ts codes us opens d) e = absurd (cc)
opens_of _ _ _ before_list e = absurd (cc)

-- with the term that stands last
pub content_of : (inner : Open) (last : Last) (ts : List Lined) (term : Term) → Inside inner last ts → last_term last ≡ Some term → Content inner term ts
content_of _ _ _ term (first kind) e = absurd (cc)
content_of _ _ _ term first_key e = absurd (cc)
content_of _ _ _ term (waits inner ts takes opens) e = absurd (cc)
content_of _ _ _ term (has_term inner ts other content) e = let same : other ≡ term = cc in let P : Term → Type 0 = λ x. Content inner x ts in subst P same content
content_of _ _ _ term (has_text inner ts codes us opens d) e =
    let same : t.List codes None ≡ term = cc in
    let P : Term → Type 0 = λ x. Content inner x (ts ++ us) in
    subst P same (opens (t.List codes None) us (strings codes us d))
content_of _ _ _ term before_list e = absurd (cc)

-- ---- a token after which the construct goes on

goes_on : (arguments : Bool) (p : Place) (done : List Lined) (a : Lined) (inner : Open) (last : Last) → (h : Here arguments p done) → family inner ≡ family p.inner → Inside inner last (h.inside ++ a ∷ []) →
    Here arguments (place p.outer inner last) (done ++ a ∷ [])
goes_on arguments p done a inner last h same has =
    let P : Family → Type 0 = λ f. Led arguments p.outer f h.front in
    record {
      front = h.front;
      inside = h.inside ++ a ∷ [];
      whole = sym (append_assoc h.front h.inside (a ∷ [])) ∙ ap (λ ts. ts ++ a ∷ []) h.whole;
      led = subst P (sym same) h.led;
      has = has;
    }

term_on : (arguments : Bool) (p q : Place) (done : List Lined) (a : Lined) (term : Term) → Spells (One term) (a ∷ []) → Here arguments p done → after_term p term ≡ Some q → Here arguments q (done ++ a ∷ [])
term_on arguments p q done a term d h e =
    let test : Passed (wants_term p) (place p.outer p.inner (l.Term term)) q = passed (wants_term p) (place p.outer p.inner (l.Term term)) q e in
    let P : Place → Type 0 = λ r. Here arguments r (done ++ a ∷ []) in
    subst P test.same (goes_on arguments p done a p.inner (l.Term term) h refl
    (has_term p.inner (h.inside ++ a ∷ []) term (opens_of p.inner p.last h.inside h.has test.is term (a ∷ []) d)))

text_joins : (inner : Open) (codes more : List Term) (all : List Lined) (line : ℕ) → Inside inner (l.Text codes) all → Inside inner (l.Text (codes ++ more)) (all ++ at line (k.Text more) ∷ [])
text_joins _ _ more _ line (has_text inner ts codes us opens d) =
    let P : List Lined → Type 0 = λ all. Inside inner (l.Text (codes ++ more)) all in
    subst P (sym (append_assoc ts us (at line (k.Text more) ∷ []))) (has_text inner ts (codes ++ more) (us ++ at line (k.Text more) ∷ []) opens (more_strings line codes more us d))

text_on : (arguments : Bool) (outer : List Open) (inner : Open) (last : Last) (q : Place) (done : List Lined) (line : ℕ) (codes : List Term) → Here arguments (place outer inner last) done →
    after_text (place outer inner last) codes ≡ Some q → Here arguments q (done ++ at line (k.Text codes) ∷ [])
text_on arguments outer inner (l.Text before) q done line codes h e =
    let same : place outer inner (l.Text (before ++ codes)) ≡ q = cc in
    let P : Place → Type 0 = λ r. Here arguments r (done ++ at line (k.Text codes) ∷ []) in
    subst P same (goes_on arguments (place outer inner (l.Text before)) done (at line (k.Text codes)) inner (l.Text (before ++ codes)) h refl (text_joins inner before codes h.inside line h.has))
text_on arguments outer inner last q done line codes h e =
    let test : Passed (wants_term (place outer inner last)) (place outer inner (l.Text codes)) q = passed (wants_term (place outer inner last)) (place outer inner (l.Text codes)) q e in
    let P : Place → Type 0 = λ r. Here arguments r (done ++ at line (k.Text codes) ∷ []) in
    subst P test.same (goes_on arguments (place outer inner last) done (at line (k.Text codes)) inner (l.Text codes) h refl
    (has_text inner h.inside codes (at line (k.Text codes) ∷ []) (opens_of inner last h.inside h.has test.is) (one_string line codes)))

-- ---- a token that opens a bracket

pushed : (arguments : Bool) (p : Place) (done : List Lined) (line : ℕ) (token : Token) (new : Open) (h : Here arguments p done) → family new ≡ By token → Inside new l.Bracket [] → Opens p.inner h.inside →
    Here arguments (begun p new) (done ++ at line token ∷ [])
pushed arguments p done line token new h by starts opens =
    let outer : List Open = p.outer ++ p.inner ∷ [] in
    let P : List Open → Type 0 = λ os. Led arguments os (family (innermost outer)) h.front in
    let Q : Open → Type 0 = λ i. Led arguments p.outer (family i) h.front in
    let R : Open → Type 0 = λ i. Opens i h.inside in
    let S : Family → Type 0 = λ f. Led arguments outer f (h.front ++ (h.inside ++ at line token ∷ [])) in
    record {
      front = h.front ++ (h.inside ++ at line token ∷ []);
      inside = [];
      whole = append-nil (h.front ++ (h.inside ++ at line token ∷ [])) ∙ sym (append_assoc h.front h.inside (at line token ∷ [])) ∙ ap (λ ts. ts ++ at line token ∷ []) h.whole;
      led = subst S (sym by) (deeper outer line token h.front h.inside
          (subst P (sym (around-pushed p.outer p.inner)) (subst Q (sym (innermost-pushed p.outer p.inner)) h.led)) (subst R (sym (innermost-pushed p.outer p.inner)) opens));
      has = starts;
    }

open_on : (arguments : Bool) (p q : Place) (done : List Lined) (line : ℕ) (token : Token) (new : Open) → family new ≡ By token → Inside new l.Bracket [] → Here arguments p done → after_open p new ≡ Some q →
    Here arguments q (done ++ at line token ∷ [])
open_on arguments p q done line token new by starts h e =
    let test : Passed (wants_term p) (begun p new) q = passed (wants_term p) (begun p new) q e in
    let P : Place → Type 0 = λ r. Here arguments r (done ++ at line token ∷ []) in
    subst P test.same (pushed arguments p done line token new h by starts (opens_of p.inner p.last h.inside h.has test.is))

-- the bracket of the arguments
nothing_before : (ts : List Lined) → Inside o.Arguments l.Mark ts → ts ≡ []
nothing_before _ (waits _ ts takes opens) = absurd (cc)
nothing_before _ before_list = refl

first_on : (arguments : Bool) (outer : List Open) (family : Family) (front inside done : List Lined) (line : ℕ) → Led arguments outer family front → family ≡ OfArguments → front ++ inside ≡ done → inside ≡ [] →
    Here arguments (begun (place outer o.Arguments l.Mark) (o.Terms b.Arguments [])) (done ++ at line k.OpenList ∷ [])
first_on arguments _ _ _ inside done line (led_form e) same whole none = absurd (cc)
first_on arguments _ _ _ inside done line (led_list other e) same whole none = absurd (cc)
first_on arguments _ _ _ inside done line (deeper outer other token ts us led opens) same whole none = absurd (cc)
first_on arguments _ _ _ inside done line (led_arguments e) same whole none = record {
  front = at line k.OpenList ∷ [];
  inside = [];
  whole = ap (λ ts. ts ++ at line k.OpenList ∷ []) (sym none ∙ whole);
  led = led_list line e;
  has = first b.Arguments;
}

open_list_on : (arguments : Bool) (outer : List Open) (inner : Open) (last : Last) (q : Place) (done : List Lined) (line : ℕ) → Here arguments (place outer inner last) done →
    after_open_list (place outer inner last) ≡ Some q → Here arguments q (done ++ at line k.OpenList ∷ [])
open_list_on arguments outer o.Arguments l.Mark q done line h e =
    let same : begun (place outer o.Arguments l.Mark) (o.Terms b.Arguments []) ≡ q = cc in
    let P : Place → Type 0 = λ r. Here arguments r (done ++ at line k.OpenList ∷ []) in
    subst P same (first_on arguments outer OfArguments h.front h.inside done line h.led refl h.whole (nothing_before h.inside h.has))
open_list_on arguments outer o.Arguments last q done line h e = absurd (cc)
open_list_on arguments outer inner last q done line h e = open_on arguments (place outer inner last) q done line k.OpenList (o.Terms b.List []) refl (first b.List) h e

-- ---- marks

-- what a mark after a term makes of a construct
abbrev Goes : Open → Open → List Lined → Type 0
Goes inner next ts = Opens next ts × ((family next ≡ family inner) × (takes_terms next ≡ true))

abbrev token_of : Mark → Token
token_of m.Comma = k.Comma
token_of m.Bar = k.Bar
token_of m.Arrow = k.Arrow

mark_goes : (mark : Mark) (inner next : Open) (term : Term) (all : List Lined) (line : ℕ) → mark_after mark inner term ≡ Some next → Content inner term all → Goes inner next (all ++ at line (token_of mark) ∷ [])
mark_goes m.Comma (o.Terms kind items) next term all line e content =
    let P : Open → Type 0 = λ i. Goes (o.Terms kind items) i (all ++ at line k.Comma ∷ []) in
    let same : o.Terms kind (items ++ term ∷ []) ≡ next = cc in
    subst P same ((λ more us d. more_terms line (items ++ term ∷ []) all more us content d), (refl, refl))
mark_goes m.Comma o.Value next term all line e content =
    let P : Open → Type 0 = λ i. Goes o.Value i (all ++ at line k.Comma ∷ []) in
    let Q : List Lined → Type 0 = λ ts. Spells Pairs ts in
    let same : o.Key ≡ next = cc in
    let joins : (us vs : List Lined) (n : ℕ) → (all ++ at line k.Comma ∷ []) ++ ((us ++ at n k.Arrow ∷ []) ++ vs) ≡ (((all ++ at line k.Comma ∷ []) ++ us) ++ at n k.Arrow ∷ []) ++ vs = λ us vs n. simp append_assoc in
    subst P same ((λ key us d n value vs f. subst Q (joins us vs n) (more_pairs line n key value all us vs content d f)), (refl, refl))
mark_goes m.Bar (o.Terms b.List items) next term all line e content =
    let P : Open → Type 0 = λ i. Goes (o.Terms b.List items) i (all ++ at line k.Bar ∷ []) in
    let same : o.Tail (items ++ term ∷ []) ≡ next = cc in
    subst P same ((λ last us d n end. tail n line end (items ++ term ∷ []) all last us content d), (refl, refl))
mark_goes m.Arrow o.Key next term all line e content =
    let P : Open → Type 0 = λ i. Goes o.Key i (all ++ at line k.Arrow ∷ []) in
    let same : o.Value ≡ next = cc in
    subst P same ((λ value us d. content line value us d), (refl, refl))
mark_goes mark inner next term all line e content = absurd (cc)

mark_on : (mark : Mark) (arguments : Bool) (p q : Place) (done : List Lined) (line : ℕ) → Here arguments p done → after_mark mark p ≡ Some q → Here arguments q (done ++ at line (token_of mark) ∷ [])
mark_on mark arguments p q done line h e =
    let m : Mapped (marked p) (option_and_then (mark_after mark p.inner) (last_term p.last)) q = mapped (marked p) (option_and_then (mark_after mark p.inner) (last_term p.last)) q e in
    let c : Chained (mark_after mark p.inner) (last_term p.last) m.value = chained (mark_after mark p.inner) (last_term p.last) m.value m.is in
    let r = mark_goes mark p.inner m.value c.value h.inside line c.same (content_of p.inner p.last h.inside c.value h.has c.is) in
    let P : Place → Type 0 = λ r. Here arguments r (done ++ at line (token_of mark) ∷ []) in
    subst P m.same (goes_on arguments p done (at line (token_of mark)) m.value l.Mark h r.1.0 (waits m.value (h.inside ++ at line (token_of mark) ∷ []) r.1.1 r.0))

-- ---- a token that closes a bracket

-- what the tokens inside a construct, and one that closes it, are
abbrev pub Closes : Family → List Lined → Lined → Term → Type 0
Closes (By token) inside a value = (line : ℕ) → Spells (One value) (at line token ∷ (inside ++ a ∷ []))
Closes OfList inside a value = (all : List Term) × (value ≡ t.List all None) × ((line : ℕ) → AreArguments all (at line k.OpenList ∷ (inside ++ a ∷ [])))
Closes other inside a value = ⊥

left_on : (arguments : Bool) (outer : List Open) (f : Family) (front inside : List Lined) (a : Lined) (value : Term) → Led arguments outer f front → Closes f inside a value →
    Here arguments (place (around outer) (innermost outer) (l.Term value)) ((front ++ inside) ++ a ∷ [])
left_on arguments _ _ _ inside a value (led_form e) closes = absurd closes
left_on arguments _ _ _ inside a value (led_arguments e) closes = absurd closes
left_on arguments _ _ _ inside a value (led_list line e) closes =
    let ts : List Lined = at line k.OpenList ∷ (inside ++ a ∷ []) in
    record { front = []; inside = ts; whole = refl; led = led_arguments e; has = has_term o.Arguments ts value (closes.0, closes.1, closes.2 line) }
left_on arguments _ _ _ inside a value (deeper outer line token ts us led opens) closes =
    let more : List Lined = at line token ∷ (inside ++ a ∷ []) in
    record { front = ts; inside = us ++ more; whole = simp append_assoc; led = led; has = has_term (innermost outer) (us ++ more) value (opens value more (closes line)) }

-- what all terms in brackets are
pub data AllIn (kind : Brackets) : List Term → List Lined → Type 0 where
  nothing : AllIn kind [] []
  some : (all : List Term) (ts : List Lined) → Spells (Terms all) ts → AllIn kind all ts

ended_by : (kind : Brackets) (items : List Term) (last : Last) (term : Term) (all : List Term) (ts : List Lined) → Inside (o.Terms kind items) last ts → last_term last ≡ Some term → items ++ term ∷ [] ≡ all → AllIn kind all ts
ended_by kind items last term all ts has is same =
    let P : List Term → Type 0 = λ xs. AllIn kind xs ts in
    subst P same (some (items ++ term ∷ []) ts (content_of (o.Terms kind items) last ts term has is))

all_in : (kind : Brackets) (items : List Term) (last : Last) (all : List Term) (ts : List Lined) → Inside (o.Terms kind items) last ts → all_terms items last ≡ Some all → AllIn kind all ts
all_in kind items l.Bracket all ts has e = go items ts has e
  where
    go : (items : List Term) (ts : List Lined) → Inside (o.Terms kind items) l.Bracket ts → Some items ≡ Some all → AllIn kind all ts
    go _ _ (first _) e = let same : [] ≡ all = cc in let P : List Term → Type 0 = λ is. AllIn kind is [] in subst P same nothing
all_in kind items l.Mark all ts has e = absurd (cc)
all_in kind items (l.Term term) all ts has e = ended_by kind items (l.Term term) term all ts has refl cc
all_in kind items (l.Text codes) all ts has e = ended_by kind items (l.Text codes) (t.List codes None) all ts has refl cc

pub tuple_closes : (end : ℕ) (all : List Term) (ts : List Lined) → AllIn b.Tuple all ts → (line : ℕ) → Spells (One (t.Tuple all)) (at line k.OpenTuple ∷ (ts ++ at end k.CloseBrace ∷ []))
tuple_closes end _ _ nothing line = empty_tuple line end
tuple_closes end _ _ (some all ts d) line = tuple line end all ts d

pub list_closes : (end : ℕ) (all : List Term) (ts : List Lined) → AllIn b.List all ts → (line : ℕ) → Spells (One (t.List all None)) (at line k.OpenList ∷ (ts ++ at end k.CloseBracket ∷ []))
list_closes end _ _ nothing line = empty_list line end
list_closes end _ _ (some all ts d) line = list line end all ts d

arguments_close : (end : ℕ) (all : List Term) (ts : List Lined) → AllIn b.Arguments all ts → (line : ℕ) → AreArguments all (at line k.OpenList ∷ (ts ++ at end k.CloseBracket ∷ []))
arguments_close end _ _ nothing line = no_arguments line end
arguments_close end _ _ (some all ts d) line = some_arguments line end all ts d

brace_closes : (inner : Open) (last : Last) (inside : List Lined) (end : ℕ) (value : Term) → Inside inner last inside → brace_value inner last ≡ Some value → Closes (family inner) inside (at end k.CloseBrace) value
brace_closes (o.Terms b.Tuple items) last inside end value has e =
    let m : Mapped t.Tuple (all_terms items last) value = mapped t.Tuple (all_terms items last) value e in
    let P : Term → Type 0 = λ x. (line : ℕ) → Spells (One x) (at line k.OpenTuple ∷ (inside ++ at end k.CloseBrace ∷ [])) in
    subst P m.same (tuple_closes end m.value inside (all_in b.Tuple items last m.value inside has m.is))
brace_closes o.Key l.Bracket inside end value has e = go inside has
  where
    go : (ts : List Lined) → Inside o.Key l.Bracket ts → (line : ℕ) → Spells (One value) (at line k.OpenMap ∷ (ts ++ at end k.CloseBrace ∷ []))
    go _ first_key = let same : stand_in ≡ value = cc in let P : Term → Type 0 = λ x. (line : ℕ) → Spells (One x) (at line k.OpenMap ∷ at end k.CloseBrace ∷ []) in subst P same (λ line. empty_map line end)
brace_closes o.Value last inside end value has e =
    let m : Mapped of_map (last_term last) value = mapped of_map (last_term last) value e in
    let P : Term → Type 0 = λ x. (line : ℕ) → Spells (One x) (at line k.OpenMap ∷ (inside ++ at end k.CloseBrace ∷ [])) in
    subst P m.same (λ line. map line end inside (content_of o.Value last inside m.value has m.is))
brace_closes other last inside end value has e = absurd (cc)

bracket_closes : (inner : Open) (last : Last) (inside : List Lined) (end : ℕ) (value : Term) → Inside inner last inside → bracket_value inner last ≡ Some value → Closes (family inner) inside (at end k.CloseBracket) value
bracket_closes (o.Terms b.List items) last inside end value has e =
    let m : Mapped proper (all_terms items last) value = mapped proper (all_terms items last) value e in
    let P : Term → Type 0 = λ x. (line : ℕ) → Spells (One x) (at line k.OpenList ∷ (inside ++ at end k.CloseBracket ∷ [])) in
    subst P m.same (list_closes end m.value inside (all_in b.List items last m.value inside has m.is))
bracket_closes (o.Terms b.Arguments items) last inside end value has e =
    let m : Mapped proper (all_terms items last) value = mapped proper (all_terms items last) value e in
    (m.value, sym m.same, arguments_close end m.value inside (all_in b.Arguments items last m.value inside has m.is))
bracket_closes (o.Tail items) last inside end value has e =
    let m : Mapped (with_tail items) (last_term last) value = mapped (with_tail items) (last_term last) value e in
    let P : Term → Type 0 = λ x. (line : ℕ) → Spells (One x) (at line k.OpenList ∷ (inside ++ at end k.CloseBracket ∷ [])) in
    subst P m.same (λ line. content_of (o.Tail items) last inside m.value has m.is line end)
bracket_closes other last inside end value has e = absurd (cc)

close_on : (arguments : Bool) (p q : Place) (done : List Lined) (a : Lined) (found : Option Term) → ((value : Term) (inside : List Lined) → Inside p.inner p.last inside → found ≡ Some value → Closes (family p.inner) inside a value) →
    Here arguments p done → option_map (left p) found ≡ Some q → Here arguments q (done ++ a ∷ [])
close_on arguments p q done a found closes h e =
    let m : Mapped (left p) found q = mapped (left p) found q e in
    let P : Place → Type 0 = λ r. Here arguments r (done ++ a ∷ []) in
    let Q : List Lined → Type 0 = λ ts. Here arguments (left p m.value) (ts ++ a ∷ []) in
    subst P m.same (subst Q h.whole (left_on arguments p.outer (family p.inner) h.front h.inside a m.value h.led (closes m.value h.inside h.has m.is)))

-- one token more
pub here_on : (arguments : Bool) (p q : Place) (done : List Lined) (line : ℕ) (token : Token) → Here arguments p done → move p token ≡ Some q → Here arguments q (done ++ at line token ∷ [])
here_on arguments p q done line (k.Integer n) h e = term_on arguments p q done (at line (k.Integer n)) (t.Int n) (integer line n) h e
here_on arguments p q done line k.Wide h e = term_on arguments p q done (at line k.Wide) stand_in (wide line) h e
here_on arguments p q done line k.Float h e = term_on arguments p q done (at line k.Float) stand_in (float line) h e
here_on arguments p q done line (k.Atom a) h e = term_on arguments p q done (at line (k.Atom a)) (t.Atom a) (atom line a) h e
here_on arguments p q done line (k.Text codes) h e = text_on arguments p.outer p.inner p.last q done line codes h e
here_on arguments p q done line k.OpenTuple h e = open_on arguments p q done line k.OpenTuple (o.Terms b.Tuple []) refl (first b.Tuple) h e
here_on arguments p q done line k.OpenList h e = open_list_on arguments p.outer p.inner p.last q done line h e
here_on arguments p q done line k.OpenMap h e = open_on arguments p q done line k.OpenMap o.Key refl first_key h e
here_on arguments p q done line k.CloseBrace h e =
    close_on arguments p q done (at line k.CloseBrace) (brace_value p.inner p.last) (λ value inside has is. brace_closes p.inner p.last inside line value has is) h e
here_on arguments p q done line k.CloseBracket h e =
    close_on arguments p q done (at line k.CloseBracket) (bracket_value p.inner p.last) (λ value inside has is. bracket_closes p.inner p.last inside line value has is) h e
here_on arguments p q done line k.Comma h e = mark_on m.Comma arguments p q done line h e
here_on arguments p q done line k.Bar h e = mark_on m.Bar arguments p q done line h e
here_on arguments p q done line k.Arrow h e = mark_on m.Arrow arguments p q done line h e
here_on arguments p q done line k.Dot h e = absurd (cc)
