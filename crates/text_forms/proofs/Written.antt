-- What is written as a phrase leads to it.
use Rattle.std.proofs.Common.{◌≡◌, ℕ, true, ◌&&◌, List, [], ◌∷◌, ◌++◌, Some, None, refl, ap, ◌∙◌, if◌then◌else◌}
use Rattle.std.specs.Prelude.{option_and_then, option_map}
use Rattle.term_tree.specs.declared.term.Term as t
use Rattle.term_tree.specs.declared.term.Term.{Term}
use Rattle.text_tokens.specs.declared.token.Token.TheVariants as k
use Rattle.text_tokens.specs.Tokens.{Lined, at}
use Rattle.text_forms.specs.declared.place.Brackets.{Brackets}
use Rattle.text_forms.specs.declared.place.Brackets.TheVariants as b
use Rattle.text_forms.specs.declared.place.Mark.{Mark}
use Rattle.text_forms.specs.declared.place.Mark.TheVariants as m
use Rattle.text_forms.specs.declared.place.Open.{Open}
use Rattle.text_forms.specs.declared.place.Open.TheVariants as o
use Rattle.text_forms.specs.declared.place.Last.{Last}
use Rattle.text_forms.specs.declared.place.Last.TheVariants as l
use Rattle.text_forms.specs.declared.place.Place.{Place}
use Rattle.text_forms.specs.Spelling.{stand_in, with_tail, Phrase, One, Strings, Terms, Pairs, Spells, integer, atom, wide, float, strings, empty_tuple, tuple, empty_list, list, tail, empty_map, map, one_string, more_strings, one_term, more_terms, one_pair, more_pairs}
use Rattle.text_forms.specs.Moves.{takes_terms, is_free, last_term, all_terms, place, begun, left, marked, move, mark_after, proper, of_map}
use Rattle.text_forms.proofs.Follow.{moves, goes_from, then_follow, one_follows, first_follows, left-pushed}

pub wanted : {A : Type 0} (inner : Open) (last : Last) (a : A) → takes_terms inner ≡ true → is_free last ≡ true → (if is_free last && takes_terms inner then Some a else None) ≡ Some a
wanted inner last a takes free = rw (free, takes)

-- the term that stands last ends its brackets
pub all_last : (items : List Term) (last : Last) (term : Term) → last_term last ≡ Some term → all_terms items last ≡ Some (items ++ term ∷ [])
all_last items l.Bracket term e = absurd (cc)
all_last items l.Mark term e = absurd (cc)
all_last items (l.Term other) term e = let same : other ≡ term = cc in rw same refl
all_last items (l.Text codes) term e = let same : t.List codes None ≡ term = cc in rw same refl

-- ---- goals

pub record ToTerm (outer : List Open) (inner : Open) (last : Last) (ts : List Lined) (term : Term) : Type 0 where
  pub end : Last
  pub is : last_term end ≡ Some term
  pub goes : moves (place outer inner last) ts ≡ Some (place outer inner end)

pub record ToTerms (outer : List Open) (kind : Brackets) (ts : List Lined) (all : List Term) : Type 0 where
  pub items : List Term
  pub end : Last
  pub term : Term
  pub is : last_term end ≡ Some term
  pub whole : items ++ term ∷ [] ≡ all
  pub goes : moves (place outer (o.Terms kind []) l.Bracket) ts ≡ Some (place outer (o.Terms kind items) end)

pub record ToPairs (outer : List Open) (ts : List Lined) : Type 0 where
  pub end : Last
  pub value : Term
  pub is : last_term end ≡ Some value
  pub goes : moves (place outer o.Key l.Bracket) ts ≡ Some (place outer o.Value end)

abbrev pub Goal : Phrase → List Lined → Type 0
Goal (One term) ts = (outer : List Open) (inner : Open) (last : Last) → takes_terms inner ≡ true → is_free last ≡ true → ToTerm outer inner last ts term
Goal (Strings codes) ts = (outer : List Open) (inner : Open) (last : Last) → takes_terms inner ≡ true → is_free last ≡ true →
    moves (place outer inner last) ts ≡ Some (place outer inner (l.Text codes))
Goal (Terms all) ts = (outer : List Open) (kind : Brackets) → ToTerms outer kind ts all
Goal Pairs ts = (outer : List Open) → ToPairs outer ts

-- ---- one token

token_goes : (a : Lined) (term : Term) → ((p : Place) → move p a.token ≡ (if is_free p.last && takes_terms p.inner then Some (place p.outer p.inner (l.Term term)) else None)) → Goal (One term) (a ∷ [])
token_goes a term e outer inner last takes free = record {
  end = l.Term term;
  is = refl;
  goes = one_follows goes_from (place outer inner last) (place outer inner (l.Term term)) a (e (place outer inner last) ∙ wanted inner last (place outer inner (l.Term term)) takes free);
}

string_goes : (line : ℕ) (codes : List Term) → Goal (Strings codes) (at line (k.Text codes) ∷ [])
string_goes line codes outer inner last takes free = one_follows goes_from (place outer inner last) (place outer inner (l.Text codes)) (at line (k.Text codes)) (go last free)
  where
    go : (last : Last) → is_free last ≡ true → move (place outer inner last) (k.Text codes) ≡ Some (place outer inner (l.Text codes))
    go l.Bracket free = wanted inner l.Bracket (place outer inner (l.Text codes)) takes free
    go l.Mark free = wanted inner l.Mark (place outer inner (l.Text codes)) takes free
    go (l.Term term) free = absurd (cc)
    go (l.Text before) free = absurd (cc)

strings_go : (line : ℕ) (codes more : List Term) (ts : List Lined) → Goal (Strings codes) ts → Goal (Strings (codes ++ more)) (ts ++ at line (k.Text more) ∷ [])
strings_go line codes more ts ih outer inner last takes free =
    then_follow goes_from (place outer inner last) (place outer inner (l.Text codes)) (place outer inner (l.Text (codes ++ more))) ts (at line (k.Text more) ∷ [])
    (ih outer inner last takes free) refl

-- a mark after a term
mark_goes : (mark : Mark) (a : Lined) → ((p : Place) → move p a.token ≡ option_map (marked p) (option_and_then (mark_after mark p.inner) (last_term p.last))) →
    (outer : List Open) (inner next : Open) (last : Last) (term : Term) → last_term last ≡ Some term → mark_after mark inner term ≡ Some next →
    moves (place outer inner last) (a ∷ []) ≡ Some (place outer next l.Mark)
mark_goes mark a e outer inner next last term is goes =
    one_follows goes_from (place outer inner last) (place outer next l.Mark) a
    (e (place outer inner last) ∙ ap (λ found. option_map (marked (place outer inner last)) (option_and_then (mark_after mark inner) found)) is ∙ ap (option_map (marked (place outer inner last))) goes)

comma_goes : (line : ℕ) (outer : List Open) (inner next : Open) (last : Last) (term : Term) → last_term last ≡ Some term → mark_after m.Comma inner term ≡ Some next →
    moves (place outer inner last) (at line k.Comma ∷ []) ≡ Some (place outer next l.Mark)
comma_goes line = mark_goes m.Comma (at line k.Comma) (λ p. refl)

arrow_goes : (line : ℕ) (outer : List Open) (last : Last) (key : Term) → last_term last ≡ Some key → moves (place outer o.Key last) (at line k.Arrow ∷ []) ≡ Some (place outer o.Value l.Mark)
arrow_goes line outer last key is = mark_goes m.Arrow (at line k.Arrow) (λ p. refl) outer o.Key o.Value last key is refl

-- an opening bracket
list_opens : (p : Place) → takes_terms p.inner ≡ true → is_free p.last ≡ true → move p k.OpenList ≡ Some (begun p (o.Terms b.List []))
list_opens p takes free = go p.inner takes
  where
    go : (inner : Open) → takes_terms inner ≡ true → move (place p.outer inner p.last) k.OpenList ≡ Some (begun (place p.outer inner p.last) (o.Terms b.List []))
    go o.Arguments takes = absurd (cc)
    go other takes = wanted other p.last (begun (place p.outer other p.last) (o.Terms b.List [])) takes free

-- brackets with tokens in them: they lead from the bracket to a place where the closing one ends them
bracket_goes : (a end : Lined) (new : Open) (ts : List Lined) (value : Term) (outer : List Open) (inner : Open) (last : Last) →
    ((p : Place) → takes_terms p.inner ≡ true → is_free p.last ≡ true → move p a.token ≡ Some (begun p new)) →
    takes_terms inner ≡ true → is_free last ≡ true → (into : Open) (stands : Last) →
    moves (place (outer ++ inner ∷ []) new l.Bracket) ts ≡ Some (place (outer ++ inner ∷ []) into stands) →
    move (place (outer ++ inner ∷ []) into stands) end.token ≡ Some (left (place (outer ++ inner ∷ []) into stands) value) →
    ToTerm outer inner last (a ∷ (ts ++ end ∷ [])) value
bracket_goes a end new ts value outer inner last opens takes free into stands inside closes =
    let p : Place = place (outer ++ inner ∷ []) into stands in
    record {
      end = l.Term value;
      is = refl;
      goes = first_follows goes_from (place outer inner last) (begun (place outer inner last) new) (place outer inner (l.Term value)) a (ts ++ end ∷ [])
          (opens (place outer inner last) takes free)
          (then_follow goes_from (begun (place outer inner last) new) p (place outer inner (l.Term value)) ts (end ∷ []) inside
          (one_follows goes_from p (place outer inner (l.Term value)) end (closes ∙ ap Some (left-pushed outer inner into stands value))));
    }

-- brackets with terms in them
terms_go : (a end : Lined) (kind : Brackets) (all : List Term) (ts : List Lined) (value : Term) → Goal (Terms all) ts →
    ((p : Place) → takes_terms p.inner ≡ true → is_free p.last ≡ true → move p a.token ≡ Some (begun p (o.Terms kind []))) →
    ((outer : List Open) (items : List Term) (last : Last) → all_terms items last ≡ Some all →
    move (place outer (o.Terms kind items) last) end.token ≡ Some (left (place outer (o.Terms kind items) last) value)) →
    Goal (One value) (a ∷ (ts ++ end ∷ []))
terms_go a end kind all ts value ih opens closes outer inner last takes free =
    let r : ToTerms (outer ++ inner ∷ []) kind ts all = ih (outer ++ inner ∷ []) kind in
    bracket_goes a end (o.Terms kind []) ts value outer inner last opens takes free (o.Terms kind r.items) r.end r.goes
    (closes (outer ++ inner ∷ []) r.items r.end (all_last r.items r.end r.term r.is ∙ ap Some r.whole))

tail_goes : (line bar end : ℕ) (all : List Term) (ts : List Lined) (behind : Term) (us : List Lined) → Goal (Terms all) ts → Goal (One behind) us →
    Goal (One (with_tail all behind)) (at line k.OpenList ∷ (((ts ++ at bar k.Bar ∷ []) ++ us) ++ at end k.CloseBracket ∷ []))
tail_goes line bar end all ts behind us ih more outer inner last takes free =
    let os : List Open = outer ++ inner ∷ [] in
    let r : ToTerms os b.List ts all = ih os b.List in
    let q : ToTerm os (o.Tail all) l.Mark us behind = more os (o.Tail all) l.Mark refl refl in
    let mark : moves (place os (o.Terms b.List r.items) r.end) (at bar k.Bar ∷ []) ≡ Some (place os (o.Tail all) l.Mark) =
    mark_goes m.Bar (at bar k.Bar) (λ p. refl) os (o.Terms b.List r.items) (o.Tail all) r.end r.term r.is (ap (λ is. Some (o.Tail is)) r.whole) in
    bracket_goes (at line k.OpenList) (at end k.CloseBracket) (o.Terms b.List []) ((ts ++ at bar k.Bar ∷ []) ++ us) (with_tail all behind) outer inner last list_opens takes free (o.Tail all) q.end
    (then_follow goes_from (place os (o.Terms b.List []) l.Bracket) (place os (o.Tail all) l.Mark) (place os (o.Tail all) q.end) (ts ++ at bar k.Bar ∷ []) us
    (then_follow goes_from (place os (o.Terms b.List []) l.Bracket) (place os (o.Terms b.List r.items) r.end) (place os (o.Tail all) l.Mark) ts (at bar k.Bar ∷ []) r.goes mark) q.goes)
    (ap (λ found. option_map (left (place os (o.Tail all) q.end)) (option_map (with_tail all) found)) q.is)

-- terms between commas, and pairs
more_terms_go : (line : ℕ) (all : List Term) (ts : List Lined) (term : Term) (us : List Lined) → Goal (Terms all) ts → Goal (One term) us → Goal (Terms (all ++ term ∷ [])) ((ts ++ at line k.Comma ∷ []) ++ us)
more_terms_go line all ts term us ih one outer kind =
    let r : ToTerms outer kind ts all = ih outer kind in
    let q : ToTerm outer (o.Terms kind all) l.Mark us term = one outer (o.Terms kind all) l.Mark refl refl in
    let mark : moves (place outer (o.Terms kind r.items) r.end) (at line k.Comma ∷ []) ≡ Some (place outer (o.Terms kind all) l.Mark) =
    comma_goes line outer (o.Terms kind r.items) (o.Terms kind all) r.end r.term r.is (ap (λ is. Some (o.Terms kind is)) r.whole) in
    record {
      items = all;
      end = q.end;
      term = term;
      is = q.is;
      whole = refl;
      goes = then_follow goes_from (place outer (o.Terms kind []) l.Bracket) (place outer (o.Terms kind all) l.Mark) (place outer (o.Terms kind all) q.end) (ts ++ at line k.Comma ∷ []) us
          (then_follow goes_from (place outer (o.Terms kind []) l.Bracket) (place outer (o.Terms kind r.items) r.end) (place outer (o.Terms kind all) l.Mark) ts (at line k.Comma ∷ []) r.goes mark) q.goes;
    }

pair_goes : (line : ℕ) (key value : Term) (us vs : List Lined) (outer : List Open) (last : Last) → is_free last ≡ true → Goal (One key) us → Goal (One value) vs →
    (end : Last) × (last_term end ≡ Some value) × (moves (place outer o.Key last) ((us ++ at line k.Arrow ∷ []) ++ vs) ≡ Some (place outer o.Value end))
pair_goes line key value us vs outer last free one other =
    let r : ToTerm outer o.Key last us key = one outer o.Key last refl free in
    let q : ToTerm outer o.Value l.Mark vs value = other outer o.Value l.Mark refl refl in (
      q.end,
      q.is,
      then_follow goes_from (place outer o.Key last) (place outer o.Value l.Mark) (place outer o.Value q.end) (us ++ at line k.Arrow ∷ []) vs
          (then_follow goes_from (place outer o.Key last) (place outer o.Key r.end) (place outer o.Value l.Mark) us (at line k.Arrow ∷ []) r.goes (arrow_goes line outer r.end key r.is)) q.goes,
    )

-- what is written as a phrase leads to it
pub leads : (phrase : Phrase) (ts : List Lined) → Spells phrase ts → Goal phrase ts
leads _ _ (integer line n) = token_goes (at line (k.Integer n)) (t.Int n) (λ p. refl)
leads _ _ (atom line a) = token_goes (at line (k.Atom a)) (t.Atom a) (λ p. refl)
leads _ _ (wide line) = token_goes (at line k.Wide) stand_in (λ p. refl)
leads _ _ (float line) = token_goes (at line k.Float) stand_in (λ p. refl)
leads _ _ (strings codes ts d) = let ih : Goal (Strings codes) ts = leads (Strings codes) ts d in
    λ outer inner last takes free. record { end = l.Text codes; is = refl; goes = ih outer inner last takes free }
leads _ _ (empty_tuple line end) = λ outer inner last takes free.
    bracket_goes (at line k.OpenTuple) (at end k.CloseBrace) (o.Terms b.Tuple []) [] (t.Tuple []) outer inner last
    (λ p takes free. wanted p.inner p.last (begun p (o.Terms b.Tuple [])) takes free) takes free (o.Terms b.Tuple []) l.Bracket refl refl
leads _ _ (tuple line end all ts d) =
    terms_go (at line k.OpenTuple) (at end k.CloseBrace) b.Tuple all ts (t.Tuple all) (leads (Terms all) ts d) (λ p takes free. wanted p.inner p.last (begun p (o.Terms b.Tuple [])) takes free)
    (λ outer items last e. ap (λ found. option_map (left (place outer (o.Terms b.Tuple items) last)) (option_map t.Tuple found)) e)
leads _ _ (empty_list line end) = λ outer inner last takes free.
    bracket_goes (at line k.OpenList) (at end k.CloseBracket) (o.Terms b.List []) [] (t.List [] None) outer inner last list_opens takes free (o.Terms b.List []) l.Bracket refl refl
leads _ _ (list line end all ts d) =
    terms_go (at line k.OpenList) (at end k.CloseBracket) b.List all ts (t.List all None) (leads (Terms all) ts d) list_opens
    (λ outer items last e. ap (λ found. option_map (left (place outer (o.Terms b.List items) last)) (option_map proper found)) e)
leads _ _ (tail line bar end all ts last us d e) = tail_goes line bar end all ts last us (leads (Terms all) ts d) (leads (One last) us e)
leads _ _ (empty_map line end) = λ outer inner last takes free.
    bracket_goes (at line k.OpenMap) (at end k.CloseBrace) o.Key [] stand_in outer inner last (λ p takes free. wanted p.inner p.last (begun p o.Key) takes free) takes free o.Key l.Bracket refl refl
leads _ _ (map line end ts d) = λ outer inner last takes free.
    let r : ToPairs (outer ++ inner ∷ []) ts = leads Pairs ts d (outer ++ inner ∷ []) in
    bracket_goes (at line k.OpenMap) (at end k.CloseBrace) o.Key ts stand_in outer inner last (λ p takes free. wanted p.inner p.last (begun p o.Key) takes free) takes free o.Value r.end r.goes
    (ap (λ found. option_map (left (place (outer ++ inner ∷ []) o.Value r.end)) (option_map of_map found)) r.is)
leads _ _ (one_string line codes) = string_goes line codes
leads _ _ (more_strings line codes more ts d) = strings_go line codes more ts (leads (Strings codes) ts d)
leads _ _ (one_term term ts d) = λ outer kind.
    let r : ToTerm outer (o.Terms kind []) l.Bracket ts term = leads (One term) ts d outer (o.Terms kind []) l.Bracket refl refl in
    record { items = []; end = r.end; term = term; is = r.is; whole = refl; goes = r.goes }
leads _ _ (more_terms line all ts term us d e) = more_terms_go line all ts term us (leads (Terms all) ts d) (leads (One term) us e)
leads _ _ (one_pair line key value ts us d e) = λ outer.
    let r = pair_goes line key value ts us outer l.Bracket refl (leads (One key) ts d) (leads (One value) us e) in
    record { end = r.0; value = value; is = r.1; goes = r.2 }
leads _ _ (more_pairs comma line key value ts us vs d e f) = λ outer.
    let r : ToPairs outer ts = leads Pairs ts d outer in
    let q = pair_goes line key value us vs outer l.Mark refl (leads (One key) us e) (leads (One value) vs f) in
    let mark = comma_goes comma outer o.Value o.Key r.end r.value r.is refl in
    record {
      end = q.0;
      value = value;
      is = q.1;
      goes = then_follow goes_from (place outer o.Key l.Bracket) (place outer o.Key l.Mark) (place outer o.Value q.0) (ts ++ at comma k.Comma ∷ []) ((us ++ at line k.Arrow ∷ []) ++ vs)
          (then_follow goes_from (place outer o.Key l.Bracket) (place outer o.Value r.end) (place outer o.Key l.Mark) ts (at comma k.Comma ∷ []) r.goes mark) q.2;
    }
