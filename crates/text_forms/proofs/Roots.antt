-- Forms and arguments as two roots: what is written as them leads to them, and what leads to them is written so.
use Rattle.std.proofs.Common.{◌≡◌, ℕ, Bool, true, false, List, [], ◌∷◌, ◌++◌, Option, Some, None, refl, sym, ap, ◌∙◌, subst, append-nil}
use Rattle.std.specs.Prelude.{option_map}
use denote.Hole.Carrier.{roll}
use Rattle.term_tree.specs.declared.term.Term as t
use Rattle.term_tree.specs.declared.term.Term.{Term, out-Term, roll-Term, out-roll-Term}
use Rattle.term_tree.specs.declared.term.Term.TheOpen.{Term-F}
use Rattle.text_tokens.specs.declared.token.Token.{Token}
use Rattle.text_tokens.specs.declared.token.Token.TheVariants as k
use Rattle.text_tokens.specs.Tokens.{Lined, at}
use Rattle.text_forms.specs.declared.form.Form.{Form}
use Rattle.text_forms.specs.declared.place.Brackets.TheVariants as b
use Rattle.text_forms.specs.declared.place.Open.{Open}
use Rattle.text_forms.specs.declared.place.Open.TheVariants as o
use Rattle.text_forms.specs.declared.place.Last.{Last}
use Rattle.text_forms.specs.declared.place.Last.TheVariants as l
use Rattle.text_forms.specs.declared.place.Looseness.{Looseness}
use Rattle.text_forms.specs.declared.place.Looseness.TheVariants as places
use Rattle.text_forms.specs.declared.place.Place.{Place}
use Rattle.text_forms.specs.declared.place.Stand.{Stand}
use Rattle.text_forms.specs.Spelling.{One, Terms, Spells, AreForms, no_forms, more_forms, AreArguments, no_arguments, some_arguments, first_line}
use Rattle.text_forms.specs.Places.{is_dot, since_dot}
use Rattle.text_forms.specs.Refusals.{Begins}
use Rattle.text_forms.specs.Moves.{last_term, place, move, begun, left, proper}
use Rattle.text_forms.specs.Steps.{looseness_after, first_place, before, moved, given, does, whole_forms, whole_arguments, items_at, proper_items}
use Rattle.text_forms.proofs.Follow.{goes_from, moves, goes, then_follow, one_follows, first_follows, Chained, chained}
use Rattle.text_forms.proofs.Written.{ToTerm, ToTerms, all_last, leads}
use Rattle.text_forms.proofs.Here.{family, Inside, content_of}
use Rattle.text_forms.proofs.Tracks.{is_start, line_kept, has_begun, looseness_of, begun_of}
use Rattle.text_forms.proofs.Reached.{Reached, root}
use Rattle.text_forms.proofs.Leading.{root_of, begins_forms, begins_arguments}

-- what a root is proved of: whatever is written leads to it, whatever leads to it is written, and all tokens that lead
-- anywhere begin a text
pub record Root {A : Type 0} (Are : A → List Lined → Type 0) (arguments : Bool) (whole : Stand → Option A) : Type 0 where
  pub goes_to : (all : A) (ts : List Lined) → Are all ts → (s : Stand) × (goes (before (root arguments) []) ts ≡ Some s) × (whole s ≡ Some all)
  pub comes_from : (done : List Lined) (s : Stand) (all : A) → Reached arguments done s → whole s ≡ Some all → Are all done
  pub begins : (done : List Lined) (s : Stand) → Reached arguments done s → Begins Are done

-- ---- steps of a stand by those of its place

abbrev stand : List Form → Place → Looseness → ℕ → Stand
stand forms p looseness line = record { forms = forms; place = p; looseness = looseness; line = line }

no_dot : (p q : Place) (token : Token) → move p token ≡ Some q → is_dot token ≡ false
no_dot p q k.Dot e = absurd (cc)
no_dot p q other e = refl

one_moves : (s : Stand) (q : Place) (a : Lined) → move s.place a.token ≡ Some q → does s a ≡ Some (moved s a q)
one_moves s q a e = let plain : is_dot a.token ≡ false = no_dot s.place q a.token e in rw plain (ap (option_map (moved s a)) e)

-- where the form has begun, its line stays
record Onward (forms : List Form) (p q : Place) (p0 : Looseness) (line : ℕ) (ts : List Lined) : Type 0 where
  looseness : Looseness
  begun : is_start looseness ≡ false
  goes : goes (stand forms p p0 line) ts ≡ Some (stand forms q looseness line)

onward : (forms : List Form) (p q : Place) (p0 : Looseness) (line : ℕ) (ts : List Lined) → is_start p0 ≡ false → moves p ts ≡ Some q → Onward forms p q p0 line ts
onward forms p q p0 line [] begun e = record { looseness = p0; begun = begun; goes = let same : p ≡ q = cc in ap (λ r. Some (stand forms r p0 line)) same }
onward forms p q p0 line (a ∷ ts) begun e =
    let c : Chained (λ r. moves r ts) (move p a.token) q = chained (λ r. moves r ts) (move p a.token) q e in
    let on : Onward forms c.value q (looseness_after p0 a.token) line ts = onward forms c.value q (looseness_after p0 a.token) line ts (has_begun p0 a.token) c.same in
    let one : does (stand forms p p0 line) a ≡ Some (stand forms c.value (looseness_after p0 a.token) line) =
    one_moves (stand forms p p0 line) c.value a c.is ∙ ap (λ n. Some (stand forms c.value (looseness_after p0 a.token) n)) (line_kept p0 line a.line begun) in
    record { looseness = on.looseness; begun = on.begun; goes = first_follows does (stand forms p p0 line) _ _ a ts one on.goes }

-- from the place before a form, or before arguments
record Begun (forms : List Form) (r : Open) (q : Place) (ts : List Lined) : Type 0 where
  looseness : Looseness
  goes : goes (before r forms) ts ≡ Some (stand forms q looseness (first_line ts))

begins_with : (forms : List Form) (r : Open) (q : Place) (a : Lined) (ts : List Lined) → moves (first_place r) (a ∷ ts) ≡ Some q → Begun forms r q (a ∷ ts)
begins_with forms r q a ts e =
    let c : Chained (λ p. moves p ts) (move (first_place r) a.token) q = chained (λ p. moves p ts) (move (first_place r) a.token) q e in
    let on : Onward forms c.value q (looseness_after places.Start a.token) a.line ts = onward forms c.value q (looseness_after places.Start a.token) a.line ts (has_begun places.Start a.token) c.same in
    record { looseness = on.looseness; goes = first_follows does (before r forms) _ _ a ts (one_moves (before r forms) c.value a c.is) on.goes }

-- ---- forms

form_goes : (forms : List Form) (term : Term) (us : List Lined) (dot : ℕ) → Spells (One term) us →
    goes (before o.Form forms) (us ++ at dot k.Dot ∷ []) ≡ Some (before o.Form (forms ++ record { line = first_line us; term = term } ∷ []))
form_goes forms term us dot d = go us (leads (One term) us d [] o.Form l.Mark refl refl)
  where
    go : (us : List Lined) → ToTerm [] o.Form l.Mark us term → goes (before o.Form forms) (us ++ at dot k.Dot ∷ []) ≡ Some (before o.Form (forms ++ record { line = first_line us; term = term } ∷ []))
    go [] r =
        let same : place [] o.Form l.Mark ≡ place [] o.Form r.end = let e : Some (place [] o.Form l.Mark) ≡ Some (place [] o.Form r.end) = r.goes in cc in
        let none : None ≡ Some term = ap (λ p. last_term p.last) same ∙ r.is in
        absurd (cc)
    go (a ∷ us) r =
        let on : Begun forms o.Form (place [] o.Form r.end) (a ∷ us) = begins_with forms o.Form (place [] o.Form r.end) a us r.goes in
        then_follow does (before o.Form forms) (stand forms (place [] o.Form r.end) on.looseness a.line) (before o.Form (forms ++ record { line = a.line; term = term } ∷ [])) (a ∷ us) (at dot k.Dot ∷ []) on.goes
        (one_follows does (stand forms (place [] o.Form r.end) on.looseness a.line) (before o.Form (forms ++ record { line = a.line; term = term } ∷ [])) (at dot k.Dot)
        (ap (option_map (given (stand forms (place [] o.Form r.end) on.looseness a.line))) r.is))

forms_go : (forms : List Form) (ts : List Lined) → AreForms forms ts → goes (before o.Form []) ts ≡ Some (before o.Form forms)
forms_go _ _ no_forms = refl
forms_go _ _ (more_forms forms ts term us dot d e) =
    then_follow does (before o.Form []) (before o.Form forms) (before o.Form (forms ++ record { line = first_line us; term = term } ∷ [])) ts (us ++ at dot k.Dot ∷ []) (forms_go forms ts d) (form_goes forms term us dot e)

-- a form that has not begun has no token
not_begun : (ts : List Lined) → looseness_of ts ≡ places.Start → ts ≡ []
not_begun [] e = refl
not_begun (a ∷ ts) e = let no : true ≡ false = ap is_start (sym e) ∙ begun_of a ts in absurd (cc)

start_of : (p : Looseness) (forms all : List Form) → (elim p [ places.Start ↦ Some forms | _ ↦ None ]) ≡ Some all → (p ≡ places.Start) × (forms ≡ all)
start_of places.Start forms all e = (refl, cc)
start_of other forms all e = absurd (cc)

forms_come : (done : List Lined) (s : Stand) (all : List Form) → Reached false done s → whole_forms s ≡ Some all → AreForms all done
forms_come done s all r e =
    let start = start_of s.looseness s.forms all e in
    let none : since_dot [] done ≡ [] = not_begun (since_dot [] done) (sym r.tracks.loose ∙ start.0) in
    let same : r.earlier ≡ done = sym (append-nil r.earlier) ∙ ap (λ ts. r.earlier ++ ts) (sym none) ∙ r.whole in
    let P : List Lined → Type 0 = λ ts. AreForms all ts in
    let Q : List Form → Type 0 = λ fs. AreForms fs r.earlier in
    subst P same (subst Q start.1 r.forms)

pub forms_root : Root AreForms false whole_forms
forms_root = record { goes_to = (λ all ts d. (before o.Form all, forms_go all ts d, refl)); comes_from = forms_come; begins = begins_forms }

-- ---- arguments

out_list : (terms : List Term) → out-Term (t.List terms None) ≡ Term-F.List terms None
unfolding roll-Term roll
out_list terms = out-roll-Term (Term-F.List terms None)

list_items : (terms : List Term) → proper_items (out-Term (t.List terms None)) ≡ Some terms
list_items terms = ap proper_items (out_list terms)

arguments_move : (all : List Term) (ts : List Lined) → AreArguments all ts → moves (first_place o.Arguments) ts ≡ Some (place [] o.Arguments (l.Term (t.List all None)))
arguments_move _ _ (no_arguments line end) = refl
arguments_move _ _ (some_arguments line end all ts d) =
    let r : ToTerms (o.Arguments ∷ []) b.Arguments ts all = leads (Terms all) ts d (o.Arguments ∷ []) b.Arguments in
    let p : Place = place (o.Arguments ∷ []) (o.Terms b.Arguments r.items) r.end in
    first_follows goes_from (first_place o.Arguments) (place (o.Arguments ∷ []) (o.Terms b.Arguments []) l.Bracket) (place [] o.Arguments (l.Term (t.List all None))) (at line k.OpenList) (ts ++ at end k.CloseBracket ∷ []) refl
    (then_follow goes_from (place (o.Arguments ∷ []) (o.Terms b.Arguments []) l.Bracket) p (place [] o.Arguments (l.Term (t.List all None))) ts (at end k.CloseBracket ∷ []) r.goes
    (one_follows goes_from p (place [] o.Arguments (l.Term (t.List all None))) (at end k.CloseBracket)
    (ap (λ found. option_map (left p) (option_map proper found)) (all_last r.items r.end r.term r.is ∙ ap Some r.whole))))

arguments_go : (all : List Term) (ts : List Lined) → AreArguments all ts → (s : Stand) × (goes (before o.Arguments []) ts ≡ Some s) × (whole_arguments s ≡ Some all)
arguments_go all ts d = go ts (arguments_move all ts d)
  where
    go : (ts : List Lined) → moves (first_place o.Arguments) ts ≡ Some (place [] o.Arguments (l.Term (t.List all None))) → (s : Stand) × (goes (before o.Arguments []) ts ≡ Some s) × (whole_arguments s ≡ Some all)
    go [] e =
        let same : place [] o.Arguments l.Mark ≡ place [] o.Arguments (l.Term (t.List all None)) = cc in
        let none : None ≡ Some (t.List all None) = ap (λ p. last_term p.last) same in
        absurd (cc)
    go (a ∷ ts) e =
        let on : Begun [] o.Arguments (place [] o.Arguments (l.Term (t.List all None))) (a ∷ ts) = begins_with [] o.Arguments (place [] o.Arguments (l.Term (t.List all None))) a ts e in
        (stand [] (place [] o.Arguments (l.Term (t.List all None))) on.looseness a.line, on.goes, list_items all)

arguments_in : (inner : Open) (last : Last) (inside : List Lined) (all : List Term) → Inside inner last inside → items_at inner last ≡ Some all → (inner ≡ o.Arguments) × AreArguments all inside
arguments_in o.Arguments (l.Term term) inside all has e =
    let c = content_of o.Arguments (l.Term term) inside term has refl in
    let items : Some c.0 ≡ Some all = sym (list_items c.0) ∙ ap (λ x. proper_items (out-Term x)) (sym c.1) ∙ e in
    let equal : c.0 ≡ all = cc in
    let P : List Term → Type 0 = λ is. AreArguments is inside in
    (refl, subst P equal c.2)
arguments_in inner last inside all has e = absurd (cc)

arguments_come : (done : List Lined) (s : Stand) (all : List Term) → Reached true done s → whole_arguments s ≡ Some all → AreArguments all done
arguments_come done s all r e =
    let is = arguments_in s.place.inner s.place.last r.here.inside all r.here.has e in
    let front : r.here.front ≡ [] = (root_of true s.place.outer (family s.place.inner) r.here.front r.here.led (ap family is.0)).0 in
    let whole : r.here.inside ≡ done = ap (λ ts. ts ++ r.here.inside) (sym front) ∙ r.here.whole ∙ ap (λ ts. ts ++ since_dot [] done) (sym (r.alone refl)) ∙ r.whole in
    let P : List Lined → Type 0 = λ ts. AreArguments all ts in
    subst P whole is.1

pub arguments_root : Root AreArguments true whole_arguments
arguments_root = record { goes_to = arguments_go; comes_from = arguments_come; begins = begins_arguments }
