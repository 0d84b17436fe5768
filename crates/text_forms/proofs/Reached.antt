-- Where the tokens of a text have led, and one token more.
use Rattle.std.proofs.Common.{◌≡◌, ℕ, Bool, true, false, List, [], ◌∷◌, ◌++◌, Option, Some, None, refl, sym, ap, ◌∙◌, subst, append_assoc, append-nil, if◌then◌else◌}
use Rattle.std.specs.Prelude.{option_map}
use Rattle.term_tree.specs.declared.term.Term.{Term}
use Rattle.text_tokens.specs.declared.token.Token.{Token}
use Rattle.text_tokens.specs.declared.token.Token.TheVariants as k
use Rattle.text_tokens.specs.Tokens.{Lined, at}
use Rattle.text_forms.specs.declared.place.Open.{Open}
use Rattle.text_forms.specs.declared.place.Open.TheVariants as o
use Rattle.text_forms.specs.declared.place.Last.{Last}
use Rattle.text_forms.specs.declared.place.Place.{Place}
use Rattle.text_forms.specs.declared.place.Stand.{Stand}
use Rattle.text_forms.specs.Spelling.{One, Spells, AreForms, no_forms, more_forms, first_line}
use Rattle.text_forms.specs.Places.{is_dot, since_dot, refused_after, AllAllowed}
use Rattle.text_forms.specs.Moves.{place, move, dot_term}
use Rattle.text_forms.specs.Steps.{first_place, before, moved, given, does}
use Rattle.text_forms.proofs.Follow.{goes, then_follow, one_follows, Mapped, mapped}
use Rattle.text_forms.proofs.Here.{Here, Led, led_form, led_arguments, led_list, deeper, Family, OfForm, waits, before_list, content_of, here_on}
use Rattle.text_forms.proofs.Tracks.{Tracks, since_more, tracks_moved, tracks_given}

-- the construct outside all brackets
abbrev pub root : Bool → Open
root true = o.Arguments
root false = o.Form

pub record Reached (arguments : Bool) (done : List Lined) (s : Stand) : Type 0 where
  pub earlier : List Lined
  pub whole : earlier ++ since_dot [] done ≡ done
  pub forms : AreForms s.forms earlier
  pub alone : arguments ≡ true → earlier ≡ []
  pub here : Here arguments s.place (since_dot [] done)
  pub tracks : Tracks done s
  pub allowed : AllAllowed [] done
  pub ran : goes (before (root arguments) []) done ≡ Some s

start_here : (arguments : Bool) → Here arguments (first_place (root arguments)) []
start_here true = record { front = []; inside = []; whole = refl; led = led_arguments refl; has = before_list }
start_here false = record { front = []; inside = []; whole = refl; led = led_form refl; has = waits o.Form [] refl (λ term us d. d) }

pub reached_start : (arguments : Bool) → Reached arguments [] (before (root arguments) [])
reached_start arguments = record {
  earlier = [];
  whole = refl;
  forms = no_forms;
  alone = (λ e. refl);
  here = start_here arguments;
  tracks = record { loose = refl; line = refl; count = refl };
  allowed = tt;
  ran = refl;
}

-- ---- allowed tokens

pub allowed_joined : (before ts us : List Lined) → AllAllowed before ts → AllAllowed (before ++ ts) us → AllAllowed before (ts ++ us)
allowed_joined before [] us h k = let P : List Lined → Type 0 = λ all. AllAllowed all us in subst P (append-nil before) k
allowed_joined before (b ∷ ts) us h k = let P : List Lined → Type 0 = λ all. AllAllowed all us in (h.0, allowed_joined (before ++ b ∷ []) ts us h.1 (subst P (sym (append_assoc before (b ∷ []) ts)) k))

pub allowed_more : (before ts : List Lined) (a : Lined) → AllAllowed before ts → refused_after (before ++ ts) a ≡ None → AllAllowed before (ts ++ a ∷ [])
allowed_more before ts a h e = allowed_joined before ts (a ∷ []) h (e, tt)

pub allowed_at : (before xs : List Lined) (a : Lined) (ys : List Lined) → AllAllowed before (xs ++ a ∷ ys) → refused_after (before ++ xs) a ≡ None
allowed_at before [] a ys h = ap (λ all. refused_after all a) (append-nil before) ∙ h.0
allowed_at before (b ∷ xs) a ys h = ap (λ all. refused_after all a) (sym (append_assoc before (b ∷ []) xs)) ∙ allowed_at (before ++ b ∷ []) xs a ys h.1

-- ---- a dot

dot_is : (token : Token) → is_dot token ≡ true → token ≡ k.Dot
dot_is k.Dot e = refl
dot_is other e = absurd (cc)

-- what a dot ends
record Dotted (arguments : Bool) (outer : List Open) (all : List Lined) (term : Term) : Type 0 where
  outside : outer ≡ []
  form : arguments ≡ false
  spells : Spells (One term) all

dotted_in : (arguments : Bool) (outer : List Open) (f : Family) (front inside all : List Lined) (term : Term) → Led arguments outer f front → f ≡ OfForm → front ++ inside ≡ all → Spells (One term) inside → Dotted arguments outer all term
dotted_in arguments _ _ _ inside all term (led_form e) same whole d = record { outside = refl; form = e; spells = let P : List Lined → Type 0 = λ us. Spells (One term) us in subst P whole d }
dotted_in arguments _ _ _ inside all term (led_arguments e) same whole d = absurd (cc)
dotted_in arguments _ _ _ inside all term (led_list line e) same whole d = absurd (cc)
dotted_in arguments _ _ _ inside all term (deeper outer line token ts us led opens) same whole d = absurd (cc)

dotted : (arguments : Bool) (outer : List Open) (inner : Open) (last : Last) (all : List Lined) (term : Term) → Here arguments (place outer inner last) all → dot_term (place outer inner last) ≡ Some term →
    Dotted arguments outer all term
dotted arguments outer o.Form last all term h e =
    dotted_in arguments outer OfForm h.front h.inside all term h.led refl h.whole (content_of o.Form last h.inside term h.has e)
dotted arguments outer other last all term h e = absurd (cc)

-- ---- one token more

moved_on : (arguments : Bool) (done : List Lined) (s : Stand) (a : Lined) (q : Place) → Reached arguments done s → refused_after done a ≡ None → is_dot a.token ≡ false → does s a ≡ Some (moved s a q) → move s.place a.token ≡ Some q →
    Reached arguments (done ++ a ∷ []) (moved s a q)
moved_on arguments done s a q r fine plain e is =
    let since : since_dot [] (done ++ a ∷ []) ≡ since_dot [] done ++ a ∷ [] = since_more [] done a ∙ ap (λ (dot : Bool). if dot then [] else since_dot [] done ++ a ∷ []) plain in
    let P : List Lined → Type 0 = λ ts. Here arguments q ts in
    record {
      earlier = r.earlier;
      whole = ap (λ ts. r.earlier ++ ts) since ∙ sym (append_assoc r.earlier (since_dot [] done) (a ∷ [])) ∙ ap (λ ts. ts ++ a ∷ []) r.whole;
      forms = r.forms;
      alone = r.alone;
      here = subst P (sym since) (here_on arguments s.place q (since_dot [] done) a.line a.token r.here is);
      tracks = tracks_moved done s a q plain r.tracks is;
      allowed = allowed_more [] done a r.allowed fine;
      ran = then_follow does (before (root arguments) []) s (moved s a q) done (a ∷ []) r.ran (one_follows does s (moved s a q) a e);
    }

given_on : (arguments : Bool) (done : List Lined) (s : Stand) (a : Lined) (term : Term) → Reached arguments done s → refused_after done a ≡ None → a.token ≡ k.Dot → does s a ≡ Some (given s term) → dot_term s.place ≡ Some term →
    Reached arguments (done ++ a ∷ []) (given s term)
given_on arguments done s a term r fine dot e is =
    let cur : List Lined = since_dot [] done in
    let d : Dotted arguments s.place.outer cur term = dotted arguments s.place.outer s.place.inner s.place.last cur term r.here is in
    let since : since_dot [] (done ++ a ∷ []) ≡ [] = since_more [] done a ∙ ap (λ token. if is_dot token then [] else cur ++ a ∷ []) dot in
    let forms : AreForms (s.forms ++ record { line = first_line cur; term = term } ∷ []) (r.earlier ++ (cur ++ at a.line k.Dot ∷ [])) = more_forms s.forms r.earlier term cur a.line r.forms d.spells in
    let joins : r.earlier ++ (cur ++ at a.line k.Dot ∷ []) ≡ done ++ a ∷ [] =
    ap (λ token. r.earlier ++ (cur ++ at a.line token ∷ [])) (sym dot) ∙ sym (append_assoc r.earlier cur (a ∷ [])) ∙ ap (λ ts. ts ++ a ∷ []) r.whole in
    let P : List Lined → Type 0 = λ ts. AreForms (s.forms ++ record { line = first_line cur; term = term } ∷ []) ts in
    let Q : ℕ → Type 0 = λ line. AreForms (s.forms ++ record { line = line; term = term } ∷ []) (done ++ a ∷ []) in
    let H : List Lined → Type 0 = λ ts. Here arguments (first_place o.Form) ts in
    record {
      earlier = done ++ a ∷ [];
      whole = ap (λ ts. (done ++ a ∷ []) ++ ts) since ∙ append-nil (done ++ a ∷ []);
      forms = subst Q (sym r.tracks.line) (subst P joins forms);
      alone = (λ h. let no : true ≡ false = sym h ∙ d.form in absurd (cc));
      here = subst H (sym since) (record { front = []; inside = []; whole = refl; led = led_form d.form; has = waits o.Form [] refl (λ term us d. d) });
      tracks = tracks_given done s a (s.forms ++ record { line = s.line; term = term } ∷ []) dot r.tracks d.outside;
      allowed = allowed_more [] done a r.allowed fine;
      ran = then_follow does (before (root arguments) []) s (given s term) done (a ∷ []) r.ran (one_follows does s (given s term) a e);
    }

abbrev by_dot : Stand → Lined → Bool → Option Stand
by_dot s a dot = if dot then option_map (given s) (dot_term s.place) else option_map (moved s a) (move s.place a.token)

pub reached_on : (arguments : Bool) (done : List Lined) (s next : Stand) (a : Lined) → Reached arguments done s → refused_after done a ≡ None → does s a ≡ Some next → Reached arguments (done ++ a ∷ []) next
reached_on arguments done s next a r fine e = go (is_dot a.token) refl
  where
    go : (dot : Bool) → is_dot a.token ≡ dot → Reached arguments (done ++ a ∷ []) next
    go false plain =
        let m : Mapped (moved s a) (move s.place a.token) next = mapped (moved s a) (move s.place a.token) next (sym (ap (by_dot s a) plain) ∙ e) in
        let P : Stand → Type 0 = λ t. Reached arguments (done ++ a ∷ []) t in
        subst P m.same (moved_on arguments done s a m.value r fine plain (e ∙ ap Some (sym m.same)) m.is)
    go true dot =
        let m : Mapped (given s) (dot_term s.place) next = mapped (given s) (dot_term s.place) next (sym (ap (by_dot s a) dot) ∙ e) in
        let P : Stand → Type 0 = λ t. Reached arguments (done ++ a ∷ []) t in
        subst P m.same (given_on arguments done s a m.value r fine (dot_is a.token dot) (e ∙ ap Some (sym m.same)) m.is)
