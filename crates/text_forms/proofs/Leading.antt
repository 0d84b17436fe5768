-- Wherever tokens have led, some further ones make a text of them: each open construct is closed, one after the other.
use Rattle.std.proofs.Common.{◌≡◌, ℕ, pos, Bool, true, false, List, [], ◌∷◌, ◌++◌, Some, None, refl, sym, ap, ◌∙◌, subst, append_assoc, append-nil, ◌⊎◌, inl, inr}
use Rattle.std.specs.Cmp.Derive.{both_true}
use Rattle.term_tree.specs.declared.term.Term as t
use Rattle.term_tree.specs.declared.term.Term.{Term}
use Rattle.text_tokens.specs.declared.token.Token.{Token}
use Rattle.text_tokens.specs.declared.token.Token.TheVariants as k
use Rattle.text_tokens.specs.Tokens.{Lined, at}
use Rattle.text_forms.specs.declared.place.Brackets.TheVariants as b
use Rattle.text_forms.specs.declared.place.Open.{Open}
use Rattle.text_forms.specs.declared.place.Open.TheVariants as o
use Rattle.text_forms.specs.declared.place.Last.{Last}
use Rattle.text_forms.specs.declared.place.Last.TheVariants as l
use Rattle.text_forms.specs.declared.place.Place.{Place}
use Rattle.text_forms.specs.declared.place.Stand.{Stand}
use Rattle.text_forms.specs.Spelling.{with_tail, stand_in, One, Pairs, Spells, integer, tuple, list, map, AreForms, more_forms, AreArguments, no_arguments, some_arguments, first_line}
use Rattle.text_forms.specs.Places.{since_dot, refused_itself, AllAllowed}
use Rattle.text_forms.specs.Refusals.{Begins}
use Rattle.text_forms.specs.Moves.{takes_terms, is_free, last_term, around, innermost}
use Rattle.text_forms.proofs.Here.{Here, Led, led_form, led_arguments, led_list, deeper, Family, OfForm, OfArguments, OfList, By, family, Content, Inside, first, first_key, waits, has_term, has_text, before_list, opens_of, content_of}
use Rattle.text_forms.proofs.Reached.{Reached}

-- tokens that are allowed everywhere
abbrev AllPlain : List Lined → Type 0
AllPlain [] = Unit {0}
AllPlain (a ∷ ts) = ((loose : Bool) (line count : ℕ) → refused_itself loose line count a.token ≡ None) × AllPlain ts

plain_allowed : (before us : List Lined) → AllPlain us → AllAllowed before us
plain_allowed before [] plain = tt
plain_allowed before (a ∷ us) plain = (plain.0 _ _ _, plain_allowed (before ++ a ∷ []) us plain.1)

allowed_plain : (before ts us : List Lined) → AllAllowed before ts → AllPlain us → AllAllowed before (ts ++ us)
allowed_plain before [] us h plain = plain_allowed before us plain
allowed_plain before (a ∷ ts) us h plain = (h.0, allowed_plain (before ++ a ∷ []) ts us h.1 plain)

plain_joined : (ts us : List Lined) → AllPlain ts → AllPlain us → AllPlain (ts ++ us)
plain_joined [] us p q = q
plain_joined (a ∷ ts) us p q = (p.0, plain_joined ts us p.1 q)

-- ---- one construct

record Closing (token : Token) (ts : List Lined) : Type 0 where
  value : Term
  us : List Lined
  plain : AllPlain us
  spells : (line : ℕ) → Spells (One value) (at line token ∷ (ts ++ us))

record ClosingList (ts : List Lined) : Type 0 where
  all : List Term
  us : List Lined
  plain : AllPlain us
  spells : (line : ℕ) → AreArguments all (at line k.OpenList ∷ (ts ++ us))

record Closed (ts : List Lined) : Type 0 where
  term : Term
  spells : Spells (One term) ts

abbrev Closable : Family → List Lined → Type 0
Closable (By token) ts = Closing token ts
Closable OfList ts = ClosingList ts
Closable OfForm ts = Closed ts
Closable OfArguments ts = (all : List Term) × AreArguments all ts

map_closing : (all : List Lined) → Spells Pairs all → Closing k.OpenMap all
map_closing all d = record { value = stand_in; us = at 1 k.CloseBrace ∷ []; plain = ((λ loose line count. refl), tt); spells = (λ line. map line 1 all d) }

closing : (inner : Open) (term : Term) (all : List Lined) → Content inner term all → Closable (family inner) all
closing o.Form term all content = record { term = term; spells = content }
closing o.Arguments term all content = (content.0, content.2)
closing (o.Terms b.Tuple items) term all content = record {
  value = t.Tuple (items ++ term ∷ []);
  us = at 1 k.CloseBrace ∷ [];
  plain = ((λ loose line count. refl), tt);
  spells = (λ line. tuple line 1 (items ++ term ∷ []) all content);
}
closing (o.Terms b.List items) term all content = record {
  value = t.List (items ++ term ∷ []) None;
  us = at 1 k.CloseBracket ∷ [];
  plain = ((λ loose line count. refl), tt);
  spells = (λ line. list line 1 (items ++ term ∷ []) all content);
}
closing (o.Terms b.Arguments items) term all content = record {
  all = items ++ term ∷ [];
  us = at 1 k.CloseBracket ∷ [];
  plain = ((λ loose line count. refl), tt);
  spells = (λ line. some_arguments line 1 (items ++ term ∷ []) all content);
}
closing (o.Tail items) term all content = record { value = with_tail items term; us = at 1 k.CloseBracket ∷ []; plain = ((λ loose line count. refl), tt); spells = (λ line. content line 1) }
closing o.Value term all content = map_closing all content
closing o.Key term all content =
    let c = map_closing ((all ++ at 1 k.Arrow ∷ []) ++ at 1 (k.Integer (pos 0)) ∷ []) (content 1 (t.Int (pos 0)) (at 1 (k.Integer (pos 0)) ∷ []) (integer 1 (pos 0))) in
    let us : List Lined = at 1 k.Arrow ∷ at 1 (k.Integer (pos 0)) ∷ [] in
    let joins : ((all ++ at 1 k.Arrow ∷ []) ++ at 1 (k.Integer (pos 0)) ∷ []) ++ c.us ≡ all ++ (us ++ c.us) = simp append_assoc in
    let P : List Lined → Type 0 = λ ts. (line : ℕ) → Spells (One c.value) (at line k.OpenMap ∷ ts) in
    record { value = c.value; us = us ++ c.us; plain = ((λ loose line count. refl), ((λ loose line count. refl), c.plain)); spells = subst P joins c.spells }

-- ---- all constructs

-- to the end of the arguments, or to the dot
abbrev Whole : Bool → List Lined → Type 0
Whole true ts = (all : List Term) × AreArguments all ts
Whole false ts = (term : Term) × Spells (One term) ts

record Lead (arguments : Bool) (done : List Lined) : Type 0 where
  us : List Lined
  plain : AllPlain us
  is : Whole arguments (done ++ us)

lead_more : (arguments : Bool) (done us : List Lined) → AllPlain us → Lead arguments (done ++ us) → Lead arguments done
lead_more arguments done us plain on =
    let P : List Lined → Type 0 = λ ts. Whole arguments ts in
    record { us = us ++ on.us; plain = plain_joined us on.us plain on.plain; is = subst P (append_assoc done us on.us) on.is }

lead_in : (arguments : Bool) (outer : List Open) (f : Family) (front inside : List Lined) → Led arguments outer f front → Closable f inside → Lead arguments (front ++ inside)
lead_in arguments _ _ _ inside (led_form e) c =
    let B : Bool → Type 0 = λ x. Lead x inside in
    let P : List Lined → Type 0 = λ ts. Spells (One c.term) ts in
    subst B (sym e) (record { us = []; plain = tt; is = (c.term, subst P (sym (append-nil inside)) c.spells) })
lead_in arguments _ _ _ inside (led_arguments e) c =
    let B : Bool → Type 0 = λ x. Lead x inside in
    let P : List Lined → Type 0 = λ ts. AreArguments c.0 ts in
    subst B (sym e) (record { us = []; plain = tt; is = (c.0, subst P (sym (append-nil inside)) c.1) })
lead_in arguments _ _ _ inside (led_list line e) c =
    let B : Bool → Type 0 = λ x. Lead x (at line k.OpenList ∷ inside) in
    subst B (sym e) (record { us = c.us; plain = c.plain; is = (c.all, c.spells line) })
lead_in arguments _ _ _ inside (deeper outer line token ts us led opens) c =
    let more : List Lined = at line token ∷ (inside ++ c.us) in
    let on : Lead arguments (ts ++ (us ++ more)) = lead_in arguments (around outer) (family (innermost outer)) ts (us ++ more) led (closing (innermost outer) c.value (us ++ more) (opens c.value more (c.spells line))) in
    let joins : ts ++ (us ++ more) ≡ ((ts ++ (us ++ at line token ∷ [])) ++ inside) ++ c.us = simp append_assoc in
    let P : List Lined → Type 0 = λ ts. Lead arguments ts in
    lead_more arguments ((ts ++ (us ++ at line token ∷ [])) ++ inside) c.us c.plain (subst P joins on)

lead_ended : (arguments : Bool) (p : Place) (done us : List Lined) (term : Term) (h : Here arguments p done) → AllPlain us → Content p.inner term (h.inside ++ us) → Lead arguments done
lead_ended arguments p done us term h plain content =
    let on : Lead arguments (h.front ++ (h.inside ++ us)) = lead_in arguments p.outer (family p.inner) h.front (h.inside ++ us) h.led (closing p.inner term (h.inside ++ us) content) in
    let P : List Lined → Type 0 = λ ts. Lead arguments ts in
    lead_more arguments done us plain (subst P (sym (append_assoc h.front h.inside us) ∙ ap (λ ts. ts ++ us) h.whole) on)

-- outside all brackets of arguments, before their list
before_arguments : (inner : Open) (last : Last) (ts : List Lined) → Inside inner last ts → is_free last ≡ true → takes_terms inner ≡ false → (inner ≡ o.Arguments) × (ts ≡ [])
before_arguments _ _ _ (first kind) free e = absurd (cc)
before_arguments _ _ _ first_key free e = absurd (cc)
before_arguments _ _ _ (waits inner ts takes opens) free e = let no : true ≡ false = sym takes ∙ e in absurd (cc)
before_arguments _ _ _ (has_term inner ts term content) free e = absurd (cc)
before_arguments _ _ _ (has_text inner ts codes us opens d) free e = absurd (cc)
before_arguments _ _ _ before_list free e = (refl, refl)

-- the tokens lead on, or their list comes next
leads_or : (arguments : Bool) (p : Place) (done : List Lined) (h : Here arguments p done) → Lead arguments done ⊎ ((p.inner ≡ o.Arguments) × (h.inside ≡ []))
leads_or arguments p done h = go p.last refl
  where
    ended : (term : Term) → last_term p.last ≡ Some term → Lead arguments done ⊎ ((p.inner ≡ o.Arguments) × (h.inside ≡ []))
    ended term e =
        let P : List Lined → Type 0 = λ ts. Content p.inner term ts in
        inl (lead_ended arguments p done [] term h tt (subst P (sym (append-nil h.inside)) (content_of p.inner p.last h.inside term h.has e)))

    free : (takes : Bool) → takes_terms p.inner ≡ takes → is_free p.last ≡ true → Lead arguments done ⊎ ((p.inner ≡ o.Arguments) × (h.inside ≡ []))
    free false f e = inr (before_arguments p.inner p.last h.inside h.has e f)
    free true f e =
        let zero : List Lined = at 1 (k.Integer (pos 0)) ∷ [] in
        inl (lead_ended arguments p done zero (t.Int (pos 0)) h ((λ loose line count. refl), tt) (opens_of p.inner p.last h.inside h.has (both_true e f) (t.Int (pos 0)) zero (integer 1 (pos 0))))

    go : (last : Last) → p.last ≡ last → Lead arguments done ⊎ ((p.inner ≡ o.Arguments) × (h.inside ≡ []))
    go l.Bracket e = free (takes_terms p.inner) refl (ap is_free e)
    go l.Mark e = free (takes_terms p.inner) refl (ap is_free e)
    go (l.Term term) e = ended term (ap last_term e)
    go (l.Text codes) e = ended (t.List codes None) (ap last_term e)

-- outside all brackets of arguments
pub root_of : (arguments : Bool) (outer : List Open) (f : Family) (front : List Lined) → Led arguments outer f front → f ≡ OfArguments → (front ≡ []) × (arguments ≡ true)
root_of arguments _ _ _ (led_form e) same = absurd (cc)
root_of arguments _ _ _ (led_arguments e) same = (refl, e)
root_of arguments _ _ _ (led_list line e) same = absurd (cc)
root_of arguments _ _ _ (deeper outer line token ts us led opens) same = absurd (cc)

pub begins_forms : (done : List Lined) (s : Stand) → Reached false done s → Begins AreForms done
begins_forms done s r = go (leads_or false s.place (since_dot [] done) r.here)
  where
    go : Lead false (since_dot [] done) ⊎ ((s.place.inner ≡ o.Arguments) × (r.here.inside ≡ [])) → Begins AreForms done
    go (inl on) =
        let cur : List Lined = since_dot [] done in
        let P : List Lined → Type 0 = λ ts. AreForms (s.forms ++ record { line = first_line (cur ++ on.us); term = on.is.0 } ∷ []) ts in
        let joins : r.earlier ++ ((cur ++ on.us) ++ at 1 k.Dot ∷ []) ≡ (r.earlier ++ cur) ++ (on.us ++ at 1 k.Dot ∷ []) = simp append_assoc in (
          on.us ++ at 1 k.Dot ∷ [],
          s.forms ++ record { line = first_line (cur ++ on.us); term = on.is.0 } ∷ [],
          (
            subst P (joins ∙ ap (λ ts. ts ++ (on.us ++ at 1 k.Dot ∷ [])) r.whole) (more_forms s.forms r.earlier on.is.0 (cur ++ on.us) 1 r.forms on.is.1),
            allowed_plain [] done (on.us ++ at 1 k.Dot ∷ []) r.allowed (plain_joined on.us (at 1 k.Dot ∷ []) on.plain ((λ loose line count. refl), tt)),
          ),
        )
    go (inr at_root) =
        let no : false ≡ true = (root_of false s.place.outer (family s.place.inner) r.here.front r.here.led (ap family at_root.0)).1 in absurd (cc)

pub begins_arguments : (done : List Lined) (s : Stand) → Reached true done s → Begins AreArguments done
begins_arguments done s r = go (leads_or true s.place (since_dot [] done) r.here)
  where
    is_done : since_dot [] done ≡ done
    is_done = ap (λ ts. ts ++ since_dot [] done) (sym (r.alone refl)) ∙ r.whole

    go : Lead true (since_dot [] done) ⊎ ((s.place.inner ≡ o.Arguments) × (r.here.inside ≡ [])) → Begins AreArguments done
    go (inl on) =
        let P : List Lined → Type 0 = λ ts. AreArguments on.is.0 (ts ++ on.us) in
        (on.us, on.is.0, (subst P is_done on.is.1, allowed_plain [] done on.us r.allowed on.plain))
    go (inr at_root) =
        let front : r.here.front ≡ [] = (root_of true s.place.outer (family s.place.inner) r.here.front r.here.led (ap family at_root.0)).0 in
        let none : [] ≡ done = sym at_root.1 ∙ ap (λ ts. ts ++ r.here.inside) (sym front) ∙ r.here.whole ∙ is_done in
        let P : List Lined → Type 0 = λ ts. Begins AreArguments ts in
        subst P none (at 1 k.OpenList ∷ at 1 k.CloseBracket ∷ [], [], (no_arguments 1 1, (refl, (refl, tt))))
