-- All tokens have one reading.
use Rattle.std.proofs.Common.{◌≡◌, ℕ, Bool, true, false, List, [], ◌∷◌, ◌++◌, Option, Some, None, Result, Ok, Err, refl, sym, ap, ◌∙◌, subst, append_assoc, append-nil}
use Rattle.std.specs.Prelude.{unwrap_or}
use Rattle.term_tree.specs.declared.term.Term.{Term}
use Rattle.text_tokens.specs.Tokens.{Tokens, Stop, Bad, More, Lined, at, lined}
use Rattle.text_forms.specs.declared.form.Form.{Form}
use Rattle.text_forms.specs.declared.refusal.TextRefusal.{TextRefusal}
use Rattle.text_forms.specs.declared.refusal.TextRefusal.TheVariants.{Syntax}
use Rattle.text_forms.specs.declared.place.Stand.{Stand}
use Rattle.text_forms.specs.Spelling.{AreForms, AreArguments}
use Rattle.text_forms.specs.Places.{refused_after, refusal_after, AllAllowed}
use Rattle.text_forms.specs.Refusals.{Makes, Begins, IsRefusedAt, IsReading}
use Rattle.text_forms.specs.Steps.{before, does, placed, unless, step, run, outcome, ended, whole_forms, whole_arguments}
use Rattle.text_forms.proofs.Follow.{goes, Parts, parts_of, Chained, chained}
use Rattle.text_forms.proofs.Tracks.{tracks_refused}
use Rattle.text_forms.proofs.Reached.{Reached, root, reached_start, reached_on, allowed_at}
use Rattle.text_forms.proofs.Roots.{Root, forms_root, arguments_root}

pub lined-joined : (ts us : List Lined) (rest : Tokens) → lined (ts ++ us) rest ≡ lined ts (lined us rest)
lined-joined [] us rest = refl
lined-joined (a ∷ ts) us rest = ap (More a.line a.token) (lined-joined ts us rest)

-- ---- tokens that lead on

abbrev Start : Bool → Stand
Start arguments = before (root arguments) []

abbrev after : Tokens → Result Stand TextRefusal → Result (Stand × ℕ) TextRefusal
after rest r = elim r [ Err refusal ↦ Err refusal | Ok next ↦ run next rest ]

step_is : (arguments : Bool) (done : List Lined) (s : Stand) (a : Lined) (itself : Option TextRefusal) (found : Option Stand) → Reached arguments done s → refused_after done a ≡ itself → does s a ≡ found →
    step s a ≡ unless itself (placed a.line found)
step_is arguments done s a itself found r e d = ap (λ x. unless x (placed a.line (does s a))) (tracks_refused done s a r.tracks ∙ e) ∙ ap (λ x. unless itself (placed a.line x)) d

record Along (arguments : Bool) (done ts : List Lined) (s to : Stand) : Type 0 where
  reached : Reached arguments (done ++ ts) to
  runs : (rest : Tokens) → run s (lined ts rest) ≡ run to rest

along : (arguments : Bool) (done ts : List Lined) (s to : Stand) → Reached arguments done s → goes s ts ≡ Some to → AllAllowed done ts → Along arguments done ts s to
along arguments done [] s to r e allowed =
    let same : s ≡ to = cc in
    let P : Stand → Type 0 = λ t. Reached arguments done t in
    let Q : List Lined → Type 0 = λ ts. Reached arguments ts to in
    record { reached = subst Q (sym (append-nil done)) (subst P same r); runs = (λ rest. ap (λ t. run t rest) same) }
along arguments done (a ∷ ts) s to r e allowed =
    let c : Chained (λ t. goes t ts) (does s a) to = chained (λ t. goes t ts) (does s a) to e in
    let on : Along arguments (done ++ a ∷ []) ts c.value to = along arguments (done ++ a ∷ []) ts c.value to (reached_on arguments done s c.value a r allowed.0 c.is) c.same allowed.1 in
    let Q : List Lined → Type 0 = λ ts. Reached arguments ts to in
    record { reached = subst Q (append_assoc done (a ∷ []) ts) on.reached; runs = (λ rest. ap (after (lined ts rest)) (step_is arguments done s a None (Some c.value) r allowed.0 c.is) ∙ on.runs rest) }

allowed_front : (before ts us : List Lined) → AllAllowed before (ts ++ us) → AllAllowed before ts
allowed_front before [] us h = tt
allowed_front before (a ∷ ts) us h = (h.0, allowed_front (before ++ a ∷ []) ts us h.1)

-- one token more goes on, or is refused and begins no text
data Step {A : Type 0} (Are : A → List Lined → Type 0) (arguments : Bool) (done : List Lined) (s : Stand) (a : Lined) : Type 0 where
  refused : step s a ≡ Err (refusal_after done a) → (Begins Are (done ++ a ∷ []) → ⊥) → Step Are arguments done s a
  stepped : (next : Stand) → step s a ≡ Ok next → Reached arguments (done ++ a ∷ []) next → Step Are arguments done s a

record Goes (done : List Lined) (s : Stand) (a : Lined) : Type 0 where
  fine : refused_after done a ≡ None
  next : Stand
  does : does s a ≡ Some next

-- ---- the reading

module _ {A : Type 0} (Are : A → List Lined → Type 0) (arguments : Bool) (whole : Stand → Option A) (r : Root Are arguments whole) where
  begun_goes : (done : List Lined) (s : Stand) (a : Lined) → Reached arguments done s → Begins Are (done ++ a ∷ []) → Goes done s a
  begun_goes done s a reached (us, all, made) =
      let start : Stand = Start arguments in
      let to = r.goes_to all ((done ++ a ∷ []) ++ us) made.0 in
      let p : Parts does start to.0 (done ++ a ∷ []) us = parts_of does start to.0 (done ++ a ∷ []) us to.1 in
      let q : Parts does start p.middle done (a ∷ []) = parts_of does start p.middle done (a ∷ []) p.front in
      let same : q.middle ≡ s = let e : Some q.middle ≡ Some s = sym q.front ∙ reached.ran in cc in
      let c : Chained (λ t. goes t []) (does s a) p.middle = chained (λ t. goes t []) (does s a) p.middle (ap (λ t. goes t (a ∷ [])) (sym same) ∙ q.back) in
      let P : List Lined → Type 0 = λ ts. AllAllowed [] ts in
      record { fine = allowed_at [] done a us (subst P (append_assoc done (a ∷ []) us) made.1); next = c.value; does = c.is }

  step_of : (done : List Lined) (s : Stand) (a : Lined) → Reached arguments done s → Step Are arguments done s a
  step_of done s a reached = go (refused_after done a) (does s a) refl refl
    where
      go : (itself : Option TextRefusal) (found : Option Stand) → refused_after done a ≡ itself → does s a ≡ found → Step Are arguments done s a
      go (Some x) found e d = refused (step_is arguments done s a (Some x) found reached e d ∙ ap (λ o. Err (unwrap_or o (Syntax a.line))) (sym e)) (λ b. let no : None ≡ Some x = sym (begun_goes done s a reached b).fine ∙ e in cc)
      go None None e d = refused (step_is arguments done s a None None reached e d ∙ ap (λ o. Err (unwrap_or o (Syntax a.line))) (sym e)) (λ b. let g = begun_goes done s a reached b in let no : None ≡ Some g.next = sym d ∙ g.does in cc)
      go None (Some next) e d = stepped next (step_is arguments done s a None (Some next) reached e d) (reached_on arguments done s next a reached e d)

  exists_at : (rest : Tokens) (done : List Lined) (s : Stand) → Reached arguments done s → IsReading Are (lined done rest) (outcome whole (run s rest))
  exists_at (Stop line) done s reached = go (whole s) refl
    where
      go : (found : Option A) → whole s ≡ found → IsReading Are (lined done (Stop line)) (ended line found)
      go (Some all) e = (done, line, refl, (r.comes_from done s all reached e, reached.allowed))
      go None e = (done, Stop line, refl, r.begins done s reached, (refl, none))
        where
          none : (all : A) → Makes Are all done → ⊥
          none all (is, allowed) =
              let to = r.goes_to all done is in
              let same : to.0 ≡ s = let both : Some to.0 ≡ Some s = sym to.1 ∙ reached.ran in cc in
              let no : None ≡ Some all = sym e ∙ ap whole (sym same) ∙ to.2 in
              cc
  exists_at (Bad line reason) done s reached = (done, Bad line reason, refl, r.begins done s reached, refl)
  exists_at (More line token rest) done s reached = go (λ next on. exists_at rest (done ++ at line token ∷ []) next on) (step_of done s (at line token) reached)
    where
      P : Tokens → Result (Stand × ℕ) TextRefusal → Type 0
      P all x = IsReading Are all (outcome whole x)

      go : ((next : Stand) → Reached arguments (done ++ at line token ∷ []) next → P (lined (done ++ at line token ∷ []) rest) (run next rest)) → Step Are arguments done s (at line token) → P (lined done (More line token rest)) (run s (More line token rest))
      go ih (refused is never) = let Q : Result (Stand × ℕ) TextRefusal → Type 0 = λ x. P (lined done (More line token rest)) x in
          subst Q (sym (ap (after rest) is)) (done, More line token rest, refl, r.begins done s reached, (refl, never))
      go ih (stepped next is on) =
          let Q : Result (Stand × ℕ) TextRefusal → Type 0 = λ x. P (lined done (More line token rest)) x in
          let R : Tokens → Type 0 = λ all. P all (run next rest) in
          subst Q (sym (ap (after rest) is)) (subst R (lined-joined done (at line token ∷ []) rest) (ih next on))

  pub exists : (all : Tokens) → IsReading Are all (outcome whole (run (Start arguments) all))
  exists all = exists_at all [] (Start arguments) (reached_start arguments)

  -- ---- no other reading

  refusal_is : (q : TextRefusal) (ts : List Lined) (rest : Tokens) (s : Stand) → Reached arguments ts s → IsRefusedAt Are q ts rest → Err q ≡ outcome whole (run s rest)
  refusal_is q ts (Stop line) s reached at_rest = go (whole s) refl
    where
      go : (found : Option A) → whole s ≡ found → Err q ≡ ended line found
      go None e = ap Err at_rest.0
      go (Some all) e = absurd (at_rest.1 all (r.comes_from ts s all reached e, reached.allowed))
  refusal_is q ts (Bad line reason) s reached at_rest = ap Err at_rest
  refusal_is q ts (More line token rest) s reached at_rest = go (step_of ts s (at line token) reached)
    where
      go : Step Are arguments ts s (at line token) → Err q ≡ outcome whole (run s (More line token rest))
      go (refused is never) = ap Err at_rest.0 ∙ sym (ap (λ x. outcome whole (after rest x)) is)
      go (stepped next is on) = absurd (at_rest.1 (r.begins (ts ++ at line token ∷ []) next on))

  only : (all : Tokens) (q : Result A TextRefusal) → IsReading Are all q → q ≡ outcome whole (run (Start arguments) all)
  only all (Ok a) (ts, line, e, (is, allowed)) =
      let to = r.goes_to a ts is in
      let on : Along arguments [] ts (Start arguments) to.0 = along arguments [] ts (Start arguments) to.0 (reached_start arguments) to.1 allowed in
      ap (ended line) (sym to.2) ∙ ap (outcome whole) (sym (on.runs (Stop line)) ∙ ap (run (Start arguments)) (sym e))
  only all (Err q) (ts, rest, e, (us, a, (is, allowed)), at_rest) =
      let to = r.goes_to a (ts ++ us) is in
      let p : Parts does (Start arguments) to.0 ts us = parts_of does (Start arguments) to.0 ts us to.1 in
      let on : Along arguments [] ts (Start arguments) p.middle = along arguments [] ts (Start arguments) p.middle (reached_start arguments) p.front (allowed_front [] ts us allowed) in
      refusal_is q ts rest p.middle on.reached at_rest ∙ ap (outcome whole) (sym (on.runs rest) ∙ ap (run (Start arguments)) (sym e))

  pub one_reading : (all : Tokens) (q p : Result A TextRefusal) → IsReading Are all q → IsReading Are all p → q ≡ p
  one_reading all q p x y = only all q x ∙ sym (only all p y)

-- ---- forms and arguments

-- a reading, of all there is
pub record Read {A : Type 0} (Are : A → List Lined → Type 0) (all : Tokens) : Type 0 where
  pub answer : Result A TextRefusal
  pub is : IsReading Are all answer

pub forms_read : (all : Tokens) → Read AreForms all
forms_read all = record { answer = outcome whole_forms (run (before (root false) []) all); is = exists AreForms false whole_forms forms_root all }

pub arguments_read : (all : Tokens) → Read AreArguments all
arguments_read all = record { answer = outcome whole_arguments (run (before (root true) []) all); is = exists AreArguments true whole_arguments arguments_root all }

pub one_reading_of_forms : (all : Tokens) (r q : Result (List Form) TextRefusal) → IsReading AreForms all r → IsReading AreForms all q → r ≡ q
one_reading_of_forms = one_reading AreForms false whole_forms forms_root

pub one_reading_of_arguments : (all : Tokens) (r q : Result (List Term) TextRefusal) → IsReading AreArguments all r → IsReading AreArguments all q → r ≡ q
one_reading_of_arguments = one_reading AreArguments true whole_arguments arguments_root
