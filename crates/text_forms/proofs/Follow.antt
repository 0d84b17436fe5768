-- Steps that follow one another, and the innermost of some open constructs.
use Rattle.std.proofs.Common.{◌≡◌, ◌-◌, Bool, true, false, if◌then◌else◌, List, [], ◌∷◌, ◌++◌, length, Option, Some, None, refl, ap, ◌∙◌, arith, get_or}
use Rattle.std.specs.Prelude.{option_and_then, option_map}
use Rattle.std.proofs.lemmas.Option.{unwrap_or-slice_get}
use Rattle.std.proofs.lemmas.Grind.{common_steps}
use Rattle.term_tree.specs.declared.term.Term.{Term}
use Rattle.text_tokens.specs.Tokens.{Lined}
use Rattle.text_forms.specs.declared.place.Open.{Open}
use Rattle.text_forms.specs.declared.place.Open.TheVariants as o
use Rattle.text_forms.specs.declared.place.Last.{Last}
use Rattle.text_forms.specs.declared.place.Last.TheVariants as l
use Rattle.text_forms.specs.declared.place.Place.{Place}
use Rattle.text_forms.specs.declared.place.Stand.{Stand}
use Rattle.text_forms.specs.Moves.{place, move, around, innermost, left}
use Rattle.text_forms.specs.Steps.{does}

abbrev pub follow : {S : Type 0} → (S → Lined → Option S) → S → List Lined → Option S
follow f s [] = Some s
follow f s (a ∷ ts) = option_and_then (λ q. follow f q ts) (f s a)

abbrev pub goes_from : Place → Lined → Option Place
goes_from p a = move p a.token

abbrev pub moves : Place → List Lined → Option Place
moves = follow goes_from

abbrev pub goes : Stand → List Lined → Option Stand
goes = follow does

pub follow_joined : {S : Type 0} (f : S → Lined → Option S) (s q : S) (ts us : List Lined) → follow f s ts ≡ Some q → follow f s (ts ++ us) ≡ follow f q us
follow_joined f s q [] us e = let same : s ≡ q = cc in ap (λ r. follow f r us) same
follow_joined {S = S} f s q (a ∷ ts) us e = go (λ r. follow_joined f r q ts us) (f s a) e
  where
    go : ((r : S) → follow f r ts ≡ Some q → follow f r (ts ++ us) ≡ follow f q us) → (m : Option S) → option_and_then (λ r. follow f r ts) m ≡ Some q →
        option_and_then (λ r. follow f r (ts ++ us)) m ≡ follow f q us
    go ih None e = absurd (cc)
    go ih (Some r) e = ih r e

pub then_follow : {S : Type 0} (f : S → Lined → Option S) (s q r : S) (ts us : List Lined) → follow f s ts ≡ Some q → follow f q us ≡ Some r → follow f s (ts ++ us) ≡ Some r
then_follow f s q r ts us e h = follow_joined f s q ts us e ∙ h

pub one_follows : {S : Type 0} (f : S → Lined → Option S) (s q : S) (a : Lined) → f s a ≡ Some q → follow f s (a ∷ []) ≡ Some q
one_follows f s q a e = ap (option_and_then (λ r. follow f r [])) e

pub first_follows : {S : Type 0} (f : S → Lined → Option S) (s q r : S) (a : Lined) (ts : List Lined) → f s a ≡ Some q → follow f q ts ≡ Some r → follow f s (a ∷ ts) ≡ Some r
first_follows f s q r a ts e h = ap (option_and_then (λ n. follow f n ts)) e ∙ h

-- the parts of some tokens that follow
pub record Parts {S : Type 0} (f : S → Lined → Option S) (s q : S) (ts us : List Lined) : Type 0 where
  pub middle : S
  pub front : follow f s ts ≡ Some middle
  pub back : follow f middle us ≡ Some q

pub parts_of : {S : Type 0} (f : S → Lined → Option S) (s q : S) (ts us : List Lined) → follow f s (ts ++ us) ≡ Some q → Parts f s q ts us
parts_of f s q [] us e = record { middle = s; front = refl; back = e }
parts_of {S = S} f s q (a ∷ ts) us e = go (λ r. parts_of f r q ts us) (f s a) refl e
  where
    go : ((r : S) → follow f r (ts ++ us) ≡ Some q → Parts f r q ts us) → (m : Option S) → f s a ≡ m → option_and_then (λ r. follow f r (ts ++ us)) m ≡ Some q → Parts f s q (a ∷ ts) us
    go ih None is e = absurd (cc)
    go ih (Some r) is e = let p : Parts f r q ts us = ih r e in record { middle = p.middle; front = first_follows f s r p.middle a ts is p.front; back = p.back }

-- an answer with a value
pub record Mapped {A B : Type 0} (f : A → B) (o : Option A) (b : B) : Type 0 where
  pub value : A
  pub is : o ≡ Some value
  pub same : f value ≡ b

pub mapped : {A B : Type 0} (f : A → B) (o : Option A) (b : B) → option_map f o ≡ Some b → Mapped f o b
mapped f None b e = absurd (cc)
mapped f (Some a) b e = record { value = a; is = refl; same = cc }

pub record Chained {A B : Type 0} (f : A → Option B) (o : Option A) (b : B) : Type 0 where
  pub value : A
  pub is : o ≡ Some value
  pub same : f value ≡ Some b

pub chained : {A B : Type 0} (f : A → Option B) (o : Option A) (b : B) → option_and_then f o ≡ Some b → Chained f o b
chained f None b e = absurd (cc)
chained f (Some a) b e = record { value = a; is = refl; same = e }

-- a test that has passed
pub record Passed {A : Type 0} (test : Bool) (a b : A) : Type 0 where
  pub is : test ≡ true
  pub same : a ≡ b

pub passed : {A : Type 0} (test : Bool) (a b : A) → (if test then Some a else None) ≡ Some b → Passed test a b
passed true a b e = record { is = refl; same = cc }
passed false a b e = absurd (cc)

pub around-pushed : (outer : List Open) (inner : Open) → around (outer ++ inner ∷ []) ≡ outer
around-pushed outer inner = grind (arith, common_steps)

pub innermost-pushed : (outer : List Open) (inner : Open) → innermost (outer ++ inner ∷ []) ≡ inner
innermost-pushed outer inner =
    let at : get_or (outer ++ inner ∷ []) (length (outer ++ inner ∷ []) - 1) o.Form ≡ inner = grind (arith, common_steps) in
    unwrap_or-slice_get (outer ++ inner ∷ []) (length (outer ++ inner ∷ []) - 1) o.Form ∙ at

-- back to the construct around
pub left-pushed : (outer : List Open) (inner new : Open) (last : Last) (value : Term) → left (place (outer ++ inner ∷ []) new last) value ≡ place outer inner (l.Term value)
left-pushed outer inner new last value =
    ap (λ os. place os (innermost (outer ++ inner ∷ [])) (l.Term value)) (around-pushed outer inner) ∙ ap (λ i. place outer i (l.Term value)) (innermost-pushed outer inner)
