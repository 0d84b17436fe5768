-- What the readers of terms say of a term.
use Rattle.std.proofs.Common.{◌≡◌, ◌⊎◌, inl, inr, ℕ, ℤ, pos, Bool, true, false, List, [], ◌∷◌, Option, Some, None, if◌then◌else◌, refl, sym, ap, ◌∙◌}
use Rattle.std.specs.Prelude.{option_and_then, option_map}
use Rattle.std.specs.Str.{bytes_eq}
use Rattle.term_tree.specs.declared.term.Term as t
use Rattle.term_tree.specs.declared.term.Term.{Term, out-Term, roll-Term, out-roll-Term, roll-out-Term}
use Rattle.term_tree.specs.declared.term.Term.TheOpen.{Term-F}
use Rattle.std.proofs.lemmas.Slice.Eq.{bytes_eq-Decides}
use denote.Hole.Carrier.{roll}
use Rattle.module_forms.specs.Part.{number_in, number_of, integer_in, integer_of, atom_in, atom_of, list_in, list_of, with_word, pair_with, pair_in, pair_of, behind_in, behind}
use Rattle.form_laws.specs.Written.{number, tagged, proper}

pub out-Tuple : (ts : List Term) → out-Term (t.Tuple ts) ≡ Term-F.Tuple ts
unfolding roll-Term roll
out-Tuple ts = out-roll-Term (Term-F.Tuple ts)

pub out-Atom : (a : List ℕ) → out-Term (t.Atom a) ≡ Term-F.Atom a
unfolding roll-Term roll
out-Atom a = out-roll-Term (Term-F.Atom a)

pub out-Int : (i : ℤ) → out-Term (t.Int i) ≡ Term-F.Int i
unfolding roll-Term roll
out-Int i = out-roll-Term (Term-F.Int i)

pub out-List : (ts : List Term) (e : Option Term) → out-Term (t.List ts e) ≡ Term-F.List ts e
unfolding roll-Term roll
out-List ts e = out-roll-Term (Term-F.List ts e)

pub opened : (x : Term) (y : Term-F Term) → out-Term x ≡ y → x ≡ roll-Term y
opened x y e = sym (roll-out-Term x) ∙ ap roll-Term e

-- an option that is something
pub mapped : {A B : Type 0} (f : A → B) (o : Option A) (y : B) → option_map f o ≡ Some y → (x : A) × (o ≡ Some x) × (f x ≡ y)
mapped f None y e = absurd cc
mapped f (Some x) y e = (x, refl, cc)

pub chained : {A B : Type 0} (f : A → Option B) (o : Option A) (y : B) → option_and_then f o ≡ Some y → (x : A) × (o ≡ Some x) × (f x ≡ Some y)
chained f None y e = absurd cc
chained f (Some x) y e = (x, refl, e)

pub tested : {A : Type 0} (b : Bool) (x : A) (y : Option A) (z : Option A) → (if b then z else y) ≡ Some x → ((b ≡ true) × (z ≡ Some x)) ⊎ (y ≡ Some x)
tested true x y z e = inl (refl, e)
tested false x y z e = inr e

pub tested_last : {A : Type 0} (b : Bool) (x : A) (z : Option A) → (if b then z else None) ≡ Some x → (b ≡ true) × (z ≡ Some x)
tested_last true x z e = (refl, e)
tested_last false x z e = absurd cc

-- atoms
atom_in-is : (y : Term-F Term) (a : List ℕ) → atom_in y ≡ Some a → y ≡ Term-F.Atom a
atom_in-is (Term-F.Int i) a e = absurd cc
atom_in-is (Term-F.Atom b) a e = cc
atom_in-is (Term-F.List ts u) a e = absurd cc
atom_in-is (Term-F.Tuple ts) a e = absurd cc

pub atom_of-is : (x : Term) (a : List ℕ) → atom_of x ≡ Some a → x ≡ t.Atom a
unfolding roll-Term roll
atom_of-is x a e = opened x (Term-F.Atom a) (atom_in-is (out-Term x) a e)

pub atom_of-back : (a : List ℕ) → atom_of (t.Atom a) ≡ Some a
atom_of-back a = ap atom_in (out-Atom a)

-- integers and numbers
integer_in-is : (y : Term-F Term) (i : ℤ) → integer_in y ≡ Some i → y ≡ Term-F.Int i
integer_in-is (Term-F.Int j) i e = cc
integer_in-is (Term-F.Atom b) i e = absurd cc
integer_in-is (Term-F.List ts u) i e = absurd cc
integer_in-is (Term-F.Tuple ts) i e = absurd cc

pub integer_of-is : (x : Term) (i : ℤ) → integer_of x ≡ Some i → x ≡ t.Int i
unfolding roll-Term roll
integer_of-is x i e = opened x (Term-F.Int i) (integer_in-is (out-Term x) i e)

pub integer_of-back : (i : ℤ) → integer_of (t.Int i) ≡ Some i
integer_of-back i = ap integer_in (out-Int i)

number_in-is : (y : Term-F Term) (n : ℕ) → number_in y ≡ Some n → y ≡ Term-F.Int (pos n)
number_in-is (Term-F.Int (ℤ.pos m)) n e = cc
number_in-is (Term-F.Int (ℤ.negsuc m)) n e = absurd cc
number_in-is (Term-F.Atom b) n e = absurd cc
number_in-is (Term-F.List ts u) n e = absurd cc
number_in-is (Term-F.Tuple ts) n e = absurd cc

pub number_of-is : (x : Term) (n : ℕ) → number_of x ≡ Some n → x ≡ number n
unfolding roll-Term roll
number_of-is x n e = opened x (Term-F.Int (pos n)) (number_in-is (out-Term x) n e)

pub number_of-back : (n : ℕ) → number_of (number n) ≡ Some n
number_of-back n = ap number_in (out-Int (pos n))

-- proper lists
list_in-is : (y : Term-F Term) (us : List Term) → list_in y ≡ Some us → y ≡ Term-F.List us None
list_in-is (Term-F.Int i) us e = absurd cc
list_in-is (Term-F.Atom b) us e = absurd cc
list_in-is (Term-F.List ts None) us e = cc
list_in-is (Term-F.List ts (Some u)) us e = absurd cc
list_in-is (Term-F.Tuple ts) us e = absurd cc

pub list_of-is : (x : Term) (us : List Term) → list_of x ≡ Some us → x ≡ proper us
unfolding roll-Term roll
list_of-is x us e = opened x (Term-F.List us None) (list_in-is (out-Term x) us e)

pub list_of-back : (us : List Term) → list_of (proper us) ≡ Some us
list_of-back us = ap list_in (out-List us None)

-- pairs with a word
with_word-is : (o : Option (List ℕ)) (u : Term) (q : List ℕ × Term) → with_word o u ≡ Some q → (o ≡ Some q.0) × (u ≡ q.1)
with_word-is None u q e = absurd cc
with_word-is (Some w) u q e = let same : (w, u) ≡ q = cc in (ap (λ p. Some p.0) same, ap (λ p. p.1) same)

pub pair_with-is : (ts : List Term) (q : List ℕ × Term) → pair_with ts ≡ Some q → ts ≡ t.Atom q.0 ∷ q.1 ∷ []
pair_with-is [] q e = absurd cc
pair_with-is (a ∷ []) q e = absurd cc
pair_with-is (a ∷ u ∷ []) q e =
    let both = with_word-is (atom_of a) u q e in
    let head : a ≡ t.Atom q.0 = atom_of-is a q.0 both.0 in
    cc
pair_with-is (a ∷ u ∷ v ∷ ts) q e = absurd cc

pub pair_with-back : (w : List ℕ) (u : Term) → pair_with (t.Atom w ∷ u ∷ []) ≡ Some (w, u)
pair_with-back w u = ap (λ o. with_word o u) (atom_of-back w)

pair_in-is : (y : Term-F Term) (q : List ℕ × Term) → pair_in y ≡ Some q → y ≡ Term-F.Tuple (t.Atom q.0 ∷ q.1 ∷ [])
pair_in-is (Term-F.Int i) q e = absurd cc
pair_in-is (Term-F.Atom b) q e = absurd cc
pair_in-is (Term-F.List ts u) q e = absurd cc
pair_in-is (Term-F.Tuple ts) q e = ap (λ us. Term-F.Tuple us) (pair_with-is ts q e)

pub pair_of-is : (x : Term) (q : List ℕ × Term) → pair_of x ≡ Some q → x ≡ tagged q.0 q.1
unfolding roll-Term roll
pair_of-is x q e = opened x (Term-F.Tuple (t.Atom q.0 ∷ q.1 ∷ [])) (pair_in-is (out-Term x) q e)

pub pair_of-back : (w : List ℕ) (u : Term) → pair_of (tagged w u) ≡ Some (w, u)
pair_of-back w u = ap pair_in (out-Tuple (t.Atom w ∷ u ∷ [])) ∙ pair_with-back w u

pub word_is : (a b : List ℕ) → bytes_eq a b ≡ true → a ≡ b
word_is a b e = (bytes_eq-Decides a b).0 e

pub word_same : (a : List ℕ) → bytes_eq a a ≡ true
word_same a = (bytes_eq-Decides a a).1 refl

behind_in-is : (word : List ℕ) (o : Option (List ℕ × Term)) (u : Term) → behind_in word o ≡ Some u → o ≡ Some (word, u)
behind_in-is word None u e = absurd cc
behind_in-is word (Some q) u e =
    let both = tested_last (bytes_eq q.0 word) u (Some q.1) e in
    let same : q.0 ≡ word = word_is q.0 word both.0 in
    let of : q.1 ≡ u = cc in
    ap (λ w. Some (w, q.1)) same ∙ ap (λ v. Some (word, v)) of

pub behind-is : (word : List ℕ) (x u : Term) → behind word x ≡ Some u → x ≡ tagged word u
behind-is word x u e = pair_of-is x (word, u) (behind_in-is word (pair_of x) u e)

pub behind-back : (word : List ℕ) (u : Term) → behind word (tagged word u) ≡ Some u
behind-back word u = ap (behind_in word) (pair_of-back word u) ∙ rw (word_same word) refl
