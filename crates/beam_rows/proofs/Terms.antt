-- Values of built-ins are terms, one lemma for each way to make one.
use Rattle.std.proofs.Common.{◌≡◌, ℕ, zero, suc, ◌+◌, ◌≤◌, ℤ, pos, negsuc, Bool, true, false, not, Option, Some, None, List, [], ◌∷◌, length, slice_get, slice_set, reverse, nat_lt, if◌then◌else◌, refl, subst, arith, ltb-true}
use Rattle.std.proofs.lemmas.List.{length-set}
use Rattle.std.specs.Option.{option_map}
use Rattle.std.specs.Str.{chars, is_utf8}
use mathlib.Core.List.{reverse_aux}
use Rattle.beam_code.specs.Answer.{Value, Is, Fails, TooWide, exact, says, truth, truth_of, both_true, other, of_two, of_one, of_truths, of_truth, found, set_at, made_of, member_of, equal}
use Rattle.beam_code.specs.BuiltIns.{elements_in}
use Rattle.term_tree.specs.IsTerm.{IsTerm, AreTerms, most_elements}
use Rattle.term_tree.specs.Size.{size_of}
use Rattle.term_tree.specs.Small.{IsSmall, is_small}
use Rattle.term_tree.specs.Tree.{Tree, Trees, Int, Atom, Nil, Cons, Tuple, No, More, conses, trees_of, list_of, elements_of}

-- the elements of a list are terms
abbrev pub AreAll : List Tree → Type 0
AreAll vs = AreTerms (trees_of vs)

-- whatever a function gives of terms is a term
abbrev pub IsFine : Value → Type 0
IsFine (Is v) = IsTerm v
IsFine Fails = Unit {0}
IsFine TooWide = Unit {0}

small_is : (i : ℤ) → is_small i ≡ true → IsSmall i
small_is (pos n) h = ltb-true n _ h
small_is (negsuc n) h = ltb-true n _ h

exact_by : (i : ℤ) (b : Bool) → is_small i ≡ b → IsFine (if b then Is (Int i) else TooWide)
exact_by i true h = small_is i h
exact_by i false h = tt

pub exact-fine : (i : ℤ) → IsFine (exact i)
exact-fine i = exact_by i (is_small i) refl

pub truth-term : (b : Bool) → IsTerm (truth b)
unfolding is_utf8 chars lib.Utf8.encode
truth-term true = refl
truth-term false = refl

pub says-fine : (b : Bool) → IsFine (says b)
says-fine b = truth-term b

pub of_two-fine : (f : ℤ → ℤ → Value) → ((a b : ℤ) → IsFine (f a b)) → (vs : List Tree) → IsFine (of_two f vs)
of_two-fine f fine (Int a ∷ Int b ∷ []) = fine a b
of_two-fine f fine _ = tt

pub of_one-fine : (f : ℤ → ℤ) (vs : List Tree) → IsFine (of_one f vs)
of_one-fine f (Int a ∷ []) = exact-fine (f a)
of_one-fine f _ = tt

both_true-fine : (f : Bool → Bool → Bool) (a b : Option Bool) → IsFine (both_true f a b)
both_true-fine f (Some a) (Some b) = truth-term (f a b)
both_true-fine f _ _ = tt

pub of_truths-fine : (f : Bool → Bool → Bool) (vs : List Tree) → IsFine (of_truths f vs)
of_truths-fine f (a ∷ b ∷ []) = both_true-fine f (truth_of a) (truth_of b)
of_truths-fine f _ = tt

other-fine : (o : Option Bool) → IsFine (other o)
other-fine (Some b) = truth-term (not b)
other-fine None = tt

pub of_truth-fine : (vs : List Tree) → IsFine (of_truth vs)
of_truth-fine (a ∷ []) = other-fine (truth_of a)
of_truth-fine _ = tt

-- lists of terms

pub listed : (ts : Trees) → AreTerms ts → AreAll (list_of ts)
listed No h = tt
listed (More t ts) h = (h.0, listed ts h.1)

size-listed : (ts : Trees) → length (list_of ts) ≡ size_of ts
size-listed No = refl
size-listed (More t ts) = omega (arith, size-listed ts)

pub size-trees_of : (ts : List Tree) → size_of (trees_of ts) ≡ length ts
size-trees_of [] = refl
size-trees_of (t ∷ ts) = omega (arith, size-trees_of ts)

-- a term that is there or not
abbrev IfTerm : Option Tree → Type 0
IfTerm (Some v) = IsTerm v
IfTerm None = Unit {0}

got : (vs : List Tree) (n : ℕ) → AreAll vs → IfTerm (slice_get vs n)
got [] n h = tt
got (v ∷ vs) zero h = h.0
got (v ∷ vs) (suc n) h = got vs n h.1

found_by : (o : Option Tree) → IfTerm o → IsFine (found o)
found_by (Some v) h = h
found_by None h = tt

pub found-fine : (ts : Trees) (n : ℕ) → AreTerms ts → IsFine (found (slice_get (list_of ts) n))
found-fine ts n h = found_by (slice_get (list_of ts) n) (got (list_of ts) n (listed ts h))

setting : (vs : List Tree) (n : ℕ) (v : Tree) → AreAll vs → IsTerm v → AreAll (slice_set vs n v)
setting [] n v h is = tt
setting (u ∷ vs) zero v h is = (is, h.1)
setting (u ∷ vs) (suc n) v h is = (h.0, setting vs n v h.1 is)

set_by : (vs : List Tree) (n : ℕ) (v : Tree) (b : Bool) → AreAll (slice_set vs n v) → length (slice_set vs n v) ≤ most_elements → IsFine (if b then Is (Tuple (trees_of (slice_set vs n v))) else Fails)
set_by vs n v true all few = (rw (size-trees_of (slice_set vs n v)) few, all)
set_by vs n v false all few = tt

pub set_at-fine : (ts : Trees) (n : ℕ) (v : Tree) → AreTerms ts → IsTerm v → size_of ts ≤ most_elements → IsFine (set_at (list_of ts) n v)
set_at-fine ts n v h is few =
    set_by (list_of ts) n v (nat_lt n (length (list_of ts))) (setting (list_of ts) n v (listed ts h) is) (rw (length-set (list_of ts) n v, size-listed ts) few)

-- the elements of a list

abbrev IfAll : Option (List Tree) → Type 0
IfAll (Some vs) = AreAll vs
IfAll None = Unit {0}

with_one : (v : Tree) (o : Option (List Tree)) → IsTerm v → IfAll o → IfAll (option_map (λ vs. v ∷ vs) o)
with_one v (Some vs) is h = (is, h)
with_one v None is h = tt

pub elements : (v : Tree) → IsTerm v → IfAll (elements_of v)
elements (Int i) h = tt
elements (Atom a) h = tt
elements Nil h = tt
elements (Cons x y) h = with_one x (elements_of y) h.0 (elements y h.1)
elements (Tuple ts) h = tt

pub conses-term : (vs : List Tree) (end : Tree) → AreAll vs → IsTerm end → IsTerm (conses vs end)
conses-term [] end h is = is
conses-term (v ∷ vs) end h is = (h.0, conses-term vs end h.1 is)

turned : (vs us : List Tree) → AreAll vs → AreAll us → AreAll (reverse_aux vs us)
turned [] us h g = g
turned (v ∷ vs) us h g = turned vs (v ∷ us) h.1 (h.0, g)

pub reversed : (vs : List Tree) → AreAll vs → AreAll (reverse vs)
reversed vs h = turned vs [] h tt

made_by : (f : List Tree → Value) (o : Option (List Tree)) → IfAll o → ((vs : List Tree) → o ≡ Some vs → AreAll vs → IsFine (f vs)) → IsFine (made_of f o)
made_by f (Some vs) h fine = fine vs refl h
made_by f None h fine = tt

pub made_of-fine : (f : List Tree → Value) (v : Tree) → IsTerm v → ((vs : List Tree) → elements_of v ≡ Some vs → AreAll vs → IsFine (f vs)) → IsFine (made_of f (elements_of v))
made_of-fine f v is fine = made_by f (elements_of v) (elements v is) fine

-- how many elements a list has
counted_by : (n : ℕ) (v : Tree) (o : Option (List Tree)) → ((vs : List Tree) → o ≡ Some vs → length vs ≡ n) → (vs : List Tree) → option_map (λ us. v ∷ us) o ≡ Some vs → length vs ≡ 1 + n
counted_by n v (Some us) h vs e =
    let same : v ∷ us ≡ vs = cc in
    let fewer : length us ≡ n = h us refl in
    subst (λ ws. length ws ≡ 1 + n) same (omega (arith, fewer))
counted_by n v None h vs e = absurd cc

pub counted : (v : Tree) (vs : List Tree) → elements_of v ≡ Some vs → length vs ≡ elements_in v
counted (Int i) vs e = absurd cc
counted (Atom a) vs e = absurd cc
counted Nil vs e = let none : [] ≡ vs = cc in subst (λ ws. length ws ≡ 0) none refl
counted (Cons x y) vs e = counted_by (elements_in y) x (elements_of y) (counted y) vs e
counted (Tuple ts) vs e = absurd cc

member_by : (b : Bool) (v : Value) → IsFine v → IsFine (if b then says true else v)
member_by true v h = says-fine true
member_by false v h = h

pub member_of-fine : (v list : Tree) → IsFine (member_of v list)
member_of-fine v (Int i) = tt
member_of-fine v (Atom a) = tt
member_of-fine v Nil = says-fine false
member_of-fine v (Cons x y) = member_by (equal v x) (member_of v y) (member_of-fine v y)
member_of-fine v (Tuple ts) = tt

pub either-term : (b : Bool) (x y : Tree) → IsTerm x → IsTerm y → IsTerm (if b then x else y)
either-term true x y h g = h
either-term false x y h g = g
