-- What a comparison finds of two words, by what a look at each shows.
use Rattle.std.proofs.Common.{◌≡◌, ◌≢◌, ℕ, zero, suc, ◌+◌, ◌<◌, Bool, true, false, cond, Some, List, [], ◌∷◌, slice_get, nat_eq, refl, ap, sym, subst, ◌∙◌, arith}
use Rattle.std.specs.declared.cmp.Ordering.{Ordering}
use Rattle.std.specs.declared.cmp.Ordering.TheVariants.{Less, Equal, Greater}
use Rattle.std.specs.Ordering.{nat_cmp, int_cmp}
use Rattle.std.specs.Cmp.Lexicographic.{slice_cmp}
use Rattle.std.proofs.lemmas.Bool.Decides.{nat_tests}
use Rattle.tagged_words.specs.declared.look.Look.{Look}
use Rattle.tagged_words.specs.declared.look.Look.TheVariants as look
use Rattle.tagged_words.specs.Look.{look_of}
use Rattle.tagged_words.specs.Seen.{Seen, AllSeen, Int, Atom, Nil, Cons, Tuple, Bad, No, More, seen_size, Sees, SeesAll}
use Rattle.tagged_words.specs.Store.{Store}
use Rattle.word_walks.specs.declared.comparing.Meeting.{Meeting}
use Rattle.word_walks.specs.declared.comparing.Meeting.TheVariants as meeting
use Rattle.word_walks.specs.declared.scratch.Row.{Row}
use Rattle.word_walks.specs.Compared.{Found, Is, Meets, then_found, seen_rank, compared, all_compared}
use Rattle.word_walks.specs.Pairs.{by_order, texts_order, names_order, pairs_from, tuples_meet, look_rank, looks_meet, words_meet, SeesRows}

-- what is found where the words of a row decide
pub record Opened (s : Store) (names : List (List ℕ)) (row : Row) (f : Found) : Type 0 where
  pub xs : AllSeen
  pub ys : AllSeen
  pub sees : SeesRows s names row xs ys
  pub is : f ≡ all_compared xs ys

-- what is found of two words, by what they show
abbrev pub Outcome : Store → List (List ℕ) → Meeting → Found → Type 0
Outcome s names (meeting.Bad w) f = f ≡ Meets w
Outcome s names (meeting.Differ o) f = (f ≡ Is o) × (o ≡ Equal → ⊥)
Outcome s names meeting.Same f = f ≡ Is Equal
Outcome s names (meeting.Deeper row) f = Opened s names row f

pub then_end : (f : Found) → then_found f (Is Equal) ≡ f
then_end (Is Less) = refl
then_end (Is Equal) = refl
then_end (Is Greater) = refl
then_end (Meets w) = refl

by_order_outcome : (s : Store) (names : List (List ℕ)) (o : Ordering) → Outcome s names (by_order o) (Is o)
by_order_outcome s names Less = (refl, λ e. cc)
by_order_outcome s names Equal = refl
by_order_outcome s names Greater = (refl, λ e. cc)

-- ---- atoms

number_same : (n : ℕ) → nat_cmp n n ≡ Equal
number_same n = grind (arith, nat_tests)

text_same : (a : List ℕ) → slice_cmp nat_cmp a a ≡ Equal
text_same [] = refl
text_same (c ∷ a) = rw (number_same c) (text_same a)

names_differ : (names : List (List ℕ)) (m n : ℕ) (a b : List ℕ) (same : Bool) → nat_eq m n ≡ same → slice_get names m ≡ Some a → slice_get names n ≡ Some b
    → cond same Equal (texts_order (slice_get names m) (slice_get names n)) ≡ slice_cmp nat_cmp a b
names_differ names m n a b true e p q =
    let i : m ≡ n = grind (arith, nat_tests) in
    let j : a ≡ b = cc in
    sym (subst (λ b. slice_cmp nat_cmp a b ≡ Equal) j (text_same a))
names_differ names m n a b false e p q = rw (p, q) refl

names_order_is : (names : List (List ℕ)) (m n : ℕ) (a b : List ℕ) → slice_get names m ≡ Some a → slice_get names n ≡ Some b → names_order names m n ≡ slice_cmp nat_cmp a b
names_order_is names m n a b p q = names_differ names m n a b (nat_eq m n) refl p q

-- ---- tuples

pub tuples_same : (at m other n : ℕ) → m ≡ n → 0 < m → tuples_meet at m other n ≡ meeting.Deeper (pairs_from (at + 4) at (other + 4) other m)
tuples_same at m other n e some = grind (arith, nat_tests)

pub tuples_empty : (at m other n : ℕ) → m ≡ 0 → n ≡ 0 → tuples_meet at m other n ≡ meeting.Same
tuples_empty at m other n e f = grind (arith, nat_tests)

pub tuples_differ : (at m other n : ℕ) → m ≢ n → tuples_meet at m other n ≡ meeting.Differ (nat_cmp m n)
tuples_differ at m other n e = grind (arith, nat_tests)

numbers_differ : (m n : ℕ) → m ≢ n → nat_cmp m n ≡ Equal → ⊥
numbers_differ m n e f = grind (arith, nat_tests)

pub none_compared : (xs ys : AllSeen) → seen_size xs ≡ 0 → all_compared xs ys ≡ Is Equal
none_compared No ys e = refl
none_compared (More x xs) ys e = absurd (omega arith)

then_differs : (o : Ordering) (f : Found) → (o ≡ Equal → ⊥) → then_found (Is o) f ≡ Is o
then_differs Less f n = refl
then_differs Equal f n = absurd (n refl)
then_differs Greater f n = refl

-- how two sizes go
pub data Sizes : ℕ → ℕ → Type 0 where
  Empty : {m n : ℕ} → m ≡ 0 → n ≡ 0 → Sizes m n
  Alike : {m n : ℕ} → m ≡ n → 0 < m → Sizes m n
  Unlike : {m n : ℕ} → m ≢ n → Sizes m n

pub sizes_of : (m n : ℕ) → Sizes m n
sizes_of zero zero = Empty refl refl
sizes_of zero (suc n) = Unlike (omega arith)
sizes_of (suc m) zero = Unlike (omega arith)
sizes_of (suc m) (suc n) = more (sizes_of m n) where
  more : Sizes m n → Sizes (suc m) (suc n)
  more (Empty e f) = Alike (omega arith) (omega arith)
  more (Alike e some) = Alike (omega arith) (omega arith)
  more (Unlike e) = Unlike (omega arith)

tuples_outcome : (s : Store) (names : List (List ℕ)) (at other : ℕ) (xs ys : AllSeen) → Sizes (seen_size xs) (seen_size ys) → SeesAll s names at (at + 4) xs → SeesAll s names other (other + 4) ys
    → Outcome s names (tuples_meet at (seen_size xs) other (seen_size ys)) (compared (Tuple xs) (Tuple ys))
tuples_outcome s names at other xs ys (Empty e f) p q =
    let is : then_found (Is (nat_cmp (seen_size xs) (seen_size ys))) (all_compared xs ys) ≡ Is Equal = rw (e, f, none_compared xs ys e) refl in
    subst (λ m. Outcome s names m (compared (Tuple xs) (Tuple ys))) (sym (tuples_empty at (seen_size xs) other (seen_size ys) e f)) is
tuples_outcome s names at other xs ys (Alike e some) p q =
    let same : nat_cmp (seen_size xs) (seen_size ys) ≡ Equal = subst (λ n. nat_cmp (seen_size xs) n ≡ Equal) e (number_same (seen_size xs)) in
    subst (λ m. Outcome s names m (compared (Tuple xs) (Tuple ys))) (sym (tuples_same at (seen_size xs) other (seen_size ys) e some))
    (record { xs = xs; ys = ys; sees = record { left_size = refl; right_size = sym e; left = p; right = q }; is = ap (λ o. then_found (Is o) (all_compared xs ys)) same })
tuples_outcome s names at other xs ys (Unlike e) p q =
    let differ = numbers_differ (seen_size xs) (seen_size ys) e in
    subst (λ m. Outcome s names m (compared (Tuple xs) (Tuple ys))) (sym (tuples_differ at (seen_size xs) other (seen_size ys) e))
    (then_differs (nat_cmp (seen_size xs) (seen_size ys)) (all_compared xs ys) differ, differ)

-- ---- words

rank_shown : (s : Store) (names : List (List ℕ)) (limit w : ℕ) (v : Seen) → Sees s names limit w v → look_rank (look_of s names limit w) ≡ seen_rank v
rank_shown s names limit w (Int i) p = ap look_rank p
rank_shown s names limit w (Atom a) p = ap look_rank p.1
rank_shown s names limit w Nil p = ap look_rank p
rank_shown s names limit w (Cons head tail) p = ap look_rank p.3
rank_shown s names limit w (Tuple vs) p = ap look_rank p.1
rank_shown s names limit w (Bad v) p = ap look_rank p.0

meets_unlike : (names : List (List ℕ)) (x y : ℕ) (k l : Look) → look_rank k < 5 → look_rank l < 5 → look_rank k ≢ look_rank l
    → looks_meet names x k y l ≡ meeting.Differ (nat_cmp (look_rank k) (look_rank l))
meets_unlike names x y look.Bad l a b n = absurd (omega arith)
meets_unlike names x y k look.Bad a b n = absurd (omega arith)
meets_unlike names x y (look.Small i) (look.Small j) a b n = absurd (n refl)
meets_unlike names x y (look.Atom i) (look.Atom j) a b n = absurd (n refl)
meets_unlike names x y look.Nil look.Nil a b n = absurd (n refl)
meets_unlike names x y (look.Cons i) (look.Cons j) a b n = absurd (n refl)
meets_unlike names x y (look.Tuple i h) (look.Tuple j o) a b n = absurd (n refl)
meets_unlike names x y k l a b n = refl

meets_right : (names : List (List ℕ)) (x y : ℕ) (k : Look) → look_rank k < 5 → looks_meet names x k y look.Bad ≡ meeting.Bad y
meets_right names x y look.Bad a = absurd (omega arith)
meets_right names x y k a = refl

module _ (s : Store) (names : List (List ℕ)) (left_limit x right_limit y : ℕ) where
  unlike : (v u : Seen) → Sees s names left_limit x v → Sees s names right_limit y u → seen_rank v < 5 → seen_rank u < 5 → seen_rank v ≢ seen_rank u
      → Outcome s names (words_meet s names left_limit x right_limit y) (Is (nat_cmp (seen_rank v) (seen_rank u)))
  unlike v u p q a b n =
      let i = rank_shown s names left_limit x v p in
      let j = rank_shown s names right_limit y u q in
      let e = meets_unlike names x y (look_of s names left_limit x) (look_of s names right_limit y) (omega arith) (omega arith) (λ e. n (sym i ∙ e ∙ j)) in
      subst (λ m. Outcome s names m (Is (nat_cmp (seen_rank v) (seen_rank u)))) (sym (e ∙ ap (λ a. meeting.Differ (nat_cmp a (look_rank (look_of s names right_limit y)))) i ∙ ap (λ b. meeting.Differ (nat_cmp (seen_rank v) b)) j))
      (refl, numbers_differ (seen_rank v) (seen_rank u) n)

  right_bad : (v u : Seen) (w : ℕ) → Sees s names left_limit x v → Sees s names right_limit y (Bad w) → seen_rank v < 5 → Outcome s names (words_meet s names left_limit x right_limit y) (Meets w)
  right_bad v u w p q a =
      let i = rank_shown s names left_limit x v p in
      subst (λ m. Outcome s names m (Meets w)) (sym (ap (looks_meet names x (look_of s names left_limit x) y) q.0 ∙ meets_right names x y (look_of s names left_limit x) (omega arith))) (ap Meets q.1)

  -- the outcome at two looks
  at_looks : (k l : Look) (f : Found) → look_of s names left_limit x ≡ k → look_of s names right_limit y ≡ l → Outcome s names (looks_meet names x k y l) f
      → Outcome s names (words_meet s names left_limit x right_limit y) f
  at_looks k l f i j o = subst (λ m. Outcome s names m f) (sym (ap (λ k. looks_meet names x k y (look_of s names right_limit y)) i ∙ ap (looks_meet names x k y) j)) o

  pub outcome : (v u : Seen) → Sees s names left_limit x v → Sees s names right_limit y u → Outcome s names (words_meet s names left_limit x right_limit y) (compared v u)
  outcome (Bad w) u p q = subst (λ m. Outcome s names m (Meets w)) (sym (ap (λ k. looks_meet names x k y (look_of s names right_limit y)) p.0)) (ap Meets p.1)
  outcome v (Bad w) p q = right_bad v (Bad w) w p q (omega arith)
  outcome (Int i) (Int j) p q = at_looks (look.Small i) (look.Small j) _ p q (by_order_outcome s names (int_cmp i j))
  outcome (Atom a) (Atom b) p q = at_looks (look.Atom p.0) (look.Atom q.0) _ p.1 q.1
      (subst (λ o. Outcome s names (by_order o) (Is (slice_cmp nat_cmp a b))) (sym (names_order_is names p.0 q.0 a b p.2 q.2)) (by_order_outcome s names (slice_cmp nat_cmp a b)))
  outcome Nil Nil p q = at_looks look.Nil look.Nil _ p q refl
  outcome (Cons h t) (Cons i u) p q = at_looks (look.Cons p.0) (look.Cons q.0) _ p.3 q.3
      (record {
        xs = More h (More t No);
        ys = More i (More u No);
        sees = record { left_size = refl; right_size = refl; left = (p.1, p.4, p.6, (p.2, p.5, p.7, tt)); right = (q.1, q.4, q.6, (q.2, q.5, q.7, tt)) };
        is = ap (then_found (compared h i)) (sym (then_end (compared t u)));
      })
  outcome (Tuple vs) (Tuple us) p q = at_looks (look.Tuple p.0 (seen_size vs)) (look.Tuple q.0 (seen_size us)) _ p.1 q.1
      (tuples_outcome s names p.0 q.0 vs us (sizes_of (seen_size vs) (seen_size us)) p.2 q.2)
  outcome v u p q = unlike v u p q (omega arith) (omega arith) (omega arith)

  pub outcome_by : (m : Meeting) → words_meet s names left_limit x right_limit y ≡ m → (v u : Seen) → Sees s names left_limit x v → Sees s names right_limit y u → Outcome s names m (compared v u)
  outcome_by m e v u p q = subst (λ m. Outcome s names m (compared v u)) e (outcome v u p q)
