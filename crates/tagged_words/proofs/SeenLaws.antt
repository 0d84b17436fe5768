-- One thing is seen from a word, something always is, and a tree stays where words are kept.
use Rattle.std.proofs.Common.{◌≡◌, ℕ, zero, suc, ◌+◌, ◌*◌, ◌/◌, ◌%◌, ◌<◌, ◌≤◌, Bool, true, false, ◌&&◌, if◌then◌else◌, Option, Some, None, List, [], length, get_or, slice_get, nat_eq, nat_lt, refl, ap, sym, subst, ◌∙◌, arith}
use Rattle.std.proofs.lemmas.Bool.{and_parts}
use Rattle.std.proofs.lemmas.Bool.Decides.{nat_tests}
use Rattle.std.proofs.lemmas.Option.{slice_get_within, slice_get-get_or}
use Rattle.term_tree.specs.Tree as t
use Rattle.tagged_words.proofs.StoreLaws.{word_inside, whole_kept}
use Rattle.tagged_words.specs.declared.kind.Class.{Class}
use Rattle.tagged_words.specs.declared.kind.Class.TheVariants as class
use Rattle.tagged_words.specs.declared.look.Look.{Look}
use Rattle.tagged_words.specs.declared.look.Look.TheVariants as look
use Rattle.tagged_words.specs.Look.{look_of, look_in, look_atom, look_cons, look_tuple, address_end}
use Rattle.tagged_words.specs.Seen as s
use Rattle.tagged_words.specs.Store.{Store, word_of, is_whole}
use Rattle.tagged_words.specs.Word.{class_of}

-- the kind of what a word shows, and of what is seen from it
abbrev shown : Look → ℕ
shown (look.Small i) = 0
shown (look.Atom n) = 1
shown look.Nil = 2
shown (look.Cons at) = 3
shown (look.Tuple at n) = 4
shown look.Bad = 5

abbrev kind : s.Seen → ℕ
kind (s.Int i) = 0
kind (s.Atom a) = 1
kind s.Nil = 2
kind (s.Cons head tail) = 3
kind (s.Tuple vs) = 4
kind (s.Bad w) = 5

some_is_one : {A : Type 0} (o : Option A) (x y : A) → o ≡ Some x → o ≡ Some y → x ≡ y
some_is_one (Some z) x y e f = cc
some_is_one None x y e f = absurd cc

module _ (store : Store) (names : List (List ℕ)) where
  kinds : (limit w : ℕ) (v : s.Seen) → s.Sees store names limit w v → shown (look_of store names limit w) ≡ kind v
  kinds limit w (s.Int i) h = ap shown h
  kinds limit w (s.Atom a) h = ap shown h.1
  kinds limit w s.Nil h = ap shown h
  kinds limit w (s.Cons head tail) h = ap shown h.3
  kinds limit w (s.Tuple vs) h = ap shown h.1
  kinds limit w (s.Bad v) h = ap shown h.0

  moved : (limit to w x : ℕ) (v : s.Seen) → limit ≡ to → w ≡ x → s.Sees store names limit w v → s.Sees store names to x v
  moved limit to w x v below same h = subst (λ z. s.Sees store names z x v) below (subst (λ z. s.Sees store names limit z v) same h)

  mutual
    pub one_seen : (limit w : ℕ) (u v : s.Seen) → s.Sees store names limit w u → s.Sees store names limit w v → u ≡ v
    one_seen limit w (s.Int i) (s.Int j) h g = let same : look.Small i ≡ look.Small j = sym h ∙ g in cc
    one_seen limit w (s.Atom a) (s.Atom b) h g =
        let same : look.Atom h.0 ≡ look.Atom g.0 = sym h.1 ∙ g.1 in
        let place : h.0 ≡ g.0 = cc in
        ap s.Atom (some_is_one (slice_get names h.0) a b h.2 (ap (slice_get names) place ∙ g.2))
    one_seen limit w s.Nil s.Nil h g = refl
    one_seen limit w (s.Cons head tail) (s.Cons x y) h g =
        let same : look.Cons h.0 ≡ look.Cons g.0 = sym h.3 ∙ g.3 in
        let place : h.0 ≡ g.0 = cc in
        let left : h.1 ≡ g.1 = some_is_one (word_of store h.0) h.1 g.1 h.4 (ap (word_of store) place ∙ g.4) in
        let right : h.2 ≡ g.2 = some_is_one (word_of store (h.0 + 4)) h.2 g.2 h.5 (ap (λ z. word_of store (z + 4)) place ∙ g.5) in
        let heads : head ≡ x = one_seen h.0 h.1 head x h.6 (moved g.0 h.0 g.1 h.1 x (sym place) (sym left) g.6) in
        let tails : tail ≡ y = one_seen h.0 h.2 tail y h.7 (moved g.0 h.0 g.2 h.2 y (sym place) (sym right) g.7) in
        cc
    one_seen limit w (s.Tuple vs) (s.Tuple us) h g =
        let same : look.Tuple h.0 (s.seen_size vs) ≡ look.Tuple g.0 (s.seen_size us) = sym h.1 ∙ g.1 in
        let place : h.0 ≡ g.0 = cc in
        let size : s.seen_size vs ≡ s.seen_size us = cc in
        ap s.Tuple (all_one h.0 (h.0 + 4) vs us size h.2 (subst (λ z. s.SeesAll store names z (z + 4) us) (sym place) g.2))
    one_seen limit w (s.Bad a) (s.Bad b) h g = ap s.Bad (h.1 ∙ sym g.1)
    one_seen limit w u v h g =
        let first = kinds limit w u h in
        let second = kinds limit w v g in
        absurd (omega arith)

    all_one : (limit at : ℕ) (vs us : s.AllSeen) → s.seen_size vs ≡ s.seen_size us → s.SeesAll store names limit at vs → s.SeesAll store names limit at us → vs ≡ us
    all_one limit at s.No s.No size h g = refl
    all_one limit at s.No (s.More u us) size h g = absurd (omega arith)
    all_one limit at (s.More v vs) s.No size h g = absurd (omega arith)
    all_one limit at (s.More v vs) (s.More u us) size h g =
        let word : h.0 ≡ g.0 = some_is_one (word_of store at) h.0 g.0 h.1 g.1 in
        let first : v ≡ u = one_seen limit h.0 v u h.2 (moved limit limit g.0 h.0 u refl (sym word) g.2) in
        let rest : vs ≡ us = all_one limit (at + 4) vs us (omega arith) h.3 g.3 in
        cc

-- ---- what a word shows is there

-- a cell below a limit, all of whose words are there
pub record IsCell (store : Store) (limit at words : ℕ) : Type 0 where
  pub below : at < limit
  pub there : is_whole store at words ≡ true

abbrev IsThere : Store → List (List ℕ) → ℕ → Look → Type 0
IsThere store names limit (look.Small i) = Unit {0}
IsThere store names limit (look.Atom n) = n < length names
IsThere store names limit look.Nil = Unit {0}
IsThere store names limit (look.Cons at) = IsCell store limit at 2
IsThere store names limit (look.Tuple at n) = IsCell store limit at (1 + n)
IsThere store names limit look.Bad = Unit {0}

module _ (store : Store) (names : List (List ℕ)) (limit : ℕ) where
  there_atom : (n : ℕ) (b : Bool) → nat_lt n (length names) ≡ b → IsThere store names limit (if b then look.Atom n else look.Bad)
  there_atom n true is = grind (arith, nat_tests)
  there_atom n false is = tt

  there_cons : (at : ℕ) (b : Bool) → nat_lt at limit && is_whole store at 2 ≡ b → IsThere store names limit (if b then look.Cons at else look.Bad)
  there_cons at true is =
      let both = and_parts (nat_lt at limit) (is_whole store at 2) is in
      let low = both.0 in
      record { below = grind (arith, nat_tests); there = both.1 }
  there_cons at false is = tt

  there_tuple : (at h : ℕ) (b : Bool) → nat_lt at limit && (nat_eq (h % 64) 0 && is_whole store at (1 + h / 64)) ≡ b → IsThere store names limit (if b then look.Tuple at (h / 64) else look.Bad)
  there_tuple at h true is =
      let both = and_parts (nat_lt at limit) (nat_eq (h % 64) 0 && is_whole store at (1 + h / 64)) is in
      let low = both.0 in
      record { below = grind (arith, nat_tests); there = (and_parts (nat_eq (h % 64) 0) (is_whole store at (1 + h / 64)) both.1).1 }
  there_tuple at h false is = tt

  there_boxed : (at : ℕ) (o : Option ℕ) → IsThere store names limit (look_tuple store limit at o)
  there_boxed at None = tt
  there_boxed at (Some h) = there_tuple at h (nat_lt at limit && (nat_eq (h % 64) 0 && is_whole store at (1 + h / 64))) refl

  there_in : (c : Class) → IsThere store names limit (look_in store names limit c)
  there_in (class.Small i) = tt
  there_in (class.Atom n) = there_atom n (nat_lt n (length names)) refl
  there_in class.Nil = tt
  there_in (class.Cons at) = there_cons at (nat_lt at limit && is_whole store at 2) refl
  there_in (class.Boxed at) = there_boxed at (word_of store at)
  there_in class.Other = tt

  pub is_there : (w : ℕ) (l : Look) → look_of store names limit w ≡ l → IsThere store names limit l
  is_there w l e = subst (IsThere store names limit) e (there_in (class_of w))

-- ---- something is seen

module _ (store : Store) (names : List (List ℕ)) where
  -- what is seen from the words of a cell, given what is seen from each word below its address
  all_seen : (at place n : ℕ) → ((w : ℕ) → (v : s.Seen) × s.Sees store names at w v) → ((k : ℕ) → k < n → (x : ℕ) × (word_of store (place + 4 * k) ≡ Some x)) → (vs : s.AllSeen) × (s.seen_size vs ≡ n) × s.SeesAll store names at place vs
  all_seen at place zero see there = (s.No, refl, tt)
  all_seen at place (suc n) see there =
      let first = there 0 (omega arith) in
      let here : place ≡ place + 4 * 0 = omega arith in
      let one = see first.0 in
      let rest = all_seen at (place + 4) n see (λ k low.
      let next = there (suc k) (omega arith) in
      let same : place + 4 + 4 * k ≡ place + 4 * suc k = omega arith in
      (next.0, ap (word_of store) same ∙ next.1)) in
      let size : s.seen_size rest.0 ≡ n = rest.1 in
      (s.More one.0 rest.0, omega arith, (first.0, ap (word_of store) here ∙ first.1, one.1, rest.2))

  seen_by : (bound limit w : ℕ) → limit ≤ bound → (l : Look) → look_of store names limit w ≡ l → ((at : ℕ) → at < limit → (x : ℕ) → (v : s.Seen) × s.Sees store names at x v) → (v : s.Seen) × s.Sees store names limit w v
  seen_by bound limit w low (look.Small i) e below = (s.Int i, e)
  seen_by bound limit w low (look.Atom n) e below = (s.Atom (get_or names n []), (n, e, slice_get-get_or names n [] (is_there store names limit w (look.Atom n) e)))
  seen_by bound limit w low look.Nil e below = (s.Nil, e)
  seen_by bound limit w low (look.Cons at) e below =
      let cell = is_there store names limit w (look.Cons at) e in
      let first = word_inside store at 2 0 cell.there (omega arith) in
      let second = word_inside store at 2 1 cell.there (omega arith) in
      let here : at ≡ at + 4 * 0 = omega arith in
      let next : at + 4 ≡ at + 4 * 1 = omega arith in
      let head = below at cell.below first.0 in
      let tail = below at cell.below second.0 in
      (s.Cons head.0 tail.0, (at, first.0, second.0, e, ap (word_of store) here ∙ first.1, ap (word_of store) next ∙ second.1, head.1, tail.1))
  seen_by bound limit w low (look.Tuple at n) e below =
      let cell = is_there store names limit w (look.Tuple at n) e in
      let all = all_seen at (at + 4) n (below at cell.below) (λ k less.
      let word = word_inside store at (1 + n) (suc k) cell.there (omega arith) in
      let same : at + 4 + 4 * k ≡ at + 4 * suc k = omega arith in
      (word.0, ap (word_of store) same ∙ word.1)) in
      (s.Tuple all.0, (at, e ∙ ap (look.Tuple at) (sym all.1), all.2))
  seen_by bound limit w low look.Bad e below = (s.Bad w, (e, refl))

  seen_below : (bound limit : ℕ) → limit ≤ bound → (w : ℕ) → (v : s.Seen) × s.Sees store names limit w v
  seen_below zero limit low w = seen_by zero limit w low (look_of store names limit w) refl (λ at less x. absurd (omega arith))
  seen_below (suc bound) limit low w = seen_by (suc bound) limit w low (look_of store names limit w) refl (λ at less x. seen_below bound at (omega arith) x)

  pub something_seen : (limit w : ℕ) → (v : s.Seen) × s.Sees store names limit w v
  something_seen limit w = seen_below limit limit (omega arith) w

-- ---- what stands stays

-- what a word shows stays, unless it stands for no term
abbrev Stays : Look → Look → Type 0
Stays look.Bad later = Unit {0}
Stays l later = later ≡ l

module _ (store later : Store) (names more : List (List ℕ)) (keeps : s.Keeps store later) (keeps_names : s.KeepsNames names more) where
  atom_stays : (n : ℕ) (b : Bool) → nat_lt n (length names) ≡ b → Stays (if b then look.Atom n else look.Bad) (look_atom more n)
  atom_stays n true is =
      let low : n < length names = grind (arith, nat_tests) in
      let still : n < length more = slice_get_within more n (get_or names n []) (keeps_names n (get_or names n []) (slice_get-get_or names n [] low)) in
      let test : nat_lt n (length more) ≡ true = grind (arith, nat_tests) in
      rw test refl
  atom_stays n false is = tt

  cons_stays : (limit at : ℕ) (b : Bool) → nat_lt at limit && is_whole store at 2 ≡ b → Stays (if b then look.Cons at else look.Bad) (look_cons later limit at)
  cons_stays limit at true is =
      let both = and_parts (nat_lt at limit) (is_whole store at 2) is in
      rw both.0 (rw (whole_kept store later keeps at 2 (omega arith) both.1) refl)
  cons_stays limit at false is = tt

  tuple_stays : (limit at h : ℕ) (b : Bool) → nat_lt at limit && (nat_eq (h % 64) 0 && is_whole store at (1 + h / 64)) ≡ b
      → Stays (if b then look.Tuple at (h / 64) else look.Bad) (look_tuple later limit at (Some h))
  tuple_stays limit at h true is =
      let both = and_parts (nat_lt at limit) (nat_eq (h % 64) 0 && is_whole store at (1 + h / 64)) is in
      let rest = and_parts (nat_eq (h % 64) 0) (is_whole store at (1 + h / 64)) both.1 in
      rw both.0 (rw rest.0 (rw (whole_kept store later keeps at (1 + h / 64) (omega arith) rest.1) refl))
  tuple_stays limit at h false is = tt

  boxed_stays : (limit at : ℕ) (o : Option ℕ) → word_of store at ≡ o → Stays (look_tuple store limit at o) (look_tuple later limit at (word_of later at))
  boxed_stays limit at None e = tt
  boxed_stays limit at (Some h) e =
      subst (λ z. Stays (look_tuple store limit at (Some h)) (look_tuple later limit at z)) (sym (keeps at h e))
      (tuple_stays limit at h (nat_lt at limit && (nat_eq (h % 64) 0 && is_whole store at (1 + h / 64))) refl)

  stays_in : (limit : ℕ) (c : Class) → Stays (look_in store names limit c) (look_in later more limit c)
  stays_in limit (class.Small i) = refl
  stays_in limit (class.Atom n) = atom_stays n (nat_lt n (length names)) refl
  stays_in limit class.Nil = refl
  stays_in limit (class.Cons at) = cons_stays limit at (nat_lt at limit && is_whole store at 2) refl
  stays_in limit (class.Boxed at) = boxed_stays limit at (word_of store at) refl
  stays_in limit class.Other = tt

  stays : (limit w : ℕ) (l : Look) → look_of store names limit w ≡ l → Stays l (look_of later more limit w)
  stays limit w l e = subst (λ z. Stays z (look_of later more limit w)) e (stays_in limit (class_of w))

  mutual
    tree_kept : (limit w : ℕ) (v : t.Tree) → s.IsTreeBelow store names limit w v → s.IsTreeBelow later more limit w v
    tree_kept limit w (t.Int i) h = stays limit w (look.Small i) h
    tree_kept limit w (t.Atom a) h = (h.0, stays limit w (look.Atom h.0) h.1, keeps_names h.0 a h.2)
    tree_kept limit w t.Nil h = stays limit w look.Nil h
    tree_kept limit w (t.Cons head tail) h =
        (h.0, h.1, h.2, stays limit w (look.Cons h.0) h.3, keeps h.0 h.1 h.4, keeps (h.0 + 4) h.2 h.5, tree_kept h.0 h.1 head h.6, tree_kept h.0 h.2 tail h.7)
    tree_kept limit w (t.Tuple vs) h = (h.0, stays limit w (look.Tuple h.0 (s.seen_size (s.all_whole vs))) h.1, all_kept h.0 (h.0 + 4) vs h.2)

    all_kept : (limit at : ℕ) (vs : t.Trees) → s.AreTreesBelow store names limit at vs → s.AreTreesBelow later more limit at vs
    all_kept limit at t.No h = tt
    all_kept limit at (t.More v vs) h = (h.0, keeps at h.0 h.1, tree_kept limit h.0 v h.2, all_kept limit (at + 4) vs h.3)

  pub a_tree_stays : (w : ℕ) (v : t.Tree) → s.IsTreeOf store names w v → s.IsTreeOf later more w v
  a_tree_stays w v h = tree_kept address_end w v h

-- ---- the class of a word that stands for a term

abbrev IsOf : Look → Class → Type 0
IsOf (look.Small i) c = c ≡ class.Small i
IsOf (look.Atom n) c = c ≡ class.Atom n
IsOf look.Nil c = c ≡ class.Nil
IsOf (look.Cons at) c = c ≡ class.Cons at
IsOf (look.Tuple at n) c = c ≡ class.Boxed at
IsOf look.Bad c = Unit {0}

module _ (store : Store) (names : List (List ℕ)) (limit : ℕ) where
  of_if : (b : Bool) (l : Look) (c : Class) → IsOf l c → IsOf (if b then l else look.Bad) c
  of_if true l c is = is
  of_if false l c is = tt

  of_boxed : (at : ℕ) (o : Option ℕ) → IsOf (look_tuple store limit at o) (class.Boxed at)
  of_boxed at None = tt
  of_boxed at (Some h) = of_if (nat_lt at limit && (nat_eq (h % 64) 0 && is_whole store at (1 + h / 64))) (look.Tuple at (h / 64)) (class.Boxed at) refl

  of_class : (c : Class) → IsOf (look_in store names limit c) c
  of_class (class.Small i) = refl
  of_class (class.Atom n) = of_if (nat_lt n (length names)) (look.Atom n) (class.Atom n) refl
  of_class class.Nil = refl
  of_class (class.Cons at) = of_if (nat_lt at limit && is_whole store at 2) (look.Cons at) (class.Cons at) refl
  of_class (class.Boxed at) = of_boxed at (word_of store at)
  of_class class.Other = tt

  pub class_shown : (w : ℕ) (l : Look) → look_of store names limit w ≡ l → IsOf l (class_of w)
  class_shown w l e = subst (λ z. IsOf z (class_of w)) e (of_class (class_of w))
