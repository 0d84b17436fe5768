-- The test holds of a word and a tree exactly where the word has that tree.
use Rattle.std.proofs.Common.{◌≡◌, ℕ, ℤ, ◌+◌, ◌&&◌, Bool, true, false, List, Option, Some, None, slice_get, nat_eq, if◌then◌else◌, refl, ap, sym, ◌∙◌}
use Rattle.std.proofs.lemmas.Bool.{and_parts}
use Rattle.std.proofs.lemmas.Bool.Decides.{Decides-int_eq, Decides-eqb}
use Rattle.std.specs.Cmp.Derive.{both_true}
use Rattle.std.specs.Cmp.Lexicographic.{bytes_decides}
use Rattle.tagged_words.specs.declared.look.Look.{Look}
use Rattle.tagged_words.specs.declared.look.Look.TheVariants as look
use Rattle.tagged_words.specs.Look.{look_of, address_end}
use Rattle.tagged_words.specs.Seen as s
use Rattle.tagged_words.specs.Store.{Store, word_of}
use Rattle.term_tree.specs.Size.{size_of}
use Rattle.term_tree.specs.Tree as t
use Rattle.word_terms.specs.Standing.{WordStandsForTerm, is_integer, has_name, is_atom, is_nil, cons_in, tuple_in, is_so, stands, all_stand}

-- ---- what a look shows, where its test holds

integer_shown : (i : ℤ) (l : Look) → is_integer i l ≡ true → l ≡ look.Small i
integer_shown i (look.Small j) h = ap look.Small ((Decides-int_eq j i).0 h)
integer_shown i (look.Atom n) h = absurd (cc)
integer_shown i look.Nil h = absurd (cc)
integer_shown i (look.Cons at) h = absurd (cc)
integer_shown i (look.Tuple at n) h = absurd (cc)
integer_shown i look.Bad h = absurd (cc)

name_there : (a : List ℕ) (o : Option (List ℕ)) → has_name a o ≡ true → o ≡ Some a
name_there a (Some b) h = ap Some ((bytes_decides b a).0 h)
name_there a None h = absurd (cc)

atom_shown : (names : List (List ℕ)) (a : List ℕ) (l : Look) → is_atom names a l ≡ true → (n : ℕ) × (l ≡ look.Atom n) × (slice_get names n ≡ Some a)
atom_shown names a (look.Small j) h = absurd (cc)
atom_shown names a (look.Atom n) h = (n, refl, name_there a (slice_get names n) h)
atom_shown names a look.Nil h = absurd (cc)
atom_shown names a (look.Cons at) h = absurd (cc)
atom_shown names a (look.Tuple at n) h = absurd (cc)
atom_shown names a look.Bad h = absurd (cc)

nil_shown : (l : Look) → is_nil l ≡ true → l ≡ look.Nil
nil_shown (look.Small j) h = absurd (cc)
nil_shown (look.Atom n) h = absurd (cc)
nil_shown look.Nil h = refl
nil_shown (look.Cons at) h = absurd (cc)
nil_shown (look.Tuple at n) h = absurd (cc)
nil_shown look.Bad h = absurd (cc)

is_cons : (l : Look) (at : ℕ) → cons_in l ≡ Some at → l ≡ look.Cons at
is_cons (look.Small j) at h = absurd (cc)
is_cons (look.Atom n) at h = absurd (cc)
is_cons look.Nil at h = absurd (cc)
is_cons (look.Cons to) at h = cc
is_cons (look.Tuple to n) at h = absurd (cc)
is_cons look.Bad at h = absurd (cc)

sized : (m n to at : ℕ) (b : Bool) → nat_eq m n ≡ b → (if b then Some to else None) ≡ Some at → look.Tuple to m ≡ look.Tuple at n
sized m n to at true is h = let same : m ≡ n = (Decides-eqb m n).0 is in cc
sized m n to at false is h = absurd (cc)

is_tuple : (n : ℕ) (l : Look) (at : ℕ) → tuple_in n l ≡ Some at → l ≡ look.Tuple at n
is_tuple n (look.Small j) at h = absurd (cc)
is_tuple n (look.Atom k) at h = absurd (cc)
is_tuple n look.Nil at h = absurd (cc)
is_tuple n (look.Cons to) at h = absurd (cc)
is_tuple n (look.Tuple to m) at h = sized m n to at (nat_eq m n) refl h
is_tuple n look.Bad at h = absurd (cc)

so : (o : Option ℕ) (test : ℕ → Bool) → is_so o test ≡ true → (x : ℕ) × (o ≡ Some x) × (test x ≡ true)
so (Some x) test h = (x, refl, h)
so None test h = absurd (cc)

same_size : (vs : t.Trees) → s.seen_size (s.all_whole vs) ≡ size_of vs
same_size t.No = refl
same_size (t.More v vs) = ap (λ n. 1 + n) (same_size vs)

module _ (store : Store) (names : List (List ℕ)) where
  mutual
    has_tree : (limit w : ℕ) (v : t.Tree) → stands store names limit w v ≡ true → s.IsTreeBelow store names limit w v
    has_tree limit w (t.Int i) h = integer_shown i (look_of store names limit w) h
    has_tree limit w (t.Atom a) h = atom_shown names a (look_of store names limit w) h
    has_tree limit w t.Nil h = nil_shown (look_of store names limit w) h
    has_tree limit w (t.Cons head tail) h =
        let cell = so (cons_in (look_of store names limit w)) (λ at. is_so (word_of store at) (λ x. stands store names at x head) && is_so (word_of store (at + 4)) (λ x. stands store names at x tail)) h in
        let at : ℕ = cell.0 in
        let two = and_parts (is_so (word_of store at) (λ x. stands store names at x head)) (is_so (word_of store (at + 4)) (λ x. stands store names at x tail)) cell.2 in
        let left = so (word_of store at) (λ x. stands store names at x head) two.0 in
        let right = so (word_of store (at + 4)) (λ x. stands store names at x tail) two.1 in
        (at, left.0, right.0, is_cons (look_of store names limit w) at cell.1, left.1, right.1, has_tree at left.0 head left.2, has_tree at right.0 tail right.2)
    has_tree limit w (t.Tuple vs) h =
        let cell = so (tuple_in (size_of vs) (look_of store names limit w)) (λ at. all_stand store names at (at + 4) vs) h in
        let at : ℕ = cell.0 in
        (at, is_tuple (size_of vs) (look_of store names limit w) at cell.1 ∙ ap (look.Tuple at) (sym (same_size vs)), have_trees at (at + 4) vs cell.2)

    have_trees : (limit at : ℕ) (vs : t.Trees) → all_stand store names limit at vs ≡ true → s.AreTreesBelow store names limit at vs
    have_trees limit at t.No h = tt
    have_trees limit at (t.More v vs) h =
        let two = and_parts (is_so (word_of store at) (λ x. stands store names limit x v)) (all_stand store names limit (at + 4) vs) h in
        let one = so (word_of store at) (λ x. stands store names limit x v) two.0 in
        (one.0, one.1, has_tree limit one.0 v one.2, have_trees limit (at + 4) vs two.1)

  mutual
    has_test : (limit w : ℕ) (v : t.Tree) → s.IsTreeBelow store names limit w v → stands store names limit w v ≡ true
    has_test limit w (t.Int i) h = ap (is_integer i) h ∙ (Decides-int_eq i i).1 refl
    has_test limit w (t.Atom a) h = ap (is_atom names a) h.1 ∙ ap (has_name a) h.2 ∙ (bytes_decides a a).1 refl
    has_test limit w t.Nil h = ap is_nil h
    has_test limit w (t.Cons head tail) h =
        ap (λ l. is_so (cons_in l) (λ at. is_so (word_of store at) (λ x. stands store names at x head) && is_so (word_of store (at + 4)) (λ x. stands store names at x tail))) h.3
        ∙ both_true
        (ap (λ o. is_so o (λ x. stands store names h.0 x head)) h.4 ∙ has_test h.0 h.1 head h.6)
        (ap (λ o. is_so o (λ x. stands store names h.0 x tail)) h.5 ∙ has_test h.0 h.2 tail h.7)
    has_test limit w (t.Tuple vs) h =
        ap (λ l. is_so (tuple_in (size_of vs) l) (λ at. all_stand store names at (at + 4) vs)) (h.1 ∙ ap (look.Tuple h.0) (same_size vs))
        ∙ ap (λ b. is_so (if b then Some h.0 else None) (λ at. all_stand store names at (at + 4) vs)) ((Decides-eqb (size_of vs) (size_of vs)).1 refl)
        ∙ have_tests h.0 (h.0 + 4) vs h.2

    have_tests : (limit at : ℕ) (vs : t.Trees) → s.AreTreesBelow store names limit at vs → all_stand store names limit at vs ≡ true
    have_tests limit at t.No h = refl
    have_tests limit at (t.More v vs) h =
        both_true
        (ap (λ o. is_so o (λ x. stands store names limit x v)) h.1 ∙ has_test limit h.0 v h.2)
        (have_tests limit (at + 4) vs h.3)

pub word_stands_for_term : WordStandsForTerm
word_stands_for_term s names w v = (has_tree s names address_end w v, has_test s names address_end w v)
