-- Terms as far as they show by themselves.
use Rattle.std.proofs.Common.{◌≡◌, ℕ, zero, suc, ◌+◌, true, false, if◌then◌else◌, List, [], ◌∷◌, None, slice_get, get_or, refl, sym, ap, ◌∙◌, arith}
use Rattle.std.proofs.lemmas.Option.{get_or_from_slice_get}
use Rattle.prim_gates.specs.Shallow.{blank, tree_shown}
use Rattle.prim_gates.specs.Ended.{is_bad}
use Rattle.prim_gates.specs.Reply.{Reply, Fault}
use Rattle.prim_gates.specs.Shapes.{blanks, look_then, shown}
use Rattle.tagged_words.specs.declared.look.Look.{Look}
use Rattle.tagged_words.specs.Look.{look_of}
use Rattle.tagged_words.specs.Seen as s
use Rattle.tagged_words.specs.Store.{Store}
use Rattle.term_tree.specs.Size.{size_of}
use Rattle.term_tree.specs.Tree as t

pub size_blank : (n : ℕ) → size_of (blank n) ≡ n
size_blank zero = refl
size_blank (suc n) = let rest = size_blank n in omega arith

-- a number past the table names nothing
pub unknown : (names : List (List ℕ)) (n : ℕ) → slice_get names n ≡ None → get_or names n [] ≡ []
unknown [] n e = refl
unknown (a ∷ names) zero e = absurd cc
unknown (a ∷ names) (suc n) e = unknown names n e

blanks_blank : (vs : s.AllSeen) → blanks vs ≡ blank (s.seen_size vs)
blanks_blank s.No = refl
blanks_blank (s.More v vs) = ap (t.More t.Nil) (blanks_blank vs) ∙ blank_more (s.seen_size vs)
  where
    blank_more : (n : ℕ) → t.More t.Nil (blank n) ≡ blank (1 + n)
    blank_more n = let next : suc n ≡ 1 + n = omega arith in ap blank next

-- what is seen from a word shows what the word shows
pub shown_by : (store : Store) (names : List (List ℕ)) (limit w : ℕ) (v : s.Seen) → s.Sees store names limit w v → shown v ≡ tree_shown names (look_of store names limit w)
shown_by store names limit w (s.Int i) h = ap (tree_shown names) (sym h)
shown_by store names limit w (s.Atom a) h = ap t.Atom (sym (get_or_from_slice_get names h.0 a [] h.2)) ∙ ap (tree_shown names) (sym h.1)
shown_by store names limit w s.Nil h = ap (tree_shown names) (sym h)
shown_by store names limit w (s.Cons head tail) h = ap (tree_shown names) (sym h.3)
shown_by store names limit w (s.Tuple vs) h = ap t.Tuple (blanks_blank vs) ∙ ap (tree_shown names) (sym h.1)
shown_by store names limit w (s.Bad v) h = ap (tree_shown names) (sym h.0)

-- what is done next with an argument that does not show a bad word, and with one that does
abbrev Next : Look → ℕ → Reply → Reply
Next l w next = if is_bad l then Fault w else next

pub looks_by : (store : Store) (names : List (List ℕ)) (limit w : ℕ) (v : s.Seen) (next : Reply) → s.Sees store names limit w v → look_then v next ≡ Next (look_of store names limit w) w next
looks_by store names limit w (s.Int i) next h = ap (λ l. Next l w next) (sym h)
looks_by store names limit w (s.Atom a) next h = ap (λ l. Next l w next) (sym h.1)
looks_by store names limit w s.Nil next h = ap (λ l. Next l w next) (sym h)
looks_by store names limit w (s.Cons head tail) next h = ap (λ l. Next l w next) (sym h.3)
looks_by store names limit w (s.Tuple vs) next h = ap (λ l. Next l w next) (sym h.1)
looks_by store names limit w (s.Bad v) next h = ap Fault h.1 ∙ ap (λ l. Next l w next) (sym h.0)

pub bad_then : (store : Store) (names : List (List ℕ)) (limit w : ℕ) (l : Look) (v : s.Seen) (next : Reply) → l ≡ look_of store names limit w → is_bad l ≡ true → s.Sees store names limit w v → Fault w ≡ look_then v next
bad_then store names limit w l v next e bad h = sym (looks_by store names limit w v next h ∙ ap (λ z. Next z w next) (sym e) ∙ ap (λ b. if b then Fault w else next) bad)

pub good_then : (store : Store) (names : List (List ℕ)) (limit w : ℕ) (l : Look) (v : s.Seen) (f : t.Tree → Reply) (r : Reply) → l ≡ look_of store names limit w → is_bad l ≡ false → s.Sees store names limit w v → r ≡ f (tree_shown names l) → r ≡ look_then v (f (shown v))
good_then store names limit w l v f r e good h is =
    is ∙ ap (λ z. f (tree_shown names z)) e ∙ ap f (sym (shown_by store names limit w v h))
    ∙ sym (looks_by store names limit w v (f (shown v)) h ∙ ap (λ z. Next z w (f (shown v))) (sym e) ∙ ap (λ b. if b then Fault w else f (shown v)) good)
