-- The built-ins that look into no cell, on the terms that their arguments show.
use Rattle.std.specs.Prelude.{ℕ, zero, suc, Bool, false, ◌&&◌, ◌||◌, nat_le, nat_eq, get_or, List, [], ◌∷◌, Option, Some, None, slice_get}
use Rattle.beam_code.specs.BuiltIns.{BuiltIn, built_ins}
use Rattle.tagged_words.specs.declared.look.Look.{Look}
use Rattle.tagged_words.specs.declared.look.Look.TheVariants as look
use Rattle.term_tree.specs.Tree.{Tree, Trees, Int, Atom, Nil, Cons, Tuple, No, More}
use Rattle.std.specs.declared.cmp.Ordering.{Ordering}
use Rattle.tagged_words.specs.Look.{address_end}
use Rattle.tagged_words.specs.Seen.{Seen, Sees}
use Rattle.tagged_words.specs.Store.{Store}
use Rattle.prim_gates.specs.Gate.{Shape, Order, Either, shapes}
use Rattle.prim_gates.specs.Reply.{Reply, Argument, Bignum, valued}

abbrev pub by_row : Option BuiltIn → List Tree → Reply
by_row (Some b) vs = valued b.failure 0 (b.value vs)
by_row None vs = Bignum

-- so many elements with nothing in them
abbrev pub blank : ℕ → Trees
blank zero = No
blank (suc n) = More Nil (blank n)

-- the term that a word shows by itself
abbrev pub tree_shown : List (List ℕ) → Look → Tree
tree_shown names (look.Small i) = Int i
tree_shown names (look.Atom n) = Atom (get_or names n [])
tree_shown names look.Nil = Nil
tree_shown names (look.Cons at) = Cons Nil Nil
tree_shown names (look.Tuple at n) = Tuple (blank n)
tree_shown names look.Bad = Nil

-- what a built-in answers on one term that is shown, and on two
abbrev pub on_one : ℕ → Tree → Reply
on_one k a = by_row (slice_get built_ins k) (a ∷ [])

abbrev pub on_two : ℕ → Tree → Tree → Reply
on_two k a b = by_row (slice_get built_ins k) (a ∷ b ∷ [])

-- the number of a built-in that looks at one term by itself
abbrev pub is_on_one : ℕ → Bool
is_on_one k = nat_le 10 k && nat_le k 13 || nat_le 25 k && nat_le k 31 || nat_eq k 35

-- an argument: its word and what is seen from it
abbrev pub argument : ℕ → Seen → Argument
argument w v = record { word = w; seen = v }

-- these are seen from words, one from each
abbrev pub AreSeen : Store → List (List ℕ) → List ℕ → List Seen → Type 0
AreSeen s names (w ∷ ws) (v ∷ vs) = Sees s names address_end w v × AreSeen s names ws vs
AreSeen s names [] [] = Unit {0}
AreSeen s names ws vs = ⊥

-- whether the test of a built-in holds of an order
abbrev pub test_of : Option Shape → Ordering → Bool
test_of (Some (Order test)) o = test o
test_of shape o = false

abbrev pub ordered : ℕ → Ordering → Bool
ordered k o = test_of (slice_get shapes k) o

-- whether the second of two terms is taken, by their order
abbrev pub taken_of : Option Shape → Ordering → Bool
taken_of (Some (Either second)) o = second o
taken_of shape o = false

abbrev pub second_taken : ℕ → Ordering → Bool
second_taken k o = taken_of (slice_get shapes k) o
