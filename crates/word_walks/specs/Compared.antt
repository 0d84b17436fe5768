-- The order of what is seen from two words (Erlang reference manual, Expressions, Term Comparisons), or the first word
-- that stands for no term where it is met before the order is decided.
use Rattle.std.specs.Prelude.{ℕ}
use Rattle.std.specs.declared.cmp.Ordering.{Ordering}
use Rattle.std.specs.declared.cmp.Ordering.TheVariants.{Equal}
use Rattle.std.specs.declared.result.Result.{Result}
use Rattle.std.specs.declared.result.Result.TheVariants.{Ok, Err}
use Rattle.std.specs.Ordering.{nat_cmp, int_cmp}
use Rattle.std.specs.Cmp.Lexicographic.{slice_cmp}
use Rattle.tagged_words.specs.Seen.{Seen, AllSeen, Int, Atom, Nil, Cons, Tuple, Bad, More, seen_size}
use Rattle.word_walks.specs.declared.comparing.NotATerm.{NotATerm}

pub data Found : Type 0 where
  Is : Ordering → Found
  Meets : ℕ → Found

-- what an answer says that is found
abbrev pub found_of : Result Ordering NotATerm → Found
found_of (Ok o) = Is o
found_of (Err e) = Meets e.word

-- what is found where the first is no difference
abbrev pub then_found : Found → Found → Found
then_found (Is Equal) next = next
then_found (Is o) next = Is o
then_found (Meets w) next = Meets w

-- the place of its kind: integers, atoms, tuples, `[]`, conses
abbrev pub seen_rank : Seen → ℕ
seen_rank (Int i) = 0
seen_rank (Atom a) = 1
seen_rank (Tuple vs) = 2
seen_rank Nil = 3
seen_rank (Cons head tail) = 4
seen_rank (Bad w) = 5

-- of a pair the left word is looked at first; tuples go by size and then by elements from the left, conses by heads and
-- then by tails
abbrev mutual
  pub compared : Seen → Seen → Found
  compared (Bad w) b = Meets w
  compared a (Bad w) = Meets w
  compared (Int i) (Int j) = Is (int_cmp i j)
  compared (Atom a) (Atom b) = Is (slice_cmp nat_cmp a b)
  compared (Tuple vs) (Tuple us) = then_found (Is (nat_cmp (seen_size vs) (seen_size us))) (all_compared vs us)
  compared Nil Nil = Is Equal
  compared (Cons head tail) (Cons x y) = then_found (compared head x) (compared tail y)
  compared a b = Is (nat_cmp (seen_rank a) (seen_rank b))

  -- the elements of two tuples of one size, from the left
  pub all_compared : AllSeen → AllSeen → Found
  all_compared (More v vs) (More u us) = then_found (compared v u) (all_compared vs us)
  all_compared vs us = Is Equal
