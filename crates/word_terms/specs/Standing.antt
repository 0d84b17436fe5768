-- Whether a word stands for a tree, as a test (docs/MACHINE.md, Words). It goes down the tree, and looks at each word
-- once.
use Rattle.std.specs.Ordering.{int_eq}
use Rattle.std.specs.Prelude.{ℕ, ℤ, ◌≡◌, ◌+◌, ◌&&◌, ◌↔◌, Bool, true, false, List, Option, Some, None, slice_get, nat_eq, if◌then◌else◌}
use Rattle.tagged_words.specs.declared.look.Look.{Look}
use Rattle.tagged_words.specs.declared.look.Look.TheVariants as look
use Rattle.tagged_words.specs.Look.{look_of, address_end}
use Rattle.tagged_words.specs.Seen.{IsTreeOf}
use Rattle.tagged_words.specs.Store.{Store, word_of}
use Rattle.term_tree.specs.Name.{same_name}
use Rattle.term_tree.specs.Size.{size_of}
use Rattle.term_tree.specs.Tree as t
use Rattle.word_terms.specs.declared.standing.Spot.{Spot}

-- an integer is shown
abbrev pub is_integer : ℤ → Look → Bool
is_integer i (look.Small j) = int_eq j i
is_integer i l = false

-- an atom of this name is shown
abbrev pub has_name : List ℕ → Option (List ℕ) → Bool
has_name a None = false
has_name a (Some b) = same_name b a

abbrev pub is_atom : List (List ℕ) → List ℕ → Look → Bool
is_atom names a (look.Atom n) = has_name a (slice_get names n)
is_atom names a l = false

-- the empty list is shown
abbrev pub is_nil : Look → Bool
is_nil look.Nil = true
is_nil l = false

-- where the cons lies that is shown, and the tuple of so many elements
abbrev pub cons_in : Look → Option ℕ
cons_in (look.Cons at) = Some at
cons_in l = None

abbrev pub tuple_in : ℕ → Look → Option ℕ
tuple_in n (look.Tuple at m) = if nat_eq m n then Some at else None
tuple_in n l = None

-- there is a number, and it passes a test
abbrev pub is_so : Option ℕ → (ℕ → Bool) → Bool
is_so None test = false
is_so (Some n) test = test n

-- a word whose pointer leads below a limit stands for a tree; inside a cell the limit is the cell's own address
abbrev mutual
  pub stands : Store → List (List ℕ) → ℕ → ℕ → t.Tree → Bool
  stands s names limit w (t.Int i) = is_integer i (look_of s names limit w)
  stands s names limit w (t.Atom a) = is_atom names a (look_of s names limit w)
  stands s names limit w t.Nil = is_nil (look_of s names limit w)
  stands s names limit w (t.Cons head tail) =
      is_so (cons_in (look_of s names limit w)) (λ at. is_so (word_of s at) (λ x. stands s names at x head) && is_so (word_of s (at + 4)) (λ x. stands s names at x tail))
  stands s names limit w (t.Tuple vs) = is_so (tuple_in (size_of vs) (look_of s names limit w)) (λ at. all_stand s names at (at + 4) vs)

  -- the words from an address on, one for each tree
  pub all_stand : Store → List (List ℕ) → ℕ → ℕ → t.Trees → Bool
  all_stand s names limit at t.No = true
  all_stand s names limit at (t.More v vs) = is_so (word_of s at) (λ x. stands s names limit x v) && all_stand s names limit (at + 4) vs

-- the same of a word with its limit, if there is one
abbrev pub stands_at : Store → List (List ℕ) → Option Spot → t.Tree → Bool
stands_at s names None v = false
stands_at s names (Some spot) v = stands s names spot.limit spot.word v

-- the test holds exactly where the word has the tree
abbrev pub WordStandsForTerm : Type 0
WordStandsForTerm = (s : Store) (names : List (List ℕ)) (w : ℕ) (v : t.Tree) → (stands s names address_end w v ≡ true) ↔ IsTreeOf s names w v
