-- What a walk over words sees: a tree with the words that stand for no term in their places (docs/MACHINE.md, Words).
use Rattle.std.specs.Prelude.{ℕ, ℤ, ◌≡◌, ◌+◌, List, Some, slice_get}
use Rattle.term_tree.specs.Tree as t
use Rattle.tagged_words.specs.declared.look.Look.TheVariants as look
use Rattle.tagged_words.specs.Look.{look_of, address_end}
use Rattle.tagged_words.specs.Store.{Store, word_of}

mutual
  pub data Seen : Type 0 where
    Int : ℤ → Seen
    Atom : List ℕ → Seen
    Nil : Seen
    Cons : Seen → Seen → Seen
    Tuple : AllSeen → Seen
    Bad : ℕ → Seen

  pub data AllSeen : Type 0 where
    No : AllSeen
    More : Seen → AllSeen → AllSeen

-- how many elements are seen
abbrev pub seen_size : AllSeen → ℕ
seen_size No = 0
seen_size (More v vs) = 1 + seen_size vs

-- a term, seen with no bad word in it
abbrev mutual
  pub whole : t.Tree → Seen
  whole (t.Int i) = Int i
  whole (t.Atom a) = Atom a
  whole t.Nil = Nil
  whole (t.Cons head tail) = Cons (whole head) (whole tail)
  whole (t.Tuple ts) = Tuple (all_whole ts)

  pub all_whole : t.Trees → AllSeen
  all_whole t.No = No
  all_whole (t.More v vs) = More (whole v) (all_whole vs)

-- what is seen from a word whose pointer leads below a limit; inside a cell the limit is the cell's own address, so that
-- a walk goes down and never in a ring
abbrev mutual
  pub Sees : Store → List (List ℕ) → ℕ → ℕ → Seen → Type 0
  Sees s names limit w (Int i) = look_of s names limit w ≡ look.Small i
  Sees s names limit w (Atom a) = (n : ℕ) × (look_of s names limit w ≡ look.Atom n) × (slice_get names n ≡ Some a)
  Sees s names limit w Nil = look_of s names limit w ≡ look.Nil
  Sees s names limit w (Cons head tail) =
      (at x y : ℕ) × (look_of s names limit w ≡ look.Cons at) × (word_of s at ≡ Some x) × (word_of s (at + 4) ≡ Some y)
      × Sees s names at x head × Sees s names at y tail
  Sees s names limit w (Tuple vs) = (at : ℕ) × (look_of s names limit w ≡ look.Tuple at (seen_size vs)) × SeesAll s names at (at + 4) vs
  Sees s names limit w (Bad v) = (look_of s names limit w ≡ look.Bad) × (v ≡ w)

  -- the words from an address on, each with what is seen from it
  pub SeesAll : Store → List (List ℕ) → ℕ → ℕ → AllSeen → Type 0
  SeesAll s names limit at No = Unit {0}
  SeesAll s names limit at (More v vs) = (x : ℕ) × (word_of s at ≡ Some x) × Sees s names limit x v × SeesAll s names limit (at + 4) vs

-- the tree of a word: what is seen from it is a whole term
abbrev pub IsTreeBelow : Store → List (List ℕ) → ℕ → ℕ → t.Tree → Type 0
IsTreeBelow s names limit w v = Sees s names limit w (whole v)

abbrev pub AreTreesBelow : Store → List (List ℕ) → ℕ → ℕ → t.Trees → Type 0
AreTreesBelow s names limit at vs = SeesAll s names limit at (all_whole vs)

abbrev pub IsTreeOf : Store → List (List ℕ) → ℕ → t.Tree → Type 0
IsTreeOf s names w v = IsTreeBelow s names address_end w v

-- a store that keeps the words of another one, and a table that keeps its names
abbrev pub Keeps : Store → Store → Type 0
Keeps s later = (at w : ℕ) → word_of s at ≡ Some w → word_of later at ≡ Some w

abbrev pub KeepsNames : List (List ℕ) → List (List ℕ) → Type 0
KeepsNames names later = (n : ℕ) (a : List ℕ) → slice_get names n ≡ Some a → slice_get later n ≡ Some a
