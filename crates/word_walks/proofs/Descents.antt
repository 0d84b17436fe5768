-- Where two words lead to cells, their words are there, and the left cell lies below the left limit.
use Rattle.std.proofs.Common.{◌≡◌, ℕ, ◌+◌, ◌<◌, ◌≤◌, true, Option, Some, None, List, is_some, refl, sym, subst, arith}
use Rattle.std.specs.declared.cmp.Ordering.{Ordering}
use Rattle.std.specs.declared.cmp.Ordering.TheVariants.{Less, Equal, Greater}
use Rattle.std.specs.Ordering.{int_cmp}
use Rattle.tagged_words.specs.declared.look.Look.{Look}
use Rattle.tagged_words.specs.declared.look.Look.TheVariants as look
use Rattle.tagged_words.specs.Look.{look_of}
use Rattle.tagged_words.specs.Store.{Store, word_of, is_whole, words_in}
use Rattle.word_walks.specs.declared.comparing.Meeting.TheVariants as meeting
use Rattle.word_walks.specs.declared.scratch.Row.{Row}
use Rattle.word_walks.specs.Pairs.{by_order, names_order, pairs_from, tuples_meet, looks_meet, words_meet, pair_meets, row_meets, IsRow}
use Rattle.word_walks.proofs.Cells.{IsCell, cons_shown, tuple_shown, first_word, later_words}
use Rattle.word_walks.proofs.Meetings.{Sizes, Empty, Alike, Unlike, sizes_of, tuples_same, tuples_empty, tuples_differ}
use Rattle.word_walks.proofs.Ordinals.{ordinal, higher, few}

-- a row whose words are there, with its left cell below a limit
pub record Inner (s : Store) (limit : ℕ) (r : Row) : Type 0 where
  pub row : IsRow s r
  pub low : r.left_cell < limit

-- the cell that a look shows
abbrev CellOf : Store → ℕ → Look → Type 0
CellOf s limit (look.Cons at) = IsCell s limit at 2
CellOf s limit (look.Tuple at n) = IsCell s limit at (1 + n)
CellOf s limit k = Unit {0}

cell_of : (s : Store) (names : List (List ℕ)) (limit w : ℕ) (k : Look) → look_of s names limit w ≡ k → CellOf s limit k
cell_of s names limit w (look.Cons at) e = cons_shown s names limit w at e
cell_of s names limit w (look.Tuple at n) e = tuple_shown s names limit w at n e
cell_of s names limit w k e = tt

no_row_by_order : (o : Ordering) (row : Row) → by_order o ≡ meeting.Deeper row → ⊥
no_row_by_order Less row e = cc
no_row_by_order Equal row e = cc
no_row_by_order Greater row e = cc

conses_row : (s : Store) (limit other_limit at other : ℕ) → IsCell s limit at 2 → IsCell s other_limit other 2 → Inner s limit (pairs_from at at other other 2)
conses_row s limit other_limit at other c d =
    record { row = record { some = omega arith; cell = first_word s at 2 (omega arith) c.there; left = c.there; right = d.there }; low = c.low }

tuples_row : (s : Store) (limit other_limit at m other n : ℕ) → IsCell s limit at (1 + m) → IsCell s other_limit other (1 + n) → Sizes m n → (row : Row) → tuples_meet at m other n ≡ meeting.Deeper row → Inner s limit row
tuples_row s limit other_limit at m other n c d (Empty i j) row e = let k = tuples_empty at m other n i j in absurd (cc)
tuples_row s limit other_limit at m other n c d (Unlike i) row e = let k = tuples_differ at m other n i in absurd (cc)
tuples_row s limit other_limit at m other n c d (Alike i some) row e =
    let k = tuples_same at m other n i some in
    let is : pairs_from (at + 4) at (other + 4) other m ≡ row = cc in
    subst (Inner s limit) is (record {
      row = record {
        some = some;
        cell = first_word s at (1 + m) (omega arith) c.there;
        left = later_words s at m (1 + m) (omega arith) some c.there;
        right = later_words s other m (1 + m) (omega arith) some (subst (λ n. is_whole s other (1 + n) ≡ true) (sym i) d.there);
      };
      low = c.low;
    })

module _ (s : Store) (names : List (List ℕ)) (limit x other_limit y : ℕ) (row : Row) where
  inner : (k l : Look) → CellOf s limit k → CellOf s other_limit l → looks_meet names x k y l ≡ meeting.Deeper row → Inner s limit row
  inner look.Bad l c d e = absurd (cc)
  inner k look.Bad c d e = absurd (cc)
  inner (look.Small i) (look.Small j) c d e = absurd (no_row_by_order (int_cmp i j) row e)
  inner (look.Atom m) (look.Atom n) c d e = absurd (no_row_by_order (names_order names m n) row e)
  inner look.Nil look.Nil c d e = absurd (cc)
  inner (look.Cons at) (look.Cons other) c d e =
      let is : pairs_from at at other other 2 ≡ row = cc in
      subst (Inner s limit) is (conses_row s limit other_limit at other c d)
  inner (look.Tuple at m) (look.Tuple other n) c d e = tuples_row s limit other_limit at m other n c d (sizes_of m n) row e
  inner k l c d e = absurd (cc)

  pub words_descend : words_meet s names limit x other_limit y ≡ meeting.Deeper row → Inner s limit row
  words_descend e = inner (look_of s names limit x) (look_of s names other_limit y) (cell_of s names limit x (look_of s names limit x) refl) (cell_of s names other_limit y (look_of s names other_limit y) refl) e

pair_descends : (s : Store) (names : List (List ℕ)) (outer row : Row) (a b : Option ℕ) → pair_meets s names outer a b ≡ meeting.Deeper row → Inner s outer.left_cell row
pair_descends s names outer row (Some x) (Some y) e = words_descend s names outer.left_cell x outer.right_cell y row e
pair_descends s names outer row None b e = absurd (cc)
pair_descends s names outer row (Some x) None e = absurd (cc)

pub row_descends : (s : Store) (names : List (List ℕ)) (outer row : Row) → row_meets s names outer ≡ meeting.Deeper row → Inner s outer.left_cell row
row_descends s names outer row e = pair_descends s names outer row (word_of s outer.left) (word_of s outer.right) e

ordinal_of : (s : Store) (at to : ℕ) (word : Option ℕ) → word_of s at ≡ word → is_some word ≡ true → at < to → ordinal s at + 1 ≤ ordinal s to
ordinal_of s at to None e there low = absurd (cc)
ordinal_of s at to (Some x) e there low = higher s at x to e low

-- so the left cell has a lower place
pub lower_place : (s : Store) (limit : ℕ) (row : Row) → Inner s limit row → ordinal s row.left_cell + 1 ≤ ordinal s limit
lower_place s limit row i = ordinal_of s row.left_cell limit (word_of s row.left_cell) refl i.row.cell i.low

-- and a place, with all places of its store
pub some_place : (s : Store) (row : Row) → IsRow s row → ordinal s row.left_cell + 1 ≤ words_in s
some_place s row r =
    let above : ordinal s row.left_cell + 1 ≤ ordinal s (row.left_cell + 1) = ordinal_of s row.left_cell (row.left_cell + 1) (word_of s row.left_cell) refl r.cell (omega arith) in
    let all = few s (row.left_cell + 1) in
    omega arith
