-- What two words show of the order of their terms, and the cells whose words decide it (docs/MACHINE.md, Words).
use Rattle.std.specs.Prelude.{ℕ, ◌≡◌, ◌+◌, ◌-◌, ◌<◌, ◌^◌, true, List, Option, Some, None, is_some, slice_get, slice_set, slice_index_or, nat_eq, nat_lt, if◌then◌else◌}
use Rattle.std.specs.declared.cmp.Ordering.{Ordering}
use Rattle.std.specs.declared.cmp.Ordering.TheVariants.{Equal}
use Rattle.std.specs.Ordering.{nat_cmp, int_cmp}
use Rattle.std.specs.Cmp.Lexicographic.{slice_cmp}
use Rattle.tagged_words.specs.declared.look.Look.{Look}
use Rattle.tagged_words.specs.declared.look.Look.TheVariants as look
use Rattle.tagged_words.specs.Look.{look_of}
use Rattle.tagged_words.specs.Seen.{AllSeen, seen_size, SeesAll}
use Rattle.tagged_words.specs.Store.{Store, word_of, is_whole}
use Rattle.word_walks.specs.declared.comparing.Meeting.{Meeting}
use Rattle.word_walks.specs.declared.comparing.Meeting.TheVariants.{Bad, Differ, Same, Deeper}
use Rattle.word_walks.specs.declared.comparing.Place.{Place}
use Rattle.word_walks.specs.declared.scratch.Inside.TheVariants as inside
use Rattle.word_walks.specs.declared.scratch.Row.{Row}

-- an order that is decided, if it is
abbrev pub by_order : Ordering → Meeting
by_order Equal = Same
by_order o = Differ o

-- the order of two names, if there are two
abbrev pub texts_order : Option (List ℕ) → Option (List ℕ) → Ordering
texts_order (Some a) (Some b) = slice_cmp nat_cmp a b
texts_order a b = Equal

-- the order of two atoms by their numbers
abbrev pub names_order : List (List ℕ) → ℕ → ℕ → Ordering
names_order names m n = if nat_eq m n then Equal else texts_order (slice_get names m) (slice_get names n)

-- so many words from two addresses on, in cells at these addresses
abbrev pub pairs_from : ℕ → ℕ → ℕ → ℕ → ℕ → Row
pairs_from left left_cell right right_cell count =
    record { left = left; left_cell = left_cell; right = right; right_cell = right_cell; count = count; inside = inside.List }

-- two tuples at these addresses, of so many elements
abbrev pub tuples_meet : ℕ → ℕ → ℕ → ℕ → Meeting
tuples_meet at count other others =
    if nat_eq count others then (if nat_eq count 0 then Same else Deeper (pairs_from (at + 4) at (other + 4) other count))
    else Differ (nat_cmp count others)

-- the place of its kind
abbrev pub look_rank : Look → ℕ
look_rank (look.Small i) = 0
look_rank (look.Atom n) = 1
look_rank (look.Tuple at n) = 2
look_rank look.Nil = 3
look_rank (look.Cons at) = 4
look_rank look.Bad = 5

-- two words and what they show, the left word first
abbrev pub looks_meet : List (List ℕ) → ℕ → Look → ℕ → Look → Meeting
looks_meet names x look.Bad y b = Bad x
looks_meet names x a y look.Bad = Bad y
looks_meet names x (look.Small i) y (look.Small j) = by_order (int_cmp i j)
looks_meet names x (look.Atom m) y (look.Atom n) = by_order (names_order names m n)
looks_meet names x look.Nil y look.Nil = Same
looks_meet names x (look.Cons at) y (look.Cons other) = Deeper (pairs_from at at other other 2)
looks_meet names x (look.Tuple at m) y (look.Tuple other n) = tuples_meet at m other n
looks_meet names x a y b = Differ (nat_cmp (look_rank a) (look_rank b))

-- two words, each with the limit below which its pointer leads
abbrev pub words_meet : Store → List (List ℕ) → ℕ → ℕ → ℕ → ℕ → Meeting
words_meet s names left_limit x right_limit y = looks_meet names x (look_of s names left_limit x) y (look_of s names right_limit y)

-- the first pair of a row, if both its words are there
abbrev pub pair_meets : Store → List (List ℕ) → Row → Option ℕ → Option ℕ → Meeting
pair_meets s names row (Some x) (Some y) = words_meet s names row.left_cell x row.right_cell y
pair_meets s names row a b = Same

abbrev pub row_meets : Store → List (List ℕ) → Row → Meeting
row_meets s names row = pair_meets s names row (word_of s row.left) (word_of s row.right)

-- a row without its first pair
abbrev pub next_row : Row → Row
next_row row = pairs_from (row.left + 4) row.left_cell (row.right + 4) row.right_cell (row.count - 1)

-- what a row is where there is none
abbrev pub no_row : Row
no_row = pairs_from 0 0 0 0 0

-- the place behind the first pair, if there is one
abbrev pub left_place : List Row → Place → Option Place
left_place rows p =
    if nat_lt 1 p.row.count then Some (record { row = next_row p.row; used = p.used })
    else if nat_eq p.used 0 then None
    else Some (record { row = slice_index_or rows (p.used - 1) no_row; used = p.used - 1 })

-- the rows that wait, and the place, where the first pair leads to a row
abbrev pub entered_rows : List Row → Place → List Row
entered_rows rows p = if nat_lt 1 p.row.count then slice_set rows p.used (next_row p.row) else rows

abbrev pub entered : Place → Row → Place
entered p row = record { row = row; used = if nat_lt 1 p.row.count then p.used + 1 else p.used }

-- behind the first pair there may be another one, at addresses
pub record HasNext (row : Row) : Type 0 where
  pub left : 1 < row.count → row.left + 4 < 2 ^ 32
  pub right : 1 < row.count → row.right + 4 < 2 ^ 32

-- a row has pairs, and all its words are there
pub record IsRow (s : Store) (row : Row) : Type 0 where
  pub some : 0 < row.count
  pub cell : is_some (word_of s row.left_cell) ≡ true
  pub left : is_whole s row.left row.count ≡ true
  pub right : is_whole s row.right row.count ≡ true

-- what is seen from the words of a row
pub record SeesRows (s : Store) (names : List (List ℕ)) (row : Row) (xs ys : AllSeen) : Type 0 where
  pub left_size : seen_size xs ≡ row.count
  pub right_size : seen_size ys ≡ row.count
  pub left : SeesAll s names row.left_cell row.left xs
  pub right : SeesAll s names row.right_cell row.right ys
