-- What a word adds to the text of a term where it is come by, and the row of its cell.
use Rattle.std.specs.Fmt.{signed_decimal}
use Rattle.std.specs.Prelude.{ℕ, ◌+◌, ◌-◌, ◌%◌, ◌^◌, Bool, true, false, List, [], ◌++◌, Option, Some, None, slice_get, slice_set, codes, nat_eq, if◌then◌else◌}
use Rattle.tagged_words.specs.declared.look.Look.{Look}
use Rattle.tagged_words.specs.declared.look.Look.TheVariants as look
use Rattle.term_tree.specs.Text.{atom_text}
use Rattle.word_walks.specs.declared.scratch.Inside.{Inside}
use Rattle.word_walks.specs.declared.scratch.Inside.TheVariants as inside
use Rattle.word_walks.specs.declared.scratch.Row.{Row}
use Rattle.word_walks.specs.declared.scratch.TheConstants.{BLANK}
use Rattle.word_walks.specs.declared.shown.Place.{Place}
use Rattle.word_walks.specs.declared.shown.Place.TheVariants.{First, Behind, Tail}

-- whether a word stands for no term
abbrev pub is_bad : Look → Bool
is_bad look.Bad = true
is_bad l = false

abbrev pub name_shown : Option (List ℕ) → List ℕ
name_shown None = []
name_shown (Some a) = atom_text a

-- a term by itself; of a cell its opening bracket
abbrev pub start : List (List ℕ) → Look → List ℕ
start names (look.Small i) = signed_decimal i
start names (look.Atom n) = name_shown (slice_get names n)
start names look.Nil = codes "[]"
start names (look.Cons at) = codes "["
start names (look.Tuple at n) = codes "{"
start names look.Bad = []

-- the tail of a cons: nothing for the end of a list
abbrev pub tail_shown : List (List ℕ) → Look → List ℕ
tail_shown names look.Nil = []
tail_shown names (look.Cons at) = codes ","
tail_shown names l = codes "|" ++ start names l

abbrev pub shown : List (List ℕ) → Place → Look → List ℕ
shown names First l = start names l
shown names Behind l = codes "," ++ start names l
shown names Tail l = tail_shown names l

-- the closing bracket of a cell
abbrev pub mark_of : Inside → List ℕ
mark_of inside.List = codes "]"
mark_of inside.Elements = codes "}"
mark_of inside.Others = codes "}"

-- the row of the cell that a word shows, with all its words still to come
abbrev pub opened : Look → Option Row
opened (look.Cons at) = Some (record BLANK { left = at; left_cell = at; count = 2; inside = inside.List })
opened (look.Tuple at n) = Some (record BLANK { left = (at + 4) % 2 ^ 32; left_cell = at; count = n; inside = inside.Elements })
opened l = None

-- where it goes: the cons that is the tail of a list takes the place of the cons before it
abbrev pub row_index : Place → Look → ℕ → ℕ
row_index Tail (look.Cons at) used = used - 1
row_index place l used = used

abbrev pub rows_with : Option Row → ℕ → List Row → List Row
rows_with None index rows = rows
rows_with (Some row) index rows = slice_set rows index row

abbrev pub used_with : Option Row → ℕ → ℕ → ℕ
used_with None index used = used
used_with (Some row) index used = index + 1

-- where the next word of a row stands, of which so many are left
abbrev pub place_of : Inside → ℕ → Place
place_of inside.List count = if nat_eq count 1 then Tail else First
place_of inside.Elements count = First
place_of inside.Others count = Behind

abbrev pub inside_after : Inside → Inside
inside_after inside.List = inside.List
inside_after inside.Elements = inside.Others
inside_after inside.Others = inside.Others

-- what is left of a row behind its next word
abbrev pub rest_of : Row → Row
rest_of row = record row { left = (row.left + 4) % 2 ^ 32; count = row.count - 1; inside = inside_after row.inside }
