-- What one form of a function's items is (docs/BEAM.md, Instructions): an instruction, or why it is none. What is not
-- supported is told by its word alone, then the shape is looked at, and then the limits.
use Rattle.std.specs.Prelude.{◌≡◌, ℕ, Bool, true, false, ◌||◌, ◌&&◌, not, is_some, List, [], ◌∷◌, Option, Some, None, if◌then◌else◌, codes, Result, Ok, Err}
use Rattle.std.specs.Str.{bytes_eq}
use Rattle.term_tree.specs.declared.term.Term.{Term, out-Term}
use Rattle.term_tree.specs.declared.term.Term.TheOpen.{Term-F}
use Rattle.beam_code.specs.declared.instr.Instr.{Instr}
use Rattle.beam_code.specs.declared.instr.Instr.TheVariants as i
use Rattle.module_forms.specs.declared.form.FormRefusal.{FormRefusal}
use Rattle.module_forms.specs.declared.form.FormRefusal.TheVariants as refusal
use Rattle.module_forms.specs.declared.rows.Op.{Op}
use Rattle.module_forms.specs.declared.rows.View.{View}
use Rattle.module_forms.specs.Part.{atom_of, is_built_in_name}
use Rattle.module_forms.specs.Rest.{Rest, start}
use Rattle.module_forms.specs.Rows.{Row, row, taken, op_named, test_named, looks_in, test_row, bif_row, gc_bif_row, bif_raise_row}

pub data Answer : Type 0 where
  Reads : Instr → Answer
  Register : Answer
  Shape : Answer
  Unknown : List ℕ → Answer

-- ---- the parts behind the words that decide the row

abbrev pub in_limits : Bool → Instr → Answer
in_limits true i = Register
in_limits false i = Reads i

abbrev pub complete : Instr → Bool → List Term → Answer
complete i wide [] = in_limits wide i
complete i wide (t ∷ ts) = Shape

abbrev pub finished : Option (Instr × Rest) → Answer
finished None = Shape
finished (Some p) = complete p.0 p.1.wide p.1.parts

abbrev pub answer : ℕ → Row → List Term → Answer
answer last row ts = finished (taken row (start last ts))

-- the answer by a row, or by the name that no row has
abbrev pub answered : ℕ → List ℕ → Option Row → List Term → Answer
answered last name (Some row) ts = answer last row ts
answered last name None ts = Unknown name

-- ---- rows whose second word is a name

abbrev pub viewed : List ℕ → Option View → Option Row
viewed name None = None
viewed name (Some view) = Some (test_row name (looks_in view))

abbrev pub test_named_row : List ℕ → Option Row
test_named_row name = viewed name (test_named name)

abbrev pub bif_named_row : List ℕ → Option Row
bif_named_row name =
    if bytes_eq name (codes "raise") then Some bif_raise_row
    else if is_built_in_name name then Some (bif_row name)
    else None

abbrev pub gc_bif_named_row : List ℕ → Option Row
gc_bif_named_row name = if is_built_in_name name then Some (gc_bif_row name) else None

-- an atom, and the terms behind it
abbrev pub headed_with : Option (List ℕ) → List Term → Option (List ℕ × List Term)
headed_with None ts = None
headed_with (Some word) ts = Some (word, ts)

abbrev pub headed_by : List Term → Option (List ℕ × List Term)
headed_by [] = None
headed_by (t ∷ ts) = headed_with (atom_of t) ts

-- by the row of the name in front, among such rows
abbrev pub by_name : ℕ → (List ℕ → Option Row) → Option (List ℕ × List Term) → Answer
by_name last rows None = Shape
by_name last rows (Some q) = answered last q.0 (rows q.0) q.1

abbrev pub by_second : ℕ → (List ℕ → Option Row) → List Term → Answer
by_second last rows ts = by_name last rows (headed_by ts)

-- ---- the first word

-- the words whose rows are told by a second one
abbrev pub rows_behind : List ℕ → Option (List ℕ → Option Row)
rows_behind w =
    if bytes_eq w (codes "test") then Some test_named_row
    else if bytes_eq w (codes "bif") then Some bif_named_row
    else if bytes_eq w (codes "gc_bif") then Some gc_bif_named_row
    else None

-- the words that are instructions by themselves
abbrev pub bare_instr : List ℕ → Option Instr
bare_instr w =
    if bytes_eq w (codes "return") then Some i.Return
    else if bytes_eq w (codes "if_end") then Some i.IfEnd
    else if bytes_eq w (codes "raw_raise") then Some i.RawRaise
    else None

-- the words that stand in some form, alone or in front, and that of a function's first form
abbrev pub is_bare_word : List ℕ → Bool
is_bare_word w = bytes_eq w (codes "return") || (bytes_eq w (codes "if_end") || bytes_eq w (codes "raw_raise"))

abbrev pub is_front_word : List ℕ → Bool
is_front_word w = bytes_eq w (codes "function") || (bytes_eq w (codes "test") || (bytes_eq w (codes "bif") || bytes_eq w (codes "gc_bif")))

abbrev pub is_known : List ℕ → Bool
is_known w = is_bare_word w || (is_front_word w || is_some (op_named w))

abbrev pub unless_known : List ℕ → Answer
unless_known w = if is_known w then Shape else Unknown w

abbrev pub row_of : ℕ → List ℕ → Option Op → List Term → Answer
row_of last w (Some op) ts = answer last (row op) ts
row_of last w None ts = unless_known w

abbrev pub tagged_with : ℕ → List ℕ → Option (List ℕ → Option Row) → List Term → Answer
tagged_with last w (Some rows) ts = by_second last rows ts
tagged_with last w None ts = row_of last w (op_named w) ts

abbrev pub tagged_of : ℕ → List ℕ → List Term → Answer
tagged_of last w ts = tagged_with last w (rows_behind w) ts

abbrev pub bare_with : List ℕ → Option Instr → Answer
bare_with w (Some i) = Reads i
bare_with w None = unless_known w

abbrev pub bare_of : List ℕ → Answer
bare_of w = bare_with w (bare_instr w)

abbrev pub by_word : ℕ → Option (List ℕ × List Term) → Answer
by_word last None = Shape
by_word last (Some q) = tagged_of last q.0 q.1

abbrev pub form_in : ℕ → Term-F Term → Answer
form_in last (Term-F.Atom a) = bare_of a
form_in last (Term-F.Tuple ts) = by_word last (headed_by ts)
form_in last other = Shape

abbrev pub form_of : ℕ → Term → Answer
form_of last t = form_in last (out-Term t)

-- ---- what the reader of a form answers, but for want of memory

abbrev pub Judges : Result Instr FormRefusal → Answer → Type 0
Judges (Ok x) a = a ≡ Reads x
Judges (Err refusal.Shape) a = a ≡ Shape
Judges (Err refusal.Register) a = a ≡ Register
Judges (Err (refusal.Unsupported n)) a = a ≡ Unknown n
Judges (Err (refusal.Memory e)) a = Unit {0}

abbrev pub refused : Bool → FormRefusal
refused true = refusal.Register
refused false = refusal.Shape

abbrev pub judged : Instr → Bool → Bool → Result Instr FormRefusal
judged x done wide = if done && not wide then Ok x else Err (refused done)
