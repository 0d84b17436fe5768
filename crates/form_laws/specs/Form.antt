-- Which form writes which instruction (docs/BEAM.md, Instructions), and when each answer comes.
use Rattle.std.specs.Prelude.{◌≡◌, ℕ, Bool, true, false, List, [], ◌∷◌, ◌++◌, map, Option, Some, None}
use Rattle.std.specs.Option.{option_map}
use Rattle.term_tree.specs.declared.term.Term.{Term}
use Rattle.term_tree.specs.declared.term.Term as t
use Rattle.beam_code.specs.declared.instr.Instr.{Instr}
use Rattle.module_forms.specs.Kind.{Kind, Vals}
use Rattle.module_forms.specs.Rows.{Row, Parts, row, op_named}
use Rattle.module_forms.specs.Form.{Answer, Reads, Register, Shape, Unknown, rows_behind, bare_instr, is_known}
use Rattle.form_laws.specs.Written.{written_all, fine_all, wide_all}

-- the parts of such a form, written out
pub record AreParts (last : ℕ) (ks : List Kind) (make : Vals ks → Instr) (ts : List Term) (i : Instr) (wide : Bool) : Type 0 where
  pub values : Vals ks
  pub spelled : ts ≡ written_all ks values
  pub fine : fine_all ks values ≡ true
  pub is : make values ≡ i
  pub width : wide_all last ks values ≡ wide

-- the parts write the instruction, and a number of theirs is past its limit or none is
abbrev pub IsWritten : ℕ → Row → List Term → Instr → Bool → Type 0
IsWritten last (Parts ks make) ts i wide = AreParts last ks make ts i wide

-- ---- the words in front of the parts

abbrev pub row_named : List ℕ → Option Row
row_named w = option_map row (op_named w)

-- the row of one word, or of two
pub data HasRow : List (List ℕ) → Row → Type 0 where
  OneWord : (w : List ℕ) (r : Row) → rows_behind w ≡ None → row_named w ≡ Some r → HasRow (w ∷ []) r
  TwoWords : (w name : List ℕ) (rows : List ℕ → Option Row) (r : Row) → rows_behind w ≡ Some rows → rows name ≡ Some r → HasRow (w ∷ name ∷ []) r

abbrev pub atom : List ℕ → Term
atom w = t.Atom w

-- the form writes the instruction, and a number in it is past its limit or none is
pub data IsForm (last : ℕ) : Term → Instr → Bool → Type 0 where
  Alone : (w : List ℕ) (i : Instr) → bare_instr w ≡ Some i → IsForm last (t.Atom w) i false
  Whole : (words : List (List ℕ)) (r : Row) (ts : List Term) (i : Instr) (wide : Bool) → HasRow words r → IsWritten last r ts i wide → IsForm last (t.Tuple (map atom words ++ ts)) i wide

-- ---- what is not supported

-- the word of the form is none of an instruction, or the name behind it none of its tests or built-ins
pub data IsUnsupported : Term → List ℕ → Type 0 where
  AnAtom : (w : List ℕ) → is_known w ≡ false → IsUnsupported (t.Atom w) w
  ATuple : (w : List ℕ) (ts : List Term) → is_known w ≡ false → IsUnsupported (t.Tuple (t.Atom w ∷ ts)) w
  AName : (w name : List ℕ) (rows : List ℕ → Option Row) (ts : List Term) → rows_behind w ≡ Some rows → rows name ≡ None → IsUnsupported (t.Tuple (t.Atom w ∷ t.Atom name ∷ ts)) name

-- when each answer comes
abbrev pub IsRight : ℕ → Term → Answer → Type 0
IsRight last x (Reads i) = IsForm last x i false
IsRight last x Register = (i : Instr) × IsForm last x i true
IsRight last x Shape = ((i : Instr) (wide : Bool) → IsForm last x i wide → ⊥) × ((name : List ℕ) → IsUnsupported x name → ⊥)
IsRight last x (Unknown name) = IsUnsupported x name
