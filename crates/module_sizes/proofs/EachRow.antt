-- What holds of each row of the table of instructions, and of the rows that a name tells, holds of the row of any words.
use Rattle.std.proofs.Common.{ℕ, Bool, true, false, if◌then◌else◌, List, Option, Some, None, codes, subst}
use Rattle.std.specs.Prelude.{IfSome}
use Rattle.std.specs.Str.{bytes_eq}
use Rattle.module_forms.specs.declared.rows.Op.{Op}
use Rattle.module_forms.specs.declared.rows.View.{View}
use Rattle.module_forms.specs.Form.{rows_behind, test_named_row, bif_named_row, gc_bif_named_row, viewed}
use Rattle.module_forms.specs.Part.{is_built_in_name}
use Rattle.module_forms.specs.Rows.{Row, row, op_named, test_named, looks_in, test_row, bif_row, gc_bif_row, bif_raise_row}
use Rattle.form_laws.specs.Form.{HasRow, OneWord, TwoWords}
use Rattle.form_laws.proofs.Terms.{mapped}

pub chosen : {A : Type 0} (P : A → Type 0) (b : Bool) (r s : Option A) → IfSome r P → IfSome s P → IfSome (if b then r else s) P
chosen P true r s h g = h
chosen P false r s h g = g

module _ (P : Row → Type 0) (ops : (o : Op) → P (row o)) (tests : (name : List ℕ) (v : View) → P (test_row name (looks_in v)))
    (bifs : (name : List ℕ) → P (bif_row name)) (gc_bifs : (name : List ℕ) → P (gc_bif_row name)) (raises : P bif_raise_row) where
  abbrev Named : (List ℕ → Option Row) → Type 0
  Named rows = (name : List ℕ) → IfSome (rows name) P

  view : (name : List ℕ) (v : Option View) → IfSome (viewed name v) P
  view name None = tt
  view name (Some v) = tests name v

  named_test : Named test_named_row
  named_test name = view name (test_named name)

  named_bif : Named bif_named_row
  named_bif name = chosen P (bytes_eq name (codes "raise")) (Some bif_raise_row) _ raises (chosen P (is_built_in_name name) (Some (bif_row name)) None (bifs name) tt)

  named_gc_bif : Named gc_bif_named_row
  named_gc_bif name = chosen P (is_built_in_name name) (Some (gc_bif_row name)) None (gc_bifs name) tt

  behind : (w : List ℕ) → IfSome (rows_behind w) Named
  behind w =
      chosen Named (bytes_eq w (codes "test")) (Some test_named_row) _ named_test
      (chosen Named (bytes_eq w (codes "bif")) (Some bif_named_row) _ named_bif (chosen Named (bytes_eq w (codes "gc_bif")) (Some gc_bif_named_row) None named_gc_bif tt))

  pub each_row : (words : List (List ℕ)) (r : Row) → HasRow words r → P r
  each_row _ _ (OneWord w r none e) = let m = mapped row (op_named w) r e in subst P m.2 (ops m.0)
  each_row _ _ (TwoWords w name rows r e named) =
      let all : Named rows = subst (λ (o : Option (List ℕ → Option Row)). IfSome o Named) e (behind w) in
      subst (λ (o : Option Row). IfSome o P) named (all name)
