-- What is read of a form weighs no more than the form.
use Rattle.std.proofs.Common.{◌≡◌, ℕ, ◌+◌, ◌*◌, ◌≤◌, Bool, false, List, ◌++◌, map, Option, Some, None, codes, subst, arith}
use Rattle.std.specs.Prelude.{IfSome}
use Rattle.std.specs.Str.{bytes_eq}
use Rattle.std.proofs.lemmas.List.Sums.{sum_by-append, sum_by-cons}
use Rattle.term_tree.specs.declared.term.Term.{Term}
use Rattle.beam_code.specs.declared.instr.Instr.{Instr}
use Rattle.beam_code.specs.declared.instr.Instr.TheVariants as i
use Rattle.beam_code.specs.declared.instr.Place.{Place}
use Rattle.beam_code.specs.declared.instr.Place.TheVariants as p
use Rattle.beam_code.specs.Row.{place_operand}
use Rattle.beam_code.specs.Shape.{Shape, shape_of}
use Rattle.module_forms.specs.declared.rows.DataOp.TheVariants as data_op
use Rattle.module_forms.specs.declared.rows.FlowOp.TheVariants as flow_op
use Rattle.module_forms.specs.declared.rows.CallOp.TheVariants as call_op
use Rattle.module_forms.specs.declared.rows.EndOp.TheVariants as end_op
use Rattle.module_forms.specs.declared.rows.Op.{Op}
use Rattle.module_forms.specs.declared.rows.Op.TheVariants as op
use Rattle.module_forms.specs.declared.rows.View.{View}
use Rattle.module_forms.specs.Form.{Answer, Reads, bare_instr, form_of}
use Rattle.module_forms.specs.Kind.{Vals}
use Rattle.module_forms.specs.Rows.{Row, Parts, row, test_row, bif_row, gc_bif_row, bif_raise_row, looks_in}
use Rattle.form_laws.specs.Form.{IsForm, Alone, Whole, IsRight, IsWritten, atom}
use Rattle.form_laws.specs.Written.{written_all}
use Rattle.form_laws.proofs.Fronts.{form-right}
use Rattle.module_sizes.specs.Counts.{operand_names, operand_literals, operand_words, all_operands, bare_names, instr_names, instr_literals, instr_words}
use Rattle.module_sizes.proofs.EachRow.{chosen, each_row}
use Rattle.module_sizes.proofs.Parts.{operand_weight, operand_weights, part_weights, parts_weigh}
use Rattle.module_sizes.proofs.Weights.{weight, weights, weight-Tuple, sums_within}

abbrev pub shape_weight : Shape → ℕ
shape_weight shape = 2 * bare_names shape + operand_weights (all_operands shape)

abbrev pub instr_weight : Instr → ℕ
instr_weight x = shape_weight (shape_of x)

pub instr_counts : (x : Instr) → 2 * (instr_names x + instr_literals x) + instr_words x ≤ instr_weight x
instr_counts x =
    let all = sums_within operand_names operand_literals operand_words operand_weight (λ s. omega arith) (all_operands (shape_of x)) in
    omega (arith, all)

-- ---- the table: an instruction weighs no more than the values of its parts

abbrev Sound : Row → Type 0
Sound (Parts ks make) = (vs : Vals ks) → instr_weight (make vs) ≤ part_weights ks vs

place_weighs : (d : Place) → operand_weight (place_operand d) ≡ 0
place_weighs (p.X n) = omega arith
place_weighs (p.Y n) = omega arith

-- one row of each kind is named, so that the last line goes over each other one
op_sound : (o : Op) → Sound (row o)
op_sound (op.Data data_op.Swap) = λ vs. omega (arith, place_weighs vs.0, place_weighs vs.1.0)
op_sound (op.Flow flow_op.SelectVal) = λ vs. omega (arith, sum_by-cons operand_weight vs.0 (map (λ c. c.value) vs.1.1.0))
op_sound (op.Call call_op.CallExt) = λ vs. omega arith
op_sound (op.End end_op.Raise) = λ vs. omega arith
op_sound other = λ vs. omega arith

test_sound : (name : List ℕ) (v : View) → Sound (test_row name (looks_in v))
test_sound name v vs = omega arith

bif_sound : (name : List ℕ) → Sound (bif_row name)
bif_sound name vs = omega arith

gc_bif_sound : (name : List ℕ) → Sound (gc_bif_row name)
gc_bif_sound name vs = omega arith

raise_sound : Sound bif_raise_row
raise_sound vs = omega arith

-- ---- forms

bare : (w : List ℕ) → IfSome (bare_instr w) (λ x. instr_weight x ≡ 0)
bare w =
    let P : Instr → Type 0 = λ (x : Instr). instr_weight x ≡ 0 in
    chosen P (bytes_eq w (codes "return")) (Some i.Return) _ (omega arith)
    (chosen P (bytes_eq w (codes "if_end")) (Some i.IfEnd) _ (omega arith) (chosen P (bytes_eq w (codes "raw_raise")) (Some i.RawRaise) None (omega arith) tt))

written : (last : ℕ) (r : Row) (ts : List Term) (x : Instr) (wide : Bool) → Sound r → IsWritten last r ts x wide → instr_weight x ≤ weights ts
written last (Parts ks make) ts x wide sound are =
    let most : instr_weight (make are.values) ≤ weights (written_all ks are.values) = omega (arith, sound are.values, parts_weigh ks are.values) in
    let same : instr_weight x ≤ weights (written_all ks are.values) = subst (λ (y : Instr). instr_weight y ≤ weights (written_all ks are.values)) are.is most in
    rw are.spelled same

form : (last : ℕ) (u : Term) (x : Instr) (wide : Bool) → IsForm last u x wide → instr_weight x ≤ weight u
form last _ _ _ (Alone w x e) =
    let none : instr_weight x ≡ 0 = subst (λ (o : Option Instr). IfSome o (λ y. instr_weight y ≡ 0)) e (bare w) in
    omega (arith, none)
form last _ _ _ (Whole words r ts x wide has is) =
    let most = written last r ts x wide (each_row Sound op_sound test_sound bif_sound gc_bif_sound raise_sound words r has) is in
    omega (arith, most, weight-Tuple (map atom words ++ ts), sum_by-append weight (map atom words) ts)

pub form_weighs : (last : ℕ) (u : Term) (x : Instr) → form_of last u ≡ Reads x → instr_weight x ≤ weight u
form_weighs last u x e = form last u x false (subst (λ (a : Answer). IsRight last u a) e (form-right last u))
