-- Each row of the table of instructions makes what is in range.
use Rattle.std.proofs.Common.{◌≡◌, inl, inr, ℕ, Bool, true, false, ◌&&◌, ◌||◌, List, [], ◌∷◌, Option, Some, None, codes, refl, ap, ◌∙◌, subst, arith}
use Rattle.std.specs.Prelude.{if◌then◌else◌}
use Rattle.std.specs.List.{list_all}
use Rattle.std.specs.Str.{bytes_eq}
use Rattle.std.proofs.lemmas.Bool.{and_from}
use Rattle.term_tree.specs.declared.term.Term.{Term}
use Rattle.term_tree.proofs.TermLaws.{both_hold}
use Rattle.beam_code.specs.declared.instr.Instr.{Instr}
use Rattle.beam_code.specs.declared.instr.Instr.TheVariants as i
use Rattle.beam_code.specs.declared.instr.Operand.{Operand}
use Rattle.beam_code.specs.declared.instr.Place.{Place}
use Rattle.beam_code.specs.declared.instr.Place.TheVariants as p
use Rattle.beam_code.specs.Row.{place_operand}
use Rattle.beam_code.specs.Shape.{shape_of}
use Rattle.module_forms.specs.declared.rows.DataOp.{DataOp}
use Rattle.module_forms.specs.declared.rows.DataOp.TheVariants as data_op
use Rattle.module_forms.specs.declared.rows.FlowOp.{FlowOp}
use Rattle.module_forms.specs.declared.rows.FlowOp.TheVariants as flow_op
use Rattle.module_forms.specs.declared.rows.CallOp.{CallOp}
use Rattle.module_forms.specs.declared.rows.CallOp.TheVariants as call_op
use Rattle.module_forms.specs.declared.rows.EndOp.{EndOp}
use Rattle.module_forms.specs.declared.rows.EndOp.TheVariants as end_op
use Rattle.module_forms.specs.declared.rows.Op.{Op}
use Rattle.module_forms.specs.declared.rows.Op.TheVariants as op
use Rattle.module_forms.specs.declared.rows.View.{View}
use Rattle.module_forms.specs.Kind.{Vals}
use Rattle.module_forms.specs.Rows.{Row, Parts, row, data_row, flow_row, call_row, end_row, op_named, test_named, test_row, bif_row, gc_bif_row, bif_raise_row, looks_in}
use Rattle.module_forms.specs.Form.{rows_behind, bare_instr, test_named_row, bif_named_row, gc_bif_named_row, viewed}
use Rattle.module_forms.specs.Part.{is_built_in_name, operands_from}
use Rattle.path_rules.specs.Registers.{first_xs}
use Rattle.path_rules.specs.Ranges.{is_in_range, operand_in_range, place_in_range}
use Rattle.form_laws.specs.Written.{fine_all, is_arity, place_wide, source_wide, wide_all}
use Rattle.form_laws.specs.Form.{HasRow, OneWord, TwoWords, IsForm, Alone, Whole, IsRight, IsWritten}
use Rattle.form_laws.proofs.Terms.{mapped, tested, tested_last}
use Rattle.form_laws.proofs.Fronts.{form-right}
use Rattle.form_ranges.specs.Ranges.{IsLast, ReadInRange}
use Rattle.form_ranges.proofs.Parts.{first, rest, source, place, sources, looks, stack, arity, in_front}

all_three : {a b c : Bool} → a ≡ true → b ≡ true → c ≡ true → (a && b && c) ≡ true
all_three x y z = and_from _ _ (and_from _ _ x y) z

module _ (last : ℕ) (is : IsLast last) where
  abbrev Sound : Row → Type 0
  Sound (Parts ks make) = (vs : Vals ks) → fine_all ks vs ≡ true → wide_all last ks vs ≡ false → is_in_range (shape_of (make vs)) ≡ true

  one : (s : Operand) → source_wide last s ≡ false → list_all operand_in_range (s ∷ []) ≡ true
  one s e = and_from _ _ (source last is s e) refl

  two : (s t : Operand) → source_wide last s ≡ false → source_wide last t ≡ false → list_all operand_in_range (s ∷ t ∷ []) ≡ true
  two s t e g = and_from _ _ (source last is s e) (one t g)

  to : (d : Place) → place_wide last d ≡ false → list_all place_in_range (d ∷ []) ≡ true
  to d e = and_from _ _ (place last is d e) refl

  to_two : (c d : Place) → place_wide last c ≡ false → place_wide last d ≡ false → list_all place_in_range (c ∷ d ∷ []) ≡ true
  to_two c d e g = and_from _ _ (place last is c e) (to d g)

  from : (d : Place) → place_wide last d ≡ false → operand_in_range (place_operand d) ≡ true
  from (p.X n) e = place last is (p.X n) e
  from (p.Y n) e = refl

  source_to : (s : Operand) (d : Place) → (source_wide last s || (place_wide last d || false)) ≡ false → (list_all operand_in_range (s ∷ []) && list_all place_in_range (d ∷ []) && true) ≡ true
  source_to s d w = all_three (one s (first _ _ w)) (to d (first _ _ (rest _ _ w))) refl

  data_sound : (o : DataOp) → Sound (data_row o)
  data_sound data_op.Label = λ vs fine w. refl
  data_sound data_op.Line = λ vs fine w. refl
  data_sound data_op.Comment = λ vs fine w. refl
  data_sound data_op.FuncInfo = λ vs fine w. refl
  data_sound data_op.Move = λ vs fine w. source_to vs.0 vs.1.0 w
  data_sound data_op.Swap = λ vs fine w.
      all_three
      (and_from _ _ (from vs.0 (first _ _ w)) (and_from _ _ (from vs.1.0 (first _ _ (rest _ _ w))) refl))
      (to_two vs.0 vs.1.0 (first _ _ w) (first _ _ (rest _ _ w))) refl
  data_sound data_op.GetList = λ vs fine w.
      all_three (one vs.0 (first _ _ w)) (to_two vs.1.0 vs.1.1.0 (first _ _ (rest _ _ w)) (first _ _ (rest _ _ (rest _ _ w)))) refl
  data_sound data_op.GetHd = λ vs fine w. source_to vs.0 vs.1.0 w
  data_sound data_op.GetTl = λ vs fine w. source_to vs.0 vs.1.0 w
  data_sound data_op.GetTupleElement = λ vs fine w. source_to vs.0 vs.1.1.0 w
  data_sound data_op.PutList = λ vs fine w.
      all_three (two vs.0 vs.1.0 (first _ _ w) (first _ _ (rest _ _ w))) (to vs.1.1.0 (first _ _ (rest _ _ (rest _ _ w)))) refl
  data_sound data_op.PutTuple2 = λ vs fine w.
      all_three (in_front last is vs.1.0 0 (sources last is vs.1.0 (first _ _ (rest _ _ w))) (omega arith)) (to vs.0 (first _ _ w)) refl

  flow_sound : (o : FlowOp) → Sound (flow_row o)
  flow_sound flow_op.SelectVal = λ vs fine w. all_three (one vs.0 (first _ _ w)) refl refl
  flow_sound flow_op.SelectTupleArity = λ vs fine w. all_three (one vs.0 (first _ _ w)) refl refl
  flow_sound flow_op.Jump = λ vs fine w. refl
  flow_sound flow_op.Allocate = λ vs fine w. all_three refl refl (stack last is vs.0 (first _ _ w))
  flow_sound flow_op.AllocateZero = λ vs fine w. all_three refl refl (stack last is vs.0 (first _ _ w))
  flow_sound flow_op.AllocateHeap = λ vs fine w. all_three refl refl (stack last is vs.0 (first _ _ w))
  flow_sound flow_op.AllocateHeapZero = λ vs fine w. all_three refl refl (stack last is vs.0 (first _ _ w))
  flow_sound flow_op.TestHeap = λ vs fine w. refl
  flow_sound flow_op.Init = λ vs fine w. refl
  flow_sound flow_op.Kill = λ vs fine w. refl
  flow_sound flow_op.Trim = λ vs fine w. refl
  flow_sound flow_op.Deallocate = λ vs fine w. refl

  arity_first : (n : ℕ) (b : Bool) → (is_arity n && b) ≡ true → list_all operand_in_range (first_xs n) ≡ true
  arity_first n b e = arity last is n (both_hold (is_arity n) b e).0

  call_sound : (o : CallOp) → Sound (call_row o)
  call_sound call_op.Call = λ vs fine w. all_three (arity_first vs.0 _ fine) refl refl
  call_sound call_op.CallExt = λ vs fine w. all_three (arity_first vs.0 _ fine) refl refl
  call_sound call_op.CallLast = λ vs fine w. all_three (arity_first vs.0 _ fine) refl refl
  call_sound call_op.CallExtLast = λ vs fine w. all_three (arity_first vs.0 _ fine) refl refl
  call_sound call_op.CallOnly = λ vs fine w. all_three (arity_first vs.0 _ fine) refl refl
  call_sound call_op.CallExtOnly = λ vs fine w. all_three (arity_first vs.0 _ fine) refl refl

  two_sources : (s t : Operand) (b : Bool) → ((source_wide last s || source_wide last t) || b) ≡ false → (list_all operand_in_range (s ∷ t ∷ []) && true && true) ≡ true
  two_sources s t b w = all_three (two s t (first _ _ (first _ _ w)) (rest _ _ (first _ _ w))) refl refl

  end_sound : (o : EndOp) → Sound (end_row o)
  end_sound end_op.Badmatch = λ vs fine w. all_three (one vs.0 (first _ _ w)) refl refl
  end_sound end_op.CaseEnd = λ vs fine w. all_three (one vs.0 (first _ _ w)) refl refl
  end_sound end_op.TryCaseEnd = λ vs fine w. all_three (one vs.0 (first _ _ w)) refl refl
  end_sound end_op.Try = λ vs fine w. refl
  end_sound end_op.Catch = λ vs fine w. refl
  end_sound end_op.TryEnd = λ vs fine w. refl
  end_sound end_op.TryCase = λ vs fine w. refl
  end_sound end_op.CatchEnd = λ vs fine w. refl
  end_sound end_op.Raise = λ vs fine w. two_sources vs.1.0.0 vs.1.0.1 _ w

  sound : (o : Op) → Sound (row o)
  sound (op.Data o) = data_sound o
  sound (op.Flow o) = flow_sound o
  sound (op.Call o) = call_sound o
  sound (op.End o) = end_sound o

  -- ---- rows whose second word is a name

  test_sound : (name : List ℕ) (v : View) → Sound (test_row name (looks_in v))
  test_sound name v vs fine w = all_three (in_front last is (operands_from vs.1.0) 0 (looks last is vs.1.0 (first _ _ w)) (omega arith)) refl refl

  bif_sound : (name : List ℕ) → Sound (bif_row name)
  bif_sound name vs fine w =
      all_three (in_front last is vs.1.0 0 (sources last is vs.1.0 (first _ _ w)) (omega arith)) (to vs.1.1.0 (first _ _ (rest _ _ w))) refl

  gc_bif_sound : (name : List ℕ) → Sound (gc_bif_row name)
  gc_bif_sound name vs fine w =
      all_three (in_front last is vs.1.1.0 0 (sources last is vs.1.1.0 (first _ _ (rest _ _ w))) (omega arith)) (to vs.1.1.1.0 (first _ _ (rest _ _ (rest _ _ w)))) refl

  bif_raise_sound : Sound bif_raise_row
  bif_raise_sound vs fine w = two_sources vs.1.0.0 vs.1.0.1 _ w

  -- ---- the words in front

  some_is : {A : Type 0} {a b : A} → Some a ≡ Some b → a ≡ b
  some_is e = cc

  with_test : (name : List ℕ) (o : Option View) (r : Row) → viewed name o ≡ Some r → Sound r
  with_test name None r e = absurd cc
  with_test name (Some v) r e = subst Sound (some_is e) (test_sound name v)

  with_bif : (name : List ℕ) (r : Row) → bif_named_row name ≡ Some r → Sound r
  with_bif name r e =
      elim (tested (bytes_eq name (codes "raise")) r (if is_built_in_name name then Some (bif_row name) else None) (Some bif_raise_row) e) [
        | inl t ↦ subst Sound (some_is t.1) bif_raise_sound
        | inr t ↦ (let g = tested_last (is_built_in_name name) r (Some (bif_row name)) t in subst Sound (some_is g.1) (bif_sound name))
      ]

  with_gc_bif : (name : List ℕ) (r : Row) → gc_bif_named_row name ≡ Some r → Sound r
  with_gc_bif name r e = let g = tested_last (is_built_in_name name) r (Some (gc_bif_row name)) e in subst Sound (some_is g.1) (gc_bif_sound name)

  behind : (w name : List ℕ) (rows : List ℕ → Option Row) (r : Row) → rows_behind w ≡ Some rows → rows name ≡ Some r → Sound r
  behind w name rows r e named =
      elim (tested (bytes_eq w (codes "test")) rows (if bytes_eq w (codes "bif") then Some bif_named_row else if bytes_eq w (codes "gc_bif") then Some gc_bif_named_row else None) (Some test_named_row) e) [
        | inl t ↦ with_test name (test_named name) r (ap (λ (f : List ℕ → Option Row). f name) (some_is t.1) ∙ named)
        | inr t ↦
            elim (tested (bytes_eq w (codes "bif")) rows (if bytes_eq w (codes "gc_bif") then Some gc_bif_named_row else None) (Some bif_named_row) t) [
              | inl u ↦ with_bif name r (ap (λ (f : List ℕ → Option Row). f name) (some_is u.1) ∙ named)
              | inr u ↦ (let g = tested_last (bytes_eq w (codes "gc_bif")) rows (Some gc_bif_named_row) u in with_gc_bif name r (ap (λ (f : List ℕ → Option Row). f name) (some_is g.1) ∙ named))
            ]
      ]

  has_row : (words : List (List ℕ)) (r : Row) → HasRow words r → Sound r
  has_row _ _ (OneWord w r none e) = (let m = mapped row (op_named w) r e in subst Sound m.2 (sound m.0))
  has_row _ _ (TwoWords w name rows r e named) = behind w name rows r e named

  bare : (w : List ℕ) (x : Instr) → bare_instr w ≡ Some x → is_in_range (shape_of x) ≡ true
  bare w x e =
      elim (tested (bytes_eq w (codes "return")) x (if bytes_eq w (codes "if_end") then Some i.IfEnd else if bytes_eq w (codes "raw_raise") then Some i.RawRaise else None) (Some i.Return) e) [
        | inl t ↦ subst (λ (y : Instr). is_in_range (shape_of y) ≡ true) (some_is t.1) refl
        | inr t ↦
            elim (tested (bytes_eq w (codes "if_end")) x (if bytes_eq w (codes "raw_raise") then Some i.RawRaise else None) (Some i.IfEnd) t) [
              | inl u ↦ subst (λ (y : Instr). is_in_range (shape_of y) ≡ true) (some_is u.1) refl
              | inr u ↦ (let g = tested_last (bytes_eq w (codes "raw_raise")) x (Some i.RawRaise) u in subst (λ (y : Instr). is_in_range (shape_of y) ≡ true) (some_is g.1) refl)
            ]
      ]

  written : (r : Row) (ts : List Term) (x : Instr) → Sound r → IsWritten last r ts x false → is_in_range (shape_of x) ≡ true
  written (Parts ks make) ts x ok are = subst (λ (y : Instr). is_in_range (shape_of y) ≡ true) are.is (ok are.values are.fine are.width)

  form : (t : Term) (x : Instr) (wide : Bool) → wide ≡ false → IsForm last t x wide → is_in_range (shape_of x) ≡ true
  form _ _ _ e (Alone w x b) = bare w x b
  form _ _ _ e (Whole words r ts x wide has is_written) = written r ts x (has_row words r has) (subst (λ (b : Bool). IsWritten last r ts x b) e is_written)

  pub read_in_range : ReadInRange last
  read_in_range t x e = form t x false refl (subst (λ a. IsRight last t a) e (form-right last t))
