-- The table of instructions (docs/BEAM.md, Instructions): a row is the kinds of an instruction's parts, and the
-- instruction that their values make.
use Rattle.std.specs.Prelude.{ℕ, List, [], ◌∷◌, Option, Some, None, codes, if◌then◌else◌}
use Rattle.std.specs.Option.{option_map}
use Rattle.std.specs.Str.{bytes_eq}
use denote.Bor.{Bor}
use Rattle.module_forms.specs.declared.rows.DataOp.{DataOp}
use Rattle.module_forms.specs.declared.rows.DataOp.TheVariants as data_op
use Rattle.module_forms.specs.declared.rows.FlowOp.{FlowOp}
use Rattle.module_forms.specs.declared.rows.FlowOp.TheVariants as flow_op
use Rattle.module_forms.specs.declared.rows.CallOp.{CallOp}
use Rattle.module_forms.specs.declared.rows.CallOp.TheVariants as call_op
use Rattle.module_forms.specs.declared.rows.EndOp.{EndOp}
use Rattle.module_forms.specs.declared.rows.EndOp.TheVariants as end_op
use Rattle.module_forms.specs.declared.rows.Op.{Op}
use Rattle.module_forms.specs.declared.rows.Op.TheVariants as op
use Rattle.beam_code.specs.declared.instr.Instr.{Instr}
use Rattle.beam_code.specs.declared.instr.Instr.TheVariants as i
use Rattle.module_forms.specs.Kind.{Kind, Vals, Number, Stack, Arity, Any, Named, Source, Dest, Slot, Jump, Entry, Fail, NoFail, TwoSources, Elements, Cases, ArityCases, Function, Looks, Arguments}
use Rattle.module_forms.specs.declared.part.Look.{Look}
use Rattle.module_forms.specs.declared.part.Look.TheVariants as look
use Rattle.module_forms.specs.declared.rows.View.{View}
use Rattle.module_forms.specs.declared.rows.View.TheVariants as view
use Rattle.module_forms.specs.Part.{operands_from}
use Rattle.module_forms.specs.Rest.{Rest, take_all}

-- the parts of a form, and the instruction that they make
pub data Row : Type 0 where
  Parts : (ks : List Kind) → (Vals ks → Instr) → Row

abbrev pub data_row : DataOp → Row
data_row data_op.Label = Parts (Number ∷ []) (λ ws. i.Label ws.0)
data_row data_op.Line = Parts (Any ∷ []) (λ ws. i.Line ws.0)
data_row data_op.Comment = Parts (Any ∷ []) (λ ws. i.Comment ws.0)
data_row data_op.FuncInfo = Parts (Named ∷ Named ∷ Arity ∷ []) (λ ws. i.FuncInfo ws.0 ws.1.0 ws.1.1.0)
data_row data_op.Move = Parts (Source ∷ Dest ∷ []) (λ ws. i.Move ws.0 ws.1.0)
data_row data_op.Swap = Parts (Dest ∷ Dest ∷ []) (λ ws. i.Swap ws.0 ws.1.0)
data_row data_op.GetList = Parts (Source ∷ Dest ∷ Dest ∷ []) (λ ws. i.GetList ws.0 ws.1.0 ws.1.1.0)
data_row data_op.GetHd = Parts (Source ∷ Dest ∷ []) (λ ws. i.GetHd ws.0 ws.1.0)
data_row data_op.GetTl = Parts (Source ∷ Dest ∷ []) (λ ws. i.GetTl ws.0 ws.1.0)
data_row data_op.GetTupleElement = Parts (Source ∷ Number ∷ Dest ∷ []) (λ ws. i.GetTupleElement ws.0 ws.1.0 ws.1.1.0)
data_row data_op.PutList = Parts (Source ∷ Source ∷ Dest ∷ []) (λ ws. i.PutList ws.0 ws.1.0 ws.1.1.0)
data_row data_op.PutTuple2 = Parts (Dest ∷ Elements ∷ []) (λ ws. i.PutTuple2 ws.0 ws.1.0)

abbrev pub flow_row : FlowOp → Row
flow_row flow_op.SelectVal = Parts (Source ∷ Jump ∷ Cases ∷ []) (λ ws. i.SelectVal ws.0 ws.1.0 ws.1.1.0)
flow_row flow_op.SelectTupleArity = Parts (Source ∷ Jump ∷ ArityCases ∷ []) (λ ws. i.SelectTupleArity ws.0 ws.1.0 ws.1.1.0)
flow_row flow_op.Jump = Parts (Jump ∷ []) (λ ws. i.Jump ws.0)
flow_row flow_op.Allocate = Parts (Stack ∷ Stack ∷ []) (λ ws. i.Allocate ws.0 ws.1.0)
flow_row flow_op.AllocateZero = Parts (Stack ∷ Stack ∷ []) (λ ws. i.AllocateZero ws.0 ws.1.0)
flow_row flow_op.AllocateHeap = Parts (Stack ∷ Number ∷ Stack ∷ []) (λ ws. i.AllocateHeap ws.0 ws.1.0 ws.1.1.0)
flow_row flow_op.AllocateHeapZero = Parts (Stack ∷ Number ∷ Stack ∷ []) (λ ws. i.AllocateHeapZero ws.0 ws.1.0 ws.1.1.0)
flow_row flow_op.TestHeap = Parts (Number ∷ Stack ∷ []) (λ ws. i.TestHeap ws.0 ws.1.0)
flow_row flow_op.Init = Parts (Slot ∷ []) (λ ws. i.Init ws.0)
flow_row flow_op.Kill = Parts (Slot ∷ []) (λ ws. i.Kill ws.0)
flow_row flow_op.Trim = Parts (Stack ∷ Stack ∷ []) (λ ws. i.Trim ws.0 ws.1.0)
flow_row flow_op.Deallocate = Parts (Stack ∷ []) (λ ws. i.Deallocate ws.0)

abbrev pub call_row : CallOp → Row
call_row call_op.Call = Parts (Arity ∷ Entry ∷ []) (λ ws. i.Call ws.0 ws.1.0)
call_row call_op.CallExt = Parts (Arity ∷ Function ∷ []) (λ ws. i.CallExt ws.0 ws.1.0)
call_row call_op.CallLast = Parts (Arity ∷ Entry ∷ Stack ∷ []) (λ ws. i.CallLast ws.0 ws.1.0 ws.1.1.0)
call_row call_op.CallExtLast = Parts (Arity ∷ Function ∷ Stack ∷ []) (λ ws. i.CallExtLast ws.0 ws.1.0 ws.1.1.0)
call_row call_op.CallOnly = Parts (Arity ∷ Entry ∷ []) (λ ws. i.CallOnly ws.0 ws.1.0)
call_row call_op.CallExtOnly = Parts (Arity ∷ Function ∷ []) (λ ws. i.CallExtOnly ws.0 ws.1.0)

abbrev pub end_row : EndOp → Row
end_row end_op.Badmatch = Parts (Source ∷ []) (λ ws. i.Badmatch ws.0)
end_row end_op.CaseEnd = Parts (Source ∷ []) (λ ws. i.CaseEnd ws.0)
end_row end_op.TryCaseEnd = Parts (Source ∷ []) (λ ws. i.TryCaseEnd ws.0)
end_row end_op.Try = Parts (Slot ∷ Jump ∷ []) (λ ws. i.Try ws.0 ws.1.0)
end_row end_op.Catch = Parts (Slot ∷ Jump ∷ []) (λ ws. i.Catch ws.0 ws.1.0)
end_row end_op.TryEnd = Parts (Slot ∷ []) (λ ws. i.TryEnd ws.0)
end_row end_op.TryCase = Parts (Slot ∷ []) (λ ws. i.TryCase ws.0)
end_row end_op.CatchEnd = Parts (Slot ∷ []) (λ ws. i.CatchEnd ws.0)
end_row end_op.Raise = Parts (NoFail ∷ TwoSources ∷ Dest ∷ []) (λ ws. i.Raise ws.1.0.0 ws.1.0.1 ws.1.1.0)

abbrev pub row : Op → Row
row (op.Data o) = data_row o
row (op.Flow o) = flow_row o
row (op.Call o) = call_row o
row (op.End o) = end_row o

abbrev pub taken : Row → Rest → Option (Instr × Rest)
taken (Parts ks make) r = option_map (λ ws. (make ws.0, ws.1)) (take_all ks r)

-- ---- rows whose second word is a name

abbrev pub test_row : List ℕ → List Look → Row
test_row name looks = Parts (Jump ∷ Looks looks ∷ []) (λ ws. i.Test name ws.0 (operands_from ws.1.0))

abbrev pub bif_row : List ℕ → Row
bif_row name = Parts (Fail ∷ Arguments name ∷ Dest ∷ []) (λ ws. i.Bif name ws.0 ws.1.0 ws.1.1.0)

abbrev pub gc_bif_row : List ℕ → Row
gc_bif_row name = Parts (Fail ∷ Stack ∷ Arguments name ∷ Dest ∷ []) (λ ws. i.GcBif name ws.0 ws.1.0 ws.1.1.0 ws.1.1.1.0)

abbrev pub bif_raise_row : Row
bif_raise_row = Parts (NoFail ∷ TwoSources ∷ Dest ∷ []) (λ ws. i.BifRaise ws.1.0.0 ws.1.0.1 ws.1.1.0)

-- the first with this word
abbrev pub first_named : {A : Type 0} → List ℕ → List (Bor (List ℕ) × A) → Option A
first_named text [] = None
first_named text (r ∷ rs) = if bytes_eq r.0.now text then Some r.1 else first_named text rs

-- the word of each row
unfoldable pub op_named : List ℕ → Option Op
op_named text =
    if bytes_eq (codes "label") text then Some (op.Data data_op.Label)
    else if bytes_eq (codes "line") text then Some (op.Data data_op.Line)
    else if bytes_eq (codes "%") text then Some (op.Data data_op.Comment)
    else if bytes_eq (codes "func_info") text then Some (op.Data data_op.FuncInfo)
    else if bytes_eq (codes "move") text then Some (op.Data data_op.Move)
    else if bytes_eq (codes "swap") text then Some (op.Data data_op.Swap)
    else if bytes_eq (codes "get_list") text then Some (op.Data data_op.GetList)
    else if bytes_eq (codes "get_hd") text then Some (op.Data data_op.GetHd)
    else if bytes_eq (codes "get_tl") text then Some (op.Data data_op.GetTl)
    else if bytes_eq (codes "get_tuple_element") text then Some (op.Data data_op.GetTupleElement)
    else if bytes_eq (codes "put_list") text then Some (op.Data data_op.PutList)
    else if bytes_eq (codes "put_tuple2") text then Some (op.Data data_op.PutTuple2)
    else if bytes_eq (codes "select_val") text then Some (op.Flow flow_op.SelectVal)
    else if bytes_eq (codes "select_tuple_arity") text then Some (op.Flow flow_op.SelectTupleArity)
    else if bytes_eq (codes "jump") text then Some (op.Flow flow_op.Jump)
    else if bytes_eq (codes "allocate") text then Some (op.Flow flow_op.Allocate)
    else if bytes_eq (codes "allocate_zero") text then Some (op.Flow flow_op.AllocateZero)
    else if bytes_eq (codes "allocate_heap") text then Some (op.Flow flow_op.AllocateHeap)
    else if bytes_eq (codes "allocate_heap_zero") text then Some (op.Flow flow_op.AllocateHeapZero)
    else if bytes_eq (codes "test_heap") text then Some (op.Flow flow_op.TestHeap)
    else if bytes_eq (codes "init") text then Some (op.Flow flow_op.Init)
    else if bytes_eq (codes "kill") text then Some (op.Flow flow_op.Kill)
    else if bytes_eq (codes "trim") text then Some (op.Flow flow_op.Trim)
    else if bytes_eq (codes "deallocate") text then Some (op.Flow flow_op.Deallocate)
    else if bytes_eq (codes "call") text then Some (op.Call call_op.Call)
    else if bytes_eq (codes "call_ext") text then Some (op.Call call_op.CallExt)
    else if bytes_eq (codes "call_last") text then Some (op.Call call_op.CallLast)
    else if bytes_eq (codes "call_ext_last") text then Some (op.Call call_op.CallExtLast)
    else if bytes_eq (codes "call_only") text then Some (op.Call call_op.CallOnly)
    else if bytes_eq (codes "call_ext_only") text then Some (op.Call call_op.CallExtOnly)
    else if bytes_eq (codes "badmatch") text then Some (op.End end_op.Badmatch)
    else if bytes_eq (codes "case_end") text then Some (op.End end_op.CaseEnd)
    else if bytes_eq (codes "try_case_end") text then Some (op.End end_op.TryCaseEnd)
    else if bytes_eq (codes "try") text then Some (op.End end_op.Try)
    else if bytes_eq (codes "catch") text then Some (op.End end_op.Catch)
    else if bytes_eq (codes "try_end") text then Some (op.End end_op.TryEnd)
    else if bytes_eq (codes "try_case") text then Some (op.End end_op.TryCase)
    else if bytes_eq (codes "catch_end") text then Some (op.End end_op.CatchEnd)
    else if bytes_eq (codes "raise") text then Some (op.End end_op.Raise)
    else None

-- ---- the tests, and what each looks at

abbrev pub looks_in : View → List Look
looks_in view.One = look.Source ∷ []
looks_in view.Two = look.Source ∷ look.Source ∷ []
looks_in view.Sized = look.Source ∷ look.Number ∷ []
looks_in view.Marked = look.Source ∷ look.Number ∷ look.Atom ∷ []
looks_in view.EitherWay = look.Source ∷ look.Either ∷ []

unfoldable pub test_named : List ℕ → Option View
test_named text =
    if bytes_eq (codes "is_integer") text then Some view.One
    else if bytes_eq (codes "is_number") text then Some view.One
    else if bytes_eq (codes "is_atom") text then Some view.One
    else if bytes_eq (codes "is_nil") text then Some view.One
    else if bytes_eq (codes "is_list") text then Some view.One
    else if bytes_eq (codes "is_nonempty_list") text then Some view.One
    else if bytes_eq (codes "is_tuple") text then Some view.One
    else if bytes_eq (codes "is_boolean") text then Some view.One
    else if bytes_eq (codes "is_lt") text then Some view.Two
    else if bytes_eq (codes "is_ge") text then Some view.Two
    else if bytes_eq (codes "is_eq") text then Some view.Two
    else if bytes_eq (codes "is_ne") text then Some view.Two
    else if bytes_eq (codes "is_eq_exact") text then Some view.Two
    else if bytes_eq (codes "is_ne_exact") text then Some view.Two
    else if bytes_eq (codes "test_arity") text then Some view.Sized
    else if bytes_eq (codes "is_tagged_tuple") text then Some view.Marked
    else if bytes_eq (codes "is_float") text then Some view.One
    else if bytes_eq (codes "is_pid") text then Some view.One
    else if bytes_eq (codes "is_reference") text then Some view.One
    else if bytes_eq (codes "is_port") text then Some view.One
    else if bytes_eq (codes "is_binary") text then Some view.One
    else if bytes_eq (codes "is_bitstr") text then Some view.One
    else if bytes_eq (codes "is_map") text then Some view.One
    else if bytes_eq (codes "is_function") text then Some view.One
    else if bytes_eq (codes "is_function2") text then Some view.EitherWay
    else None
