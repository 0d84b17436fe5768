-- The instruction of a form of canonical terms has canonical terms.
use Rattle.std.proofs.Common.{◌≡◌, ℕ, pos, Bool, true, false, ◌&&◌, if◌then◌else◌, List, [], ◌∷◌, Option, Some, None, refl, sym, ap, subst, ◌∙◌}
use Rattle.std.specs.Prelude.{IfSome, option_and_then}
use Rattle.std.specs.Option.{option_map}
use Rattle.std.specs.List.{list_all}
use Rattle.std.specs.Str.{bytes_eq}
use Rattle.std.proofs.lemmas.Bool.{and_from}
use denote.Hole.Carrier.{roll}
use Rattle.term_tree.specs.declared.term.Term as t
use Rattle.term_tree.specs.declared.term.Term.{Term, roll-Term, out-Term, roll-out-Term}
use Rattle.term_tree.specs.declared.term.Term.TheOpen.{Term-F}
use Rattle.term_tree.specs.Small.{is_small}
use Rattle.term_tree.specs.Term.{is_canonical}
use Rattle.term_tree.proofs.TermLaws.{both_hold, canonical-Int, canonical-proper, canonical-Tuple}
use Rattle.beam_code.specs.Canonical.{is_canonical_operand, are_canonical_operands, are_canonical_cases, is_canonical_instr}
use Rattle.beam_code.specs.declared.instr.Case.{Case}
use Rattle.beam_code.specs.declared.instr.Instr.{Instr}
use Rattle.beam_code.specs.declared.instr.Operand.{Operand}
use Rattle.beam_code.specs.declared.instr.Operand.TheVariants as o
use Rattle.beam_code.specs.declared.instr.Place.{Place}
use Rattle.beam_code.specs.declared.instr.Place.TheVariants as p
use Rattle.module_forms.specs.declared.part.Got.{Got}
use Rattle.module_forms.specs.declared.part.Look.{Look}
use Rattle.module_forms.specs.declared.part.Look.TheVariants as look
use Rattle.module_forms.specs.declared.rows.View.{View}
use Rattle.module_forms.specs.declared.rows.DataOp.{DataOp}
use Rattle.module_forms.specs.declared.rows.DataOp.TheVariants as data_op
use Rattle.module_forms.specs.declared.rows.FlowOp.{FlowOp}
use Rattle.module_forms.specs.declared.rows.FlowOp.TheVariants as flow_op
use Rattle.module_forms.specs.declared.rows.CallOp.{CallOp}
use Rattle.module_forms.specs.declared.rows.CallOp.TheVariants as call_op
use Rattle.module_forms.specs.declared.rows.EndOp.{EndOp}
use Rattle.module_forms.specs.declared.rows.EndOp.TheVariants as end_op
use Rattle.module_forms.specs.declared.rows.Op.{Op}
use Rattle.module_forms.specs.declared.rows.Op.TheVariants as op
use Rattle.module_forms.specs.Kind as k
use Rattle.module_forms.specs.Kind.{Kind, Val, Vals, Spelled, Full, Bare}
use Rattle.module_forms.specs.Part as part
use Rattle.module_forms.specs.Part.{plain, got, one_more, register, operand_from, operands_from}
use Rattle.module_forms.specs.Rest.{Rest, read, next_of, take, take_all, start}
use Rattle.module_forms.specs.Rows.{Row, Parts, data_row, flow_row, call_row, end_row, row, taken, test_row, bif_row, gc_bif_row, bif_raise_row, op_named, test_named, looks_in}
use Rattle.module_forms.specs.Form as form
use Rattle.module_forms.specs.Form.{Answer, Reads}

-- ---- options whose value has a property

any_value : {A : Type 0} (r : Option A) → IfSome r (λ x. Unit {0})
any_value None = tt
any_value (Some x) = tt

mapped : {A B : Type 0} (f : A → B) (P : A → Type 0) (Q : B → Type 0) (r : Option A) → IfSome r P → ((x : A) → P x → Q (f x)) → IfSome (option_map f r) Q
mapped f P Q None h g = tt
mapped f P Q (Some x) h g = g x h

chained : {A B : Type 0} (f : A → Option B) (P : A → Type 0) (Q : B → Type 0) (r : Option A) → IfSome r P → ((x : A) → P x → IfSome (f x) Q) → IfSome (option_and_then f r) Q
chained f P Q None h g = tt
chained f P Q (Some x) h g = g x h

chosen : {A : Type 0} (b : Bool) (P : A → Type 0) (r s : Option A) → IfSome r P → IfSome s P → IfSome (if b then r else s) P
chosen true P r s h g = h
chosen false P r s h g = g

-- ---- the parts of a canonical term

abbrev AreFine : List Term → Type 0
AreFine ts = list_all is_canonical ts ≡ true

abbrev FineLayer : Term-F Term → Type 0
FineLayer (Term-F.Int n) = is_small n ≡ true
FineLayer (Term-F.Atom a) = Unit {0}
FineLayer (Term-F.List ts None) = AreFine ts
FineLayer (Term-F.List ts (Some end)) = Unit {0}
FineLayer (Term-F.Tuple ts) = AreFine ts

layer : (y : Term-F Term) → is_canonical (roll-Term y) ≡ true → FineLayer y
unfolding roll-Term roll
layer (Term-F.Int n) h = sym (canonical-Int n) ∙ h
layer (Term-F.Atom a) h = tt
layer (Term-F.List ts None) h = sym (canonical-proper ts) ∙ h
layer (Term-F.List ts (Some end)) h = tt
layer (Term-F.Tuple ts) h = sym (canonical-Tuple ts) ∙ h

fine : (t : Term) → is_canonical t ≡ true → FineLayer (out-Term t)
fine t h = layer (out-Term t) (ap is_canonical (roll-out-Term t) ∙ h)

both_parts : (x : Term) (ts : List Term) → AreFine (x ∷ ts) → (is_canonical x ≡ true) × AreFine ts
both_parts x ts h = both_hold (is_canonical x) (list_all is_canonical ts) h

list_in-fine : (y : Term-F Term) → FineLayer y → IfSome (part.list_in y) AreFine
list_in-fine (Term-F.Int n) h = tt
list_in-fine (Term-F.Atom a) h = tt
list_in-fine (Term-F.List ts None) h = h
list_in-fine (Term-F.List ts (Some end)) h = tt
list_in-fine (Term-F.Tuple ts) h = tt

list-fine : (t : Term) → is_canonical t ≡ true → IfSome (part.list_of t) AreFine
list-fine t h = list_in-fine (out-Term t) (fine t h)

-- what stands behind a word
abbrev Behind : List ℕ × Term → Type 0
Behind q = is_canonical q.1 ≡ true

with_word-fine : (r : Option (List ℕ)) (t : Term) → is_canonical t ≡ true → IfSome (part.with_word r t) Behind
with_word-fine None t h = tt
with_word-fine (Some word) t h = h

pair_with-fine : (ts : List Term) → AreFine ts → IfSome (part.pair_with ts) Behind
pair_with-fine [] h = tt
pair_with-fine (x ∷ []) h = tt
pair_with-fine (x ∷ y ∷ []) h = with_word-fine (part.atom_of x) y (both_parts y [] (both_parts x (y ∷ []) h).1).0
pair_with-fine (x ∷ y ∷ z ∷ ts) h = tt

pair_in-fine : (y : Term-F Term) → FineLayer y → IfSome (part.pair_in y) Behind
pair_in-fine (Term-F.Int n) h = tt
pair_in-fine (Term-F.Atom a) h = tt
pair_in-fine (Term-F.List ts end) h = tt
pair_in-fine (Term-F.Tuple ts) h = pair_with-fine ts h

pair-fine : (t : Term) → is_canonical t ≡ true → IfSome (part.pair_of t) Behind
pair-fine t h = pair_in-fine (out-Term t) (fine t h)

behind_in-fine : (word : List ℕ) (r : Option (List ℕ × Term)) → IfSome r Behind → IfSome (part.behind_in word r) (λ t. is_canonical t ≡ true)
behind_in-fine word None h = tt
behind_in-fine word (Some q) h = chosen (bytes_eq q.0 word) (λ t. is_canonical t ≡ true) (Some q.1) None h tt

behind-fine : (word : List ℕ) (t : Term) → is_canonical t ≡ true → IfSome (part.behind word t) (λ t. is_canonical t ≡ true)
behind-fine word t h = behind_in-fine word (part.pair_of t) (pair-fine t h)

items-fine : (t : Term) → is_canonical t ≡ true → IfSome (part.items_of t) AreFine
items-fine t h = chained part.list_of (λ t. is_canonical t ≡ true) AreFine (part.behind _ t) (behind-fine _ t h) list-fine

-- ---- operands

abbrev FineOperand : Got Operand → Type 0
FineOperand g = is_canonical_operand g.value ≡ true

abbrev FineOperands : Got (List Operand) → Type 0
FineOperands g = are_canonical_operands g.value ≡ true

integer_in-fine : (y : Term-F Term) → FineLayer y → IfSome (part.integer_in y) (λ n. is_small n ≡ true)
integer_in-fine (Term-F.Int n) h = h
integer_in-fine (Term-F.Atom a) h = tt
integer_in-fine (Term-F.List ts end) h = tt
integer_in-fine (Term-F.Tuple ts) h = tt

integer-fine : (t : Term) → is_canonical t ≡ true → IfSome (part.integer_operand t) FineOperand
integer-fine t h = mapped (λ i. plain (o.Int i)) (λ n. is_small n ≡ true) FineOperand (part.integer_of t) (integer_in-fine (out-Term t) (fine t h)) (λ n is. is)

number_in-fine : (y : Term-F Term) → FineLayer y → IfSome (part.number_in y) (λ n. is_small (pos n) ≡ true)
number_in-fine (Term-F.Int (pos n)) h = h
number_in-fine (Term-F.Int other) h = tt
number_in-fine (Term-F.Atom a) h = tt
number_in-fine (Term-F.List ts end) h = tt
number_in-fine (Term-F.Tuple ts) h = tt

number-fine : (t : Term) → is_canonical t ≡ true → IfSome (part.number_of t) (λ n. is_small (pos n) ≡ true)
number-fine t h = number_in-fine (out-Term t) (fine t h)

atom-fine : (t : Term) → IfSome (part.atom_operand t) FineOperand
atom-fine t = mapped (λ a. plain (o.Atom a)) (λ a. Unit {0}) FineOperand (part.atom_of t) (any_value (part.atom_of t)) (λ a is. refl)

register-fine : (q : Place) → is_canonical_operand (register q) ≡ true
register-fine (p.X n) = refl
register-fine (p.Y n) = refl

registers-fine : (r : Option (Got Place)) → IfSome (option_map (got register) r) FineOperand
registers-fine r = mapped (got register) (λ g. Unit {0}) FineOperand r (any_value r) (λ g is. register-fine g.value)

tagged-fine : (last : ℕ) (word : List ℕ) (t : Term) → is_canonical t ≡ true → IfSome (part.tagged_operand last word t) FineOperand
tagged-fine last word t h =
    chosen (bytes_eq word _) FineOperand _ _ (registers-fine (part.x_place last t))
    (chosen (bytes_eq word _) FineOperand _ _ (registers-fine (part.y_place last t))
    (chosen (bytes_eq word _) FineOperand _ _ (integer-fine t h)
    (chosen (bytes_eq word _) FineOperand _ _ (atom-fine t)
    (chosen (bytes_eq word _) FineOperand (Some (plain (o.Literal t))) None h tt))))

operand_with-fine : (last : ℕ) (r : Option (List ℕ × Term)) → IfSome r Behind → IfSome (part.operand_with last r) FineOperand
operand_with-fine last None h = tt
operand_with-fine last (Some q) h = tagged-fine last q.0 q.1 h

operand_in-fine : (last : ℕ) (y : Term-F Term) → FineLayer y → IfSome (part.operand_in last y) FineOperand
operand_in-fine last (Term-F.Int n) h = tt
operand_in-fine last (Term-F.Atom a) h = chosen (bytes_eq a _) FineOperand (Some (plain o.Nil)) None refl tt
operand_in-fine last (Term-F.List ts end) h = tt
operand_in-fine last (Term-F.Tuple ts) h = operand_with-fine last (part.pair_with ts) (pair_with-fine ts h)

operand-fine : (last : ℕ) (t : Term) → is_canonical t ≡ true → IfSome (part.operand_of last t) FineOperand
operand-fine last t h = operand_in-fine last (out-Term t) (fine t h)

each-fine : (last : ℕ) (ts : List Term) → AreFine ts → IfSome (part.each_of (part.operand_of last) ts) FineOperands
each-fine last [] h = refl
each-fine last (x ∷ ts) h =
    let is = both_parts x ts h in
    chained (λ g. option_map (one_more g) (part.each_of (part.operand_of last) ts)) FineOperand FineOperands (part.operand_of last x) (operand-fine last x is.0)
    (λ g one. mapped (one_more g) FineOperands FineOperands (part.each_of (part.operand_of last) ts) (each-fine last ts is.1) (λ gs more. and_from _ _ one more))

-- ---- selections, and what tests look at

constant_with-fine : (r : Option (List ℕ × Term)) → IfSome r Behind → IfSome (part.constant_with r) FineOperand
constant_with-fine None h = tt
constant_with-fine (Some q) h =
    chosen (bytes_eq q.0 _) FineOperand _ _ (integer-fine q.1 h) (chosen (bytes_eq q.0 _) FineOperand _ None (atom-fine q.1) tt)

abbrev FineCase : Got Case → Type 0
FineCase g = is_canonical_operand g.value.value ≡ true

abbrev FineCases : Got (List Case) → Type 0
FineCases g = are_canonical_cases g.value ≡ true

case-fine : (v l : Term) → is_canonical v ≡ true → IfSome (part.case_of v l) FineCase
case-fine v l h =
    chained (λ g. option_map (λ n. got (λ x. record { value = x; label = n }) g) (part.label_of l)) FineOperand FineCase (part.constant_of v) (constant_with-fine (part.pair_of v) (pair-fine v h))
    (λ g one. mapped (λ n. got (λ x. record { value = x; label = n }) g) (λ n. Unit {0}) FineCase (part.label_of l) (any_value (part.label_of l)) (λ n is. one))

cases-fine : (ts : List Term) → AreFine ts → IfSome (part.pairs_of part.case_of ts) FineCases
cases-fine [] h = refl
cases-fine (v ∷ []) h = tt
cases-fine (v ∷ l ∷ ts) h =
    let first = both_parts v (l ∷ ts) h in
    chained (λ g. option_map (one_more g) (part.pairs_of part.case_of ts)) FineCase FineCases (part.case_of v l) (case-fine v l first.0)
    (λ g one. mapped (one_more g) FineCases FineCases (part.pairs_of part.case_of ts) (cases-fine ts (both_parts l ts first.1).1) (λ gs more. and_from _ _ one more))

abbrev FineSpelled : Got Spelled → Type 0
FineSpelled g = is_canonical_operand (operand_from g.value) ≡ true

abbrev FineSpelleds : Got (List Spelled) → Type 0
FineSpelleds g = are_canonical_operands (operands_from g.value) ≡ true

full-fine : (r : Option (Got Operand)) → IfSome r FineOperand → IfSome (option_map (got Full) r) FineSpelled
full-fine r h = mapped (got Full) FineOperand FineSpelled r h (λ g is. is)

either-fine : (r : Option ℕ) (s : Option (Got Operand)) → IfSome r (λ n. is_small (pos n) ≡ true) → IfSome s FineOperand → IfSome (part.number_or r s) FineSpelled
either-fine (Some n) s h g = h
either-fine None s h g = full-fine s g

look-fine : (last : ℕ) (l : Look) (t : Term) → is_canonical t ≡ true → IfSome (part.look_of last l t) FineSpelled
look-fine last look.Source t h = full-fine (part.operand_of last t) (operand-fine last t h)
look-fine last look.Number t h = mapped part.bare (λ n. is_small (pos n) ≡ true) FineSpelled (part.number_of t) (number-fine t h) (λ n is. is)
look-fine last look.Atom t h = mapped (λ a. plain (Full (o.Atom a))) (λ a. Unit {0}) FineSpelled (part.named_of t) (any_value (part.named_of t)) (λ a is. refl)
look-fine last look.Either t h = either-fine (part.number_of t) (part.operand_of last t) (number-fine t h) (operand-fine last t h)

looks-fine : (last : ℕ) (ls : List Look) (ts : List Term) → AreFine ts → IfSome (part.looks_with last ls ts) FineSpelleds
looks-fine last [] [] h = refl
looks-fine last [] (x ∷ ts) h = tt
looks-fine last (l ∷ ls) [] h = tt
looks-fine last (l ∷ ls) (x ∷ ts) h =
    let is = both_parts x ts h in
    chained (λ g. option_map (one_more g) (part.looks_with last ls ts)) FineSpelled FineSpelleds (part.look_of last l x) (look-fine last l x is.0)
    (λ g one. mapped (one_more g) FineSpelleds FineSpelleds (part.looks_with last ls ts) (looks-fine last ls ts is.1) (λ gs more. and_from _ _ one more))

abbrev FineTwo : Got (Operand × Operand) → Type 0
FineTwo g = (is_canonical_operand g.value.0 ≡ true) × (is_canonical_operand g.value.1 ≡ true)

two-fine : (last : ℕ) (ts : List Term) → AreFine ts → IfSome (part.two_with last ts) FineTwo
two-fine last [] h = tt
two-fine last (x ∷ []) h = tt
two-fine last (x ∷ y ∷ []) h =
    let is = both_parts x (y ∷ []) h in
    chained (λ g. option_map (λ h. record { value = (g.value, h.value); wide = _ }) (part.operand_of last y)) FineOperand FineTwo (part.operand_of last x) (operand-fine last x is.0)
    (λ g one. mapped (λ h. record { value = (g.value, h.value); wide = _ }) FineOperand FineTwo (part.operand_of last y) (operand-fine last y (both_parts y [] is.1).0) (λ h other. (one, other)))
two-fine last (x ∷ y ∷ z ∷ ts) h = tt

arguments-fine : (last : ℕ) (name : List ℕ) (ts : List Term) → AreFine ts → IfSome (part.arguments_with last name ts) FineOperands
arguments-fine last name ts h = chosen (part.takes name _) FineOperands (part.each_of (part.operand_of last) ts) None (each-fine last ts h) tt

-- ---- parts by their kinds

abbrev FineVal : (kind : Kind) → Val kind → Type 0
FineVal k.Any v = is_canonical v ≡ true
FineVal k.Source v = is_canonical_operand v ≡ true
FineVal k.TwoSources v = (is_canonical_operand v.0 ≡ true) × (is_canonical_operand v.1 ≡ true)
FineVal k.Elements v = are_canonical_operands v ≡ true
FineVal k.Cases v = are_canonical_cases v ≡ true
FineVal (k.Looks ls) v = are_canonical_operands (operands_from v) ≡ true
FineVal (k.Arguments name) v = are_canonical_operands v ≡ true
FineVal other v = Unit {0}

abbrev FineVals : (ks : List Kind) → Vals ks → Type 0
FineVals [] vs = Unit {0}
FineVals (kind ∷ ks) vs = FineVal kind vs.0 × FineVals ks vs.1

read-fine : (last : ℕ) (kind : Kind) (t : Term) → is_canonical t ≡ true → IfSome (read last kind t) (λ g. FineVal kind g.value)
read-fine last k.Number t h = any_value (read last k.Number t)
read-fine last k.Stack t h = any_value (read last k.Stack t)
read-fine last k.Arity t h = any_value (read last k.Arity t)
read-fine last k.Any t h = h
read-fine last k.Named t h = any_value (read last k.Named t)
read-fine last k.Source t h = operand-fine last t h
read-fine last k.Dest t h = any_value (read last k.Dest t)
read-fine last k.Slot t h = any_value (read last k.Slot t)
read-fine last k.Jump t h = any_value (read last k.Jump t)
read-fine last k.Entry t h = any_value (read last k.Entry t)
read-fine last k.Fail t h = any_value (read last k.Fail t)
read-fine last k.NoFail t h = any_value (read last k.NoFail t)
read-fine last k.TwoSources t h = chained (part.two_with last) AreFine FineTwo (part.list_of t) (list-fine t h) (two-fine last)
read-fine last k.Elements t h = chained (part.each_of (part.operand_of last)) AreFine FineOperands (part.items_of t) (items-fine t h) (each-fine last)
read-fine last k.Cases t h = chained (part.pairs_of part.case_of) AreFine FineCases (part.items_of t) (items-fine t h) cases-fine
read-fine last k.ArityCases t h = any_value (read last k.ArityCases t)
read-fine last k.Function t h = any_value (read last k.Function t)
read-fine last (k.Looks ls) t h = chained (part.looks_with last ls) AreFine FineSpelleds (part.list_of t) (list-fine t h) (looks-fine last ls)
read-fine last (k.Arguments name) t h = chained (part.arguments_with last name) AreFine FineOperands (part.list_of t) (list-fine t h) (arguments-fine last name)

next-fine : (kind : Kind) (wide : Bool) (last : ℕ) (ts : List Term) → AreFine ts → IfSome (next_of (read last kind) wide last ts) (λ v. FineVal kind v.0 × AreFine v.1.parts)
next-fine kind wide last [] h = tt
next-fine kind wide last (x ∷ ts) h =
    let is = both_parts x ts h in
    mapped (λ g. (g.value, record { parts = ts; wide = _; last = last })) (λ g. FineVal kind g.value) (λ v. FineVal kind v.0 × AreFine v.1.parts) (read last kind x) (read-fine last kind x is.0) (λ g one. (one, is.1))

take_all-fine : (ks : List Kind) (r : Rest) → AreFine r.parts → IfSome (take_all ks r) (λ vs. FineVals ks vs.0)
take_all-fine [] r h = tt
take_all-fine (kind ∷ ks) r h =
    chained (λ v. option_map (λ vs. ((v.0, vs.0), vs.1)) (take_all ks v.1)) (λ v. FineVal kind v.0 × AreFine v.1.parts) (λ vs. FineVals (kind ∷ ks) vs.0) (take kind r) (next-fine kind r.wide r.last r.parts h)
    (λ v one. mapped (λ vs. ((v.0, vs.0), vs.1)) (λ vs. FineVals ks vs.0) (λ vs. FineVals (kind ∷ ks) vs.0) (take_all ks v.1) (take_all-fine ks v.1 one.1) (λ vs more. (one.0, more)))

-- ---- rows

abbrev FineRow : Row → Type 0
FineRow (Parts ks make) = (vs : Vals ks) → FineVals ks vs → is_canonical_instr (make vs) ≡ true

data_row-fine : (d : DataOp) → FineRow (data_row d)
data_row-fine data_op.Label = λ vs h. refl
data_row-fine data_op.Line = λ vs h. h.0
data_row-fine data_op.Comment = λ vs h. h.0
data_row-fine data_op.FuncInfo = λ vs h. refl
data_row-fine data_op.Move = λ vs h. h.0
data_row-fine data_op.Swap = λ vs h. refl
data_row-fine data_op.GetList = λ vs h. h.0
data_row-fine data_op.GetHd = λ vs h. h.0
data_row-fine data_op.GetTl = λ vs h. h.0
data_row-fine data_op.GetTupleElement = λ vs h. h.0
data_row-fine data_op.PutList = λ vs h. and_from _ _ h.0 h.1.0
data_row-fine data_op.PutTuple2 = λ vs h. h.1.0

flow_row-fine : (f : FlowOp) → FineRow (flow_row f)
flow_row-fine flow_op.SelectVal = λ vs h. and_from _ _ h.0 h.1.1.0
flow_row-fine flow_op.SelectTupleArity = λ vs h. h.0
flow_row-fine flow_op.Jump = λ vs h. refl
flow_row-fine flow_op.Allocate = λ vs h. refl
flow_row-fine flow_op.AllocateZero = λ vs h. refl
flow_row-fine flow_op.AllocateHeap = λ vs h. refl
flow_row-fine flow_op.AllocateHeapZero = λ vs h. refl
flow_row-fine flow_op.TestHeap = λ vs h. refl
flow_row-fine flow_op.Init = λ vs h. refl
flow_row-fine flow_op.Kill = λ vs h. refl
flow_row-fine flow_op.Trim = λ vs h. refl
flow_row-fine flow_op.Deallocate = λ vs h. refl

call_row-fine : (c : CallOp) → FineRow (call_row c)
call_row-fine call_op.Call = λ vs h. refl
call_row-fine call_op.CallExt = λ vs h. refl
call_row-fine call_op.CallLast = λ vs h. refl
call_row-fine call_op.CallExtLast = λ vs h. refl
call_row-fine call_op.CallOnly = λ vs h. refl
call_row-fine call_op.CallExtOnly = λ vs h. refl

end_row-fine : (e : EndOp) → FineRow (end_row e)
end_row-fine end_op.Badmatch = λ vs h. h.0
end_row-fine end_op.CaseEnd = λ vs h. h.0
end_row-fine end_op.TryCaseEnd = λ vs h. h.0
end_row-fine end_op.Try = λ vs h. refl
end_row-fine end_op.Catch = λ vs h. refl
end_row-fine end_op.TryEnd = λ vs h. refl
end_row-fine end_op.TryCase = λ vs h. refl
end_row-fine end_op.CatchEnd = λ vs h. refl
end_row-fine end_op.Raise = λ vs h. and_from _ _ h.1.0.0 h.1.0.1

row-fine : (d : Op) → FineRow (row d)
row-fine (op.Data d) = data_row-fine d
row-fine (op.Flow f) = flow_row-fine f
row-fine (op.Call c) = call_row-fine c
row-fine (op.End e) = end_row-fine e

-- ---- answers

abbrev FineAnswer : Answer → Type 0
FineAnswer (Reads instr) = is_canonical_instr instr ≡ true
FineAnswer other = Unit {0}

abbrev FineNamed : Option Row → Type 0
FineNamed r = IfSome r FineRow

in_limits-fine : (wide : Bool) (instr : Instr) → is_canonical_instr instr ≡ true → FineAnswer (form.in_limits wide instr)
in_limits-fine true instr h = tt
in_limits-fine false instr h = h

complete-fine : (instr : Instr) (wide : Bool) (ts : List Term) → is_canonical_instr instr ≡ true → FineAnswer (form.complete instr wide ts)
complete-fine instr wide [] h = in_limits-fine wide instr h
complete-fine instr wide (x ∷ ts) h = tt

finished-fine : (r : Option (Instr × Rest)) → IfSome r (λ v. is_canonical_instr v.0 ≡ true) → FineAnswer (form.finished r)
finished-fine None h = tt
finished-fine (Some v) h = complete-fine v.0 v.1.wide v.1.parts h

answer-fine : (last : ℕ) (r : Row) (ts : List Term) → FineRow r → AreFine ts → FineAnswer (form.answer last r ts)
answer-fine last (Parts ks make) ts f h =
    finished-fine (taken (Parts ks make) (start last ts))
    (mapped (λ ws. (make ws.0, ws.1)) (λ vs. FineVals ks vs.0) (λ v. is_canonical_instr v.0 ≡ true) (take_all ks (start last ts)) (take_all-fine ks (start last ts) h) (λ vs is. f vs.0 is))

answered-fine : (last : ℕ) (name : List ℕ) (r : Option Row) (ts : List Term) → FineNamed r → AreFine ts → FineAnswer (form.answered last name r ts)
answered-fine last name None ts f h = tt
answered-fine last name (Some r) ts f h = answer-fine last r ts f h

viewed-fine : (name : List ℕ) (r : Option View) → FineNamed (form.viewed name r)
viewed-fine name None = tt
viewed-fine name (Some view) = λ vs h. h.1.0

bif-fine : (name : List ℕ) → FineNamed (form.bif_named_row name)
bif-fine name =
    chosen (bytes_eq name _) FineRow (Some bif_raise_row) _ (λ vs h. and_from _ _ h.1.0.0 h.1.0.1)
    (chosen (part.is_built_in_name name) FineRow (Some (bif_row name)) None (λ vs h. h.1.0) tt)

gc_bif-fine : (name : List ℕ) → FineNamed (form.gc_bif_named_row name)
gc_bif-fine name = chosen (part.is_built_in_name name) FineRow (Some (gc_bif_row name)) None (λ vs h. h.1.1.0) tt

abbrev Headed : List ℕ × List Term → Type 0
Headed q = AreFine q.1

headed_with-fine : (r : Option (List ℕ)) (ts : List Term) → AreFine ts → IfSome (form.headed_with r ts) Headed
headed_with-fine None ts h = tt
headed_with-fine (Some word) ts h = h

headed-fine : (ts : List Term) → AreFine ts → IfSome (form.headed_by ts) Headed
headed-fine [] h = tt
headed-fine (x ∷ ts) h = headed_with-fine (part.atom_of x) ts (both_parts x ts h).1

by_name-fine : (last : ℕ) (rows : List ℕ → Option Row) (r : Option (List ℕ × List Term)) → ((name : List ℕ) → FineNamed (rows name)) → IfSome r Headed → FineAnswer (form.by_name last rows r)
by_name-fine last rows None f h = tt
by_name-fine last rows (Some q) f h = answered-fine last q.0 (rows q.0) q.1 (f q.0) h

rows_behind-fine : (w : List ℕ) → IfSome (form.rows_behind w) (λ rows. (name : List ℕ) → FineNamed (rows name))
rows_behind-fine w =
    let P : (List ℕ → Option Row) → Type 0 = λ (rows : List ℕ → Option Row). (name : List ℕ) → FineNamed (rows name) in
    chosen (bytes_eq w _) P (Some form.test_named_row) _ (λ name. viewed-fine name (test_named name))
    (chosen (bytes_eq w _) P (Some form.bif_named_row) _ bif-fine (chosen (bytes_eq w _) P (Some form.gc_bif_named_row) None gc_bif-fine tt))

unless_known-fine : (known : Bool) (w : List ℕ) → FineAnswer (if known then form.Shape else form.Unknown w)
unless_known-fine true w = tt
unless_known-fine false w = tt

row_of-fine : (last : ℕ) (w : List ℕ) (r : Option Op) (ts : List Term) → AreFine ts → FineAnswer (form.row_of last w r ts)
row_of-fine last w (Some d) ts h = answer-fine last (row d) ts (row-fine d) h
row_of-fine last w None ts h = unless_known-fine (form.is_known w) w

tagged_with-fine : (last : ℕ) (w : List ℕ) (r : Option (List ℕ → Option Row)) (ts : List Term) → IfSome r (λ rows. (name : List ℕ) → FineNamed (rows name)) → AreFine ts → FineAnswer (form.tagged_with last w r ts)
tagged_with-fine last w (Some rows) ts f h = by_name-fine last rows (form.headed_by ts) f (headed-fine ts h)
tagged_with-fine last w None ts f h = row_of-fine last w (op_named w) ts h

bare_instr-fine : (w : List ℕ) → IfSome (form.bare_instr w) (λ instr. is_canonical_instr instr ≡ true)
bare_instr-fine w =
    let P : Instr → Type 0 = λ (instr : Instr). is_canonical_instr instr ≡ true in
    chosen (bytes_eq w _) P _ _ refl (chosen (bytes_eq w _) P _ _ refl (chosen (bytes_eq w _) P _ None refl tt))

bare_with-fine : (w : List ℕ) (r : Option Instr) → IfSome r (λ instr. is_canonical_instr instr ≡ true) → FineAnswer (form.bare_with w r)
bare_with-fine w (Some instr) h = h
bare_with-fine w None h = unless_known-fine (form.is_known w) w

by_word-fine : (last : ℕ) (r : Option (List ℕ × List Term)) → IfSome r Headed → FineAnswer (form.by_word last r)
by_word-fine last None h = tt
by_word-fine last (Some q) h = tagged_with-fine last q.0 (form.rows_behind q.0) q.1 (rows_behind-fine q.0) h

form_in-fine : (last : ℕ) (y : Term-F Term) → FineLayer y → FineAnswer (form.form_in last y)
form_in-fine last (Term-F.Int n) h = tt
form_in-fine last (Term-F.Atom a) h = bare_with-fine a (form.bare_instr a) (bare_instr-fine a)
form_in-fine last (Term-F.List ts end) h = tt
form_in-fine last (Term-F.Tuple ts) h = by_word-fine last (form.headed_by ts) (headed-fine ts h)

-- what is read of canonical terms is canonical
pub form-canonical : (last : ℕ) (t : Term) (instr : Instr) → is_canonical t ≡ true → form.form_of last t ≡ Reads instr → is_canonical_instr instr ≡ true
form-canonical last t instr h e =
    let P : Answer → Type 0 = λ (a : Answer). FineAnswer a in
    subst P e (form_in-fine last (out-Term t) (fine t h))
