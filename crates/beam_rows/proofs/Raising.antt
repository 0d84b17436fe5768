-- A row that raises may raise, shape by shape.
use Rattle.std.proofs.Common.{◌≡◌, ℕ, zero, suc, ◌+◌, ◌-◌, ◌≤◌, Bool, true, false, ◌&&◌, Option, Some, None, List, [], ◌∷◌, length, slice_get, nat_eq, nat_lt, if◌then◌else◌, refl, ap, subst, ◌∙◌, arith, eqb-true}
use Rattle.std.specs.Prelude.{codes}
use Rattle.small_step.specs.Stage.{Stage, Still, Done}
use Rattle.beam_code.specs.declared.call.Limits.{Limits}
use Rattle.beam_code.specs.declared.call.RaiseClass.{RaiseClass}
use Rattle.beam_code.specs.declared.gates.TheConstants.{GATE_UNDEF}
use Rattle.beam_code.specs.declared.instr.Callee.{Callee}
use Rattle.beam_code.specs.declared.instr.Operand.{Operand}
use Rattle.beam_code.specs.declared.instr.Operand.TheVariants.{X}
use Rattle.beam_code.specs.declared.instr.Place.{Place}
use Rattle.beam_code.specs.declared.instr.Place.TheVariants as place
use Rattle.beam_code.specs.declared.module.Function.{Function}
use Rattle.beam_code.specs.declared.module.Module.{Module}
use Rattle.beam_code.specs.BuiltIns.{Answer, Gives, Fails, BuiltIn, Failure, NoFailure, Badarith, Badarg, First, built_ins, builtin, is_built_in, is_inline, built_in_number, inline_number}
use Rattle.beam_code.specs.BuiltIns as answer
use Rattle.beam_code.specs.Function.{Placed, first_that, label_in, exported_number, is_given, target_of}
use Rattle.beam_code.specs.Gates.{has_some, raise_gates, failure_gates, gates_of_row, gates_of_built_in, gates_of_function, gates_of_callee, gates_of_inline}
use Rattle.beam_code.specs.Row as r
use Rattle.beam_code.specs.Shape as s
use Rattle.beam_code.specs.State.{Slot, Undefined, Holds, Tag, TagKind, OfTry, OfCatch, Local, Event, Calls, TailCalls, Returns, Raises, Ends, NotProvided}
use Rattle.beam_rows.specs.Raising.{RowsRaiseThroughGates}
use Rattle.beam_rows.specs.Terms.{IsFailure}
use Rattle.beam_rows.proofs.BuiltInLaws.{built_ins_fail_by_their_rows}
use Rattle.term_tree.specs.Tree as t

-- an event that is no raise, unless raises are allowed
abbrev IsMild : Bool → Event → Type 0
IsMild may (Raises class reason m) = may ≡ true
IsMild may (Calls callee vs m) = Unit {0}
IsMild may (TailCalls callee vs m) = Unit {0}
IsMild may (Returns v m) = Unit {0}
IsMild may (Ends e m) = Unit {0}

abbrev Mild : Bool → Stage Local Event → Type 0
Mild may (Still l) = Unit {0}
Mild may (Done e) = IsMild may e

module _ (may : Bool) where
  chosen : (b : Bool) (x y : Stage Local Event) → Mild may x → Mild may y → Mild may (if b then x else y)
  chosen true x y h g = h
  chosen false x y h g = g

  given-mild : {A : Type 0} (l : Local) (o : Option A) (more : A → Stage Local Event) → ((v : A) → o ≡ Some v → Mild may (more v)) → Mild may (r.given l o more)
  given-mild l (Some v) more h = h v refl
  given-mild l None more h = tt

  y_set-mild : (l : Local) (ys : Option (List Slot)) (n : ℕ) (slot : Slot) (more : Local → Stage Local Event) → ((m : Local) → Mild may (more m)) → Mild may (r.y_set l ys n slot more)
  y_set-mild l None n slot more h = tt
  y_set-mild l (Some ys) n slot more h = chosen (nat_lt n (length ys)) _ (r.stuck l) (h _) tt

  put-mild : (l : Local) (to : Place) (v : t.Tree) (more : Local → Stage Local Event) → ((m : Local) → Mild may (more m)) → Mild may (r.put l to v more)
  put-mild l (place.X n) v more h = chosen (nat_lt n (length l.xs)) _ (r.stuck l) (h _) tt
  put-mild l (place.Y n) v more h = y_set-mild l l.ys n (Holds v) more h

  at_item-mild : (l : Local) (o : Option ℕ) → Mild may (r.at_item l o)
  at_item-mild l None = tt
  at_item-mild l (Some item) = tt

  jumped-mild : (f : Function) (l : Local) (label : ℕ) → Mild may (r.jumped f l label)
  jumped-mild f l label = at_item-mild l (label_in f label)

  asked-mild : (limits : Limits) (l : Local) (need : ℕ) (more : Local → Stage Local Event) → ((m : Local) → Mild may (more m)) → Mild may (r.asked limits l need more)
  asked-mild limits l need more h = chosen (nat_lt limits.heap (l.used + need)) _ (more l) tt (h l)

  freed-mild : (l : Local) (n : ℕ) (ys : Option (List Slot)) (more : Local → Stage Local Event) → ((m : Local) → Mild may (more m)) → Mild may (r.freed l n ys more)
  freed-mild l n None more h = tt
  freed-mild l n (Some ys) more h = chosen (nat_eq (length ys) n) _ (r.stuck l) (h _) tt

  without-mild : (l : Local) (ys : Option (List Slot)) (more : Local → Stage Local Event) → ((m : Local) → Mild may (more m)) → Mild may (r.without_stack l ys more)
  without-mild l None more h = h l
  without-mild l (Some ys) more h = tt

  piece-mild : (l : Local) (to : Place) (o : Option t.Tree) (more : Local → Stage Local Event) → ((m : Local) → Mild may (more m)) → Mild may (r.put_piece l to o more)
  piece-mild l to None more h = tt
  piece-mild l to (Some v) more h = put-mild l to v more h

  moved-mild : (l : Local) (ps : List (s.Piece × Place)) (v : t.Tree) → Mild may (r.moved l ps v)
  moved-mild l [] v = tt
  moved-mild l (p ∷ ps) v = piece-mild l p.1 (r.piece_of p.0 v) _ (λ m. moved-mild m ps v)

  swapped-mild : (l : Local) (a b : Place) (v w : Option t.Tree) → Mild may (r.swapped l a b v w)
  swapped-mild l a b (Some v) (Some w) = put-mild l a w _ (λ m. put-mild m b v _ (λ k. tt))
  swapped-mild l a b _ _ = tt

  consed-mild : (l : Local) (to : Place) (v w : Option t.Tree) → Mild may (r.consed l to v w)
  consed-mild l to (Some v) (Some w) = put-mild (r.using 2 l) to (t.Cons v w) _ (λ m. tt)
  consed-mild l to _ _ = tt

  tested-mild : (f : Function) (l : Local) (label : ℕ) (b : Bool) → Mild may (r.tested f l label b)
  tested-mild f l label true = tt
  tested-mild f l label false = jumped-mild f l label

  test-mild : (f : Function) (l : Local) (label : ℕ) (number : Option ℕ) (vs : Option (List t.Tree)) → Mild may (r.test_row f l label number vs)
  test-mild f l label (Some number) (Some vs) = tested-mild f l label _
  test-mild f l label _ _ = tt

  selected-mild : (f : Function) (l : Local) (branches : s.Branches) (label : ℕ) (v : t.Tree) → Mild may (r.selected f l branches label v)
  selected-mild f l (s.ByValue cs) label v = jumped-mild f l _
  selected-mild f l (s.BySize cs) label (t.Tuple ts) = jumped-mild f l _
  selected-mild f l (s.BySize cs) label _ = tt

  allocated-mild : (l : Local) (n : ℕ) (ys : Option (List Slot)) → Mild may (r.allocated l n ys)
  allocated-mild l n None = tt
  allocated-mild l n (Some ys) = tt

  trimmed-mild : (l : Local) (n rest : ℕ) (ys : Option (List Slot)) → Mild may (r.trimmed l n rest ys)
  trimmed-mild l n rest None = tt
  trimmed-mild l n rest (Some ys) = chosen (nat_eq (length ys) (n + rest)) _ (r.stuck l) tt tt

  stack-mild : (limits : Limits) (l : Local) (op : s.StackOp) → Mild may (r.stack_row limits l op)
  stack-mild limits l (s.Allocates n None live) = allocated-mild (r.cut (Some live) l) n l.ys
  stack-mild limits l (s.Allocates n (Some need) live) = asked-mild limits l need _ (λ m. allocated-mild (r.cut (Some live) m) n m.ys)
  stack-mild limits l (s.Asks need live) = asked-mild limits l need (λ m. r.goes_on (r.cut (Some live) m)) (λ m. tt)
  stack-mild limits l (s.Trims n rest) = trimmed-mild l n rest l.ys
  stack-mild limits l (s.Frees n) = freed-mild l n l.ys _ (λ m. tt)
  stack-mild limits l (s.Clears n) = y_set-mild l l.ys n Undefined _ (λ m. tt)

  untagged-mild : (l : Local) (ys : Option (List Slot)) (kind : TagKind) (n : ℕ) → Mild may (r.untagged l ys kind n)
  untagged-mild l None kind n = tt
  untagged-mild l (Some ys) kind n = chosen (r.is_kind kind (slice_get ys n)) _ (r.stuck l) (y_set-mild l (Some ys) n Undefined r.goes_on (λ m. tt)) tt

  tag-mild : (l : Local) (op : s.TagOp) → Mild may (r.tag_row l op)
  tag-mild l (s.Tries n label) = y_set-mild l l.ys n (Tag OfTry label) _ (λ m. tt)
  tag-mild l (s.Catches n label) = y_set-mild l l.ys n (Tag OfCatch label) _ (λ m. tt)
  tag-mild l (s.TryEnds n) = untagged-mild l l.ys OfTry n
  tag-mild l (s.TryHandles n) = untagged-mild l l.ys OfTry n
  tag-mild l (s.CatchEnds n) = given-mild l _ _ (λ v e. untagged-mild l l.ys OfCatch n)

  answered-mild : (limits : Limits) (l : Local) (a : Answer) (more : t.Tree → Local → Stage Local Event) (fails : RaiseClass → t.Tree → Stage Local Event) → ((v : t.Tree) (m : Local) → Mild may (more v m)) → ((class : RaiseClass) (reason : t.Tree) → a ≡ Fails class reason → Mild may (fails class reason)) → Mild may (r.answered limits l a more fails)
  answered-mild limits l (Gives v words) more fails h g = asked-mild limits l words _ (λ m. h v (r.using words m))
  answered-mild limits l (Fails class reason) more fails h g = g class reason refl
  answered-mild limits l answer.Bignum more fails h g = tt

  value-mild : (leaving : s.Leaving) (v : t.Tree) (l : Local) → Mild may (r.value_left leaving v l)
  value-mild s.Stays v l = tt
  value-mild (s.Drops n) v l = freed-mild l n l.ys _ (λ m. tt)
  value-mild s.HasNone v l = without-mild l l.ys _ (λ m. tt)

  callee-mild : (leaving : s.Leaving) (l : Local) (vs : List t.Tree) (callee : ℕ) → Mild may (r.callee_left leaving l vs callee)
  callee-mild s.Stays l vs callee = tt
  callee-mild (s.Drops n) l vs callee = freed-mild l n l.ys _ (λ m. tt)
  callee-mild s.HasNone l vs callee = without-mild l l.ys _ (λ m. tt)

-- what was found first passes the test

abbrev FoundAt : {A : Type 0} → (A → Bool) → ℕ → List A → ℕ → Type 0
FoundAt {A} test at xs n = (x : A) × (at ≤ n) × (slice_get xs (n - at) ≡ Some x) × (test x ≡ true)

later : {A : Type 0} (test : A → Bool) (at : ℕ) (x : A) (xs : List A) (n : ℕ) → FoundAt test (at + 1) xs n → FoundAt test at (x ∷ xs) n
later test at x xs n f =
    let low = f.1 in
    let step : n - at ≡ suc (n - (at + 1)) = omega (arith, low) in
    (f.0, omega (arith, low), ap (slice_get (x ∷ xs)) step ∙ f.2, f.3)

found_by : {A : Type 0} (test : A → Bool) (at : ℕ) (x : A) (xs : List A) (n : ℕ) (b : Bool) → test x ≡ b → (if b then Some at else first_that test (at + 1) xs) ≡ Some n → (first_that test (at + 1) xs ≡ Some n → FoundAt test (at + 1) xs n) → FoundAt test at (x ∷ xs) n
found_by test at x xs n true is e more =
    let same : at ≡ n = cc in
    let none : n - at ≡ 0 = omega (arith, same) in
    (x, omega (arith, same), ap (slice_get (x ∷ xs)) none, is)
found_by test at x xs n false is e more = later test at x xs n (more e)

found_at : {A : Type 0} (test : A → Bool) (at : ℕ) (xs : List A) (n : ℕ) → first_that test at xs ≡ Some n → FoundAt test at xs n
found_at test at [] n e = absurd cc
found_at test at (x ∷ xs) n e = found_by test at x xs n (test x) refl e (found_at test (at + 1) xs n)

-- a built-in that was found has its row, and takes as many arguments
abbrev HasRow : ℕ → ℕ → Type 0
HasRow k arity = (b : BuiltIn) × (slice_get built_ins k ≡ Some b) × (arity ≡ b.arity)

and_right : (a b : Bool) → (a && b) ≡ true → b ≡ true
and_right true b e = e
and_right false b e = absurd cc

called_row : (c : Callee) (k : ℕ) → built_in_number c.owner c.name c.arity ≡ Some k → HasRow k c.arity
called_row c k e =
    let f = found_at (is_built_in c.owner c.name c.arity) 0 built_ins k e in
    let none : k ≡ k - 0 = omega arith in
    (f.0, ap (slice_get built_ins) none ∙ f.2, eqb-true _ _ (and_right _ _ f.3))

inline_row : (name : List ℕ) (arity k : ℕ) → inline_number name arity ≡ Some k → HasRow k arity
inline_row name arity k e =
    let f = found_at (is_inline name arity) 0 built_ins k e in
    let none : k ≡ k - 0 = omega arith in
    (f.0, ap (slice_get built_ins) none ∙ f.2, eqb-true _ _ (and_right _ _ f.3))

-- a built-in that fails has a failure, and so a gate
has_gate : (k : ℕ) (failure : Failure) (vs : List t.Tree) (class : RaiseClass) (reason : t.Tree) → IsFailure failure vs class reason → has_some (failure_gates k failure) ≡ true
has_gate k NoFailure vs class reason h = absurd h
has_gate k Badarith vs class reason h = refl
has_gate k Badarg vs class reason h = refl
has_gate k (First c) vs class reason h = refl

fails_through : (k arity : ℕ) (vs : List t.Tree) (class : RaiseClass) (reason : t.Tree) → HasRow k arity → length vs ≡ arity → builtin k vs ≡ Fails class reason → has_some (gates_of_built_in k) ≡ true
fails_through k arity vs class reason row n e =
    ap (λ o. has_some (gates_of_row k o)) row.1
    ∙ has_gate k row.0.failure vs class reason (built_ins_fail_by_their_rows k row.0 vs class reason row.1 (n ∙ row.2) e)

-- how many terms were read

with_head-length : (o : Option t.Tree) (os : Option (List t.Tree)) (n : ℕ) (vs : List t.Tree) → r.with_head o os ≡ Some vs → ((us : List t.Tree) → os ≡ Some us → length us ≡ n) → length vs ≡ suc n
with_head-length (Some v) (Some us) n vs e h = let same : v ∷ us ≡ vs = cc in subst (λ ws. length ws ≡ suc n) same (omega (arith, h us refl))
with_head-length (Some v) None n vs e h = absurd cc
with_head-length None os n vs e h = absurd cc

argument_count : (n : ℕ) (xs : List (Option t.Tree)) (vs : List t.Tree) → r.arguments n xs ≡ Some vs → length vs ≡ n
argument_count zero xs vs e = let same : [] ≡ vs = cc in subst (λ ws. length ws ≡ 0) same refl
argument_count (suc n) [] vs e = absurd cc
argument_count (suc n) (x ∷ xs) vs e = with_head-length x (r.arguments n xs) n vs e (λ us g. argument_count n xs us g)

operand_count : (l : Local) (os : List Operand) (vs : List t.Tree) → r.reads_of l os ≡ Some vs → length vs ≡ length os
operand_count l [] vs e = let same : [] ≡ vs = cc in subst (λ ws. length ws ≡ 0) same refl
operand_count l (o ∷ os) vs e = with_head-length (r.read_of l o) (r.reads_of l os) (length os) vs e (λ us g. operand_count l os us g)

-- built-ins and calls

failing : (f : Function) (l : Local) (k : ℕ) (label : ℕ) (b : Bool) (class : RaiseClass) (reason : t.Tree) → has_some (gates_of_built_in k) ≡ true → Mild (has_some (if b then gates_of_built_in k else [])) (if b then r.raised l class reason else r.jumped f l label)
failing f l k label true class reason h = h
failing f l k label false class reason h = jumped-mild false f l label

computed-mild : (limits : Limits) (f : Function) (l : Local) (name : List ℕ) (os : List Operand) (fail : ℕ) (live : Option ℕ) (to : Place) (k : Option ℕ) (vs : Option (List t.Tree)) → inline_number name (length os) ≡ k → r.reads_of l os ≡ vs → Mild (has_some (gates_of_inline fail k)) (r.computed limits f l fail live to k vs)
computed-mild limits f l name os fail live to (Some k) (Some vs) is reads =
    answered-mild _ limits l (builtin k vs) _ _ (λ v m. put-mild _ (r.cut live m) to v _ (λ n. tt))
    (λ class reason e. failing f l k fail (nat_eq fail 0) class reason (fails_through k (length os) vs class reason (inline_row name (length os) k is) (operand_count l os vs reads) e))
computed-mild limits f l name os fail live to (Some k) None is reads = tt
computed-mild limits f l name os fail live to None vs is reads = tt

undefined-mild : (ms : List Module) (l : Local) (c : Callee) (b : Bool) → Mild (has_some (if b then GATE_UNDEF ∷ [] else [])) (if b then r.error l (codes "undef") else Done (Ends (NotProvided c.owner c.name c.arity) l))
undefined-mild ms l c true = refl
undefined-mild ms l c false = tt

function-mild : (ms : List Module) (leaving : s.Leaving) (l : Local) (vs : List t.Tree) (c : Callee) (callee : Option ℕ) → Mild (has_some (gates_of_function ms c callee)) (r.called_outside ms leaving l vs c callee)
function-mild ms leaving l vs c (Some callee) = callee-mild _ leaving l vs callee
function-mild ms leaving l vs c None = undefined-mild ms l c (is_given ms c.owner)

resolved-mild : (ms : List Module) (limits : Limits) (leaving : s.Leaving) (l : Local) (vs : List t.Tree) (c : Callee) (k : Option ℕ) → built_in_number c.owner c.name c.arity ≡ k → length vs ≡ c.arity → Mild (has_some (gates_of_callee ms c k)) (r.resolved ms limits leaving l vs c k)
resolved-mild ms limits leaving l vs c (Some k) is n =
    answered-mild _ limits l (builtin k vs) _ _ (value-mild _ leaving) (λ class reason e. fails_through k c.arity vs class reason (called_row c k is) n e)
resolved-mild ms limits leaving l vs c None is n = function-mild ms leaving l vs c (exported_number ms c.owner c.name c.arity)

outside_by : (ms : List Module) (limits : Limits) (leaving : s.Leaving) (l : Local) (arity : ℕ) (vs : List t.Tree) (c : Callee) (b : Bool) → nat_eq arity c.arity ≡ b → length vs ≡ arity → Mild (has_some (raise_gates ms (s.Calls (s.Outside c) arity leaving))) (if b then r.resolved ms limits leaving l vs c (built_in_number c.owner c.name c.arity) else r.stuck l)
outside_by ms limits leaving l arity vs c true same n = resolved-mild ms limits leaving l vs c (built_in_number c.owner c.name c.arity) refl (n ∙ eqb-true arity c.arity same)
outside_by ms limits leaving l arity vs c false same n = tt

called-mild : (ms : List Module) (limits : Limits) (p : Placed) (leaving : s.Leaving) (l : Local) (arity : ℕ) (target : s.Target) (vs : List t.Tree) → length vs ≡ arity → Mild (has_some (raise_gates ms (s.Calls target arity leaving))) (r.called ms limits p leaving l arity target vs)
called-mild ms limits p leaving l arity (s.Inside label) vs n = given-mild _ l (target_of ms p label arity) _ (λ callee e. callee-mild _ leaving l vs callee)
called-mild ms limits p leaving l arity (s.Outside c) vs n = outside_by ms limits leaving l arity vs c (nat_eq arity c.arity) refl n

-- what may raise does as it likes
any_raise : (st : Stage Local Event) → Mild true st
any_raise (Still l) = tt
any_raise (Done (Raises class reason m)) = refl
any_raise (Done (Calls callee vs m)) = tt
any_raise (Done (TailCalls callee vs m)) = tt
any_raise (Done (Returns v m)) = tt
any_raise (Done (Ends e m)) = tt

-- each row
row-mild : (ms : List Module) (limits : Limits) (p : Placed) (l : Local) (shape : s.Shape) → Mild (has_some (raise_gates ms shape)) (r.row ms limits p l shape)
row-mild ms limits p l s.Passes = tt
row-mild ms limits p l (s.Moves from parts) = given-mild _ l (r.read_of l from) _ (λ v e. moved-mild _ l parts v)
row-mild ms limits p l (s.Swaps a b) = swapped-mild _ l a b _ _
row-mild ms limits p l (s.Conses head tail to) = consed-mild _ l to _ _
row-mild ms limits p l (s.Tuples parts to) = given-mild _ l (r.reads_of l parts) _ (λ vs e. put-mild _ _ to _ _ (λ m. tt))
row-mild ms limits p l (s.Tests name operands label) = test-mild false p.function l label (answer.test_number name (length operands)) (r.reads_of l operands)
row-mild ms limits p l (s.Selects from branches other) = given-mild _ l (r.read_of l from) _ (λ v e. selected-mild _ p.function l branches other v)
row-mild ms limits p l (s.Jumps label) = jumped-mild _ p.function l label
row-mild ms limits p l (s.Stacks op) = stack-mild _ limits l op
row-mild ms limits p l (s.Tags op) = tag-mild _ l op
row-mild ms limits p l (s.Computes name operands fail live to) =
    computed-mild limits p.function l name operands fail live to (inline_number name (length operands)) (r.reads_of l operands) refl refl
row-mild ms limits p l (s.Calls target arity leaving) =
    given-mild _ l (r.arguments arity l.xs) _ (λ vs e. called-mild ms limits p leaving l arity target vs (argument_count arity l.xs vs e))
row-mild ms limits p l s.Returns = given-mild _ l (r.read_of l (X 0)) _ (λ v e. without-mild _ l l.ys _ (λ m. tt))
row-mild ms limits p l (s.Raises reason) = any_raise (r.raise_row limits l reason)

pub rows_raise_through_gates : RowsRaiseThroughGates
rows_raise_through_gates ms limits p l shape class reason m e =
    subst (Mild (has_some (raise_gates ms shape))) e (row-mild ms limits p l shape)
