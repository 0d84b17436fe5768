-- One row of a running function: its next state, or what it does to the frames around it (docs/BEAM.md, Rows).
use Rattle.std.specs.Prelude.{ℕ, zero, suc, ◌+◌, ◌-◌, Bool, true, false, Option, Some, None, List, [], ◌∷◌, length, nat_eq, nat_lt, slice_get, slice_set, drop, replicate, if◌then◌else◌, codes}
use Rattle.small_step.specs.Stage.{Stage, Still, Done}
use Rattle.term_tree.specs.Name.{same_name}
use Rattle.term_tree.specs.Size.{size_of}
use Rattle.term_tree.specs.Term.{tree_of}
use Rattle.term_tree.specs.Tree as t
use Rattle.beam_code.specs.declared.call.Limits.{Limits}
use Rattle.beam_code.specs.declared.call.RaiseClass.{RaiseClass}
use Rattle.beam_code.specs.declared.call.RaiseClass.TheVariants.{Error, Exit, Throw}
use Rattle.beam_code.specs.declared.instr.ArityCase.{ArityCase}
use Rattle.beam_code.specs.declared.instr.Callee.{Callee}
use Rattle.beam_code.specs.declared.instr.Case.{Case}
use Rattle.beam_code.specs.declared.instr.Operand.{Operand}
use Rattle.beam_code.specs.declared.instr.Operand.TheVariants.{X, Y, Int, Atom, Nil, Literal}
use Rattle.beam_code.specs.declared.instr.Place.{Place}
use Rattle.beam_code.specs.declared.instr.Place.TheVariants as place
use Rattle.beam_code.specs.declared.module.Function.{Function}
use Rattle.beam_code.specs.declared.item.Item.{Item}
use Rattle.beam_code.specs.declared.module.Module.{Module}
use Rattle.beam_code.specs.Answer.{equal}
use Rattle.beam_code.specs.BuiltIns.{Answer, Gives, Fails, built_in_number, inline_number, builtin, test_number, holds}
use Rattle.beam_code.specs.BuiltIns as answer
use Rattle.beam_code.specs.Function.{Placed, cost_of, exported_number, is_given, label_in, target_of}
use Rattle.beam_code.specs.Shape as s
use Rattle.beam_code.specs.State.{Slot, Undefined, Holds, Tag, TagKind, OfTry, OfCatch, Local, Event, Calls, TailCalls, Returns, Raises, Ends, Bignum, HeapFull, OutOfReductions, StackFull, BadOperand, NotProvided, Stuck, only}

-- what a row reads

-- the term of a y register
abbrev pub slot_term : Option Slot → Option t.Tree
slot_term (Some (Holds v)) = Some v
slot_term _ = None

abbrev pub y_term : Option (List Slot) → ℕ → Option t.Tree
y_term None n = None
y_term (Some ys) n = slot_term (slice_get ys n)

-- the term of an x register
abbrev pub x_term : Option (Option t.Tree) → Option t.Tree
x_term None = None
x_term (Some x) = x

-- what an operand reads, where it is defined
abbrev pub read_of : Local → Operand → Option t.Tree
read_of l (X n) = x_term (slice_get l.xs n)
read_of l (Y n) = y_term l.ys n
read_of l (Int i) = Some (t.Int i)
read_of l (Atom a) = Some (t.Atom a)
read_of l Nil = Some t.Nil
read_of l (Literal v) = Some (tree_of v)

abbrev pub place_operand : Place → Operand
place_operand (place.X n) = X n
place_operand (place.Y n) = Y n

abbrev pub with_head : Option t.Tree → Option (List t.Tree) → Option (List t.Tree)
with_head (Some v) (Some vs) = Some (v ∷ vs)
with_head _ _ = None

-- the same of several, where all are defined
abbrev pub reads_of : Local → List Operand → Option (List t.Tree)
reads_of l [] = Some []
reads_of l (o ∷ os) = with_head (read_of l o) (reads_of l os)

-- the arguments of a call: the terms of so many x registers, from x0 on
abbrev pub arguments : ℕ → List (Option t.Tree) → Option (List t.Tree)
arguments zero xs = Some []
arguments (suc n) [] = None
arguments (suc n) (x ∷ xs) = with_head x (arguments n xs)

-- what a row does

abbrev pub stuck : Local → Stage Local Event
stuck l = Done (Ends Stuck l)

-- on to the next item
abbrev pub next : Local → Local
next l = record l { item = l.item + 1 }

abbrev pub goes_on : Local → Stage Local Event
goes_on l = Still (next l)

-- what follows terms that were read, where all are defined
abbrev pub given : {A : Type 0} → Local → Option A → (A → Stage Local Event) → Stage Local Event
given l (Some v) more = more v
given l None more = stuck l

-- a y register takes a slot, where there is such a register
abbrev pub y_set : Local → Option (List Slot) → ℕ → Slot → (Local → Stage Local Event) → Stage Local Event
y_set l None n slot more = stuck l
y_set l (Some ys) n slot more = if nat_lt n (length ys) then more (record l { ys = Some (slice_set ys n slot) }) else stuck l

-- a place takes a term
abbrev pub put : Local → Place → t.Tree → (Local → Stage Local Event) → Stage Local Event
put l (place.X n) v more = if nat_lt n (length l.xs) then more (record l { xs = slice_set l.xs n (Some v) }) else stuck l
put l (place.Y n) v more = y_set l l.ys n (Holds v) more

-- to a label of the function
abbrev pub at_item : Local → Option ℕ → Stage Local Event
at_item l None = stuck l
at_item l (Some item) = Still (record l { item = item })

abbrev pub jumped : Function → Local → ℕ → Stage Local Event
jumped f l label = at_item l (label_in f label)

-- the first so many x registers as they are, the others undefined
abbrev pub kept : ℕ → List (Option t.Tree) → List (Option t.Tree)
kept n [] = []
kept zero (x ∷ xs) = None ∷ kept zero xs
kept (suc n) (x ∷ xs) = x ∷ kept n xs

abbrev pub cut : Option ℕ → Local → Local
cut None l = l
cut (Some live) l = record l { xs = kept live l.xs }

-- so many words are asked of the heap, and used
abbrev pub asked : Limits → Local → ℕ → (Local → Stage Local Event) → Stage Local Event
asked limits l need more = if nat_lt limits.heap (l.used + need) then Done (Ends HeapFull l) else more l

abbrev pub using : ℕ → Local → Local
using words l = record l { used = l.used + words }

-- moves, cells

abbrev pub piece_of : s.Piece → t.Tree → Option t.Tree
piece_of s.Whole v = Some v
piece_of s.Head (t.Cons h u) = Some h
piece_of s.Tail (t.Cons h u) = Some u
piece_of (s.Element n) (t.Tuple ts) = slice_get (t.list_of ts) n
piece_of _ _ = None

abbrev pub put_piece : Local → Place → Option t.Tree → (Local → Stage Local Event) → Stage Local Event
put_piece l to None more = Done (Ends BadOperand l)
put_piece l to (Some v) more = put l to v more

abbrev pub moved : Local → List (s.Piece × Place) → t.Tree → Stage Local Event
moved l [] v = goes_on l
moved l (p ∷ ps) v = put_piece l p.1 (piece_of p.0 v) (λ m. moved m ps v)

abbrev pub swapped : Local → Place → Place → Option t.Tree → Option t.Tree → Stage Local Event
swapped l a b (Some v) (Some w) = put l a w (λ m. put m b v goes_on)
swapped l a b _ _ = stuck l

-- a new cell takes its words, which a heap test before has asked for
abbrev pub celled : Local → Place → ℕ → t.Tree → Stage Local Event
celled l to words v = put (using words l) to v goes_on

abbrev pub consed : Local → Place → Option t.Tree → Option t.Tree → Stage Local Event
consed l to (Some h) (Some u) = celled l to 2 (t.Cons h u)
consed l to _ _ = stuck l

-- tests and selections

abbrev pub tested : Function → Local → ℕ → Bool → Stage Local Event
tested f l label true = goes_on l
tested f l label false = jumped f l label

abbrev pub test_row : Function → Local → ℕ → Option ℕ → Option (List t.Tree) → Stage Local Event
test_row f l label (Some number) (Some vs) = tested f l label (holds number vs)
test_row f l label _ _ = stuck l

-- whether a term is an integer or an atom that an operand names
abbrev pub is_constant : Operand → t.Tree → Bool
is_constant (Int i) v = equal v (t.Int i)
is_constant (Atom a) v = equal v (t.Atom a)
is_constant _ v = false

abbrev pub label_by_value : t.Tree → ℕ → List Case → ℕ
label_by_value v other [] = other
label_by_value v other (c ∷ cs) = if is_constant c.value v then c.label else label_by_value v other cs

abbrev pub label_by_size : ℕ → ℕ → List ArityCase → ℕ
label_by_size n other [] = other
label_by_size n other (c ∷ cs) = if nat_eq n c.arity then c.label else label_by_size n other cs

abbrev pub selected : Function → Local → s.Branches → ℕ → t.Tree → Stage Local Event
selected f l (s.ByValue cs) other v = jumped f l (label_by_value v other cs)
selected f l (s.BySize cs) other (t.Tuple ts) = jumped f l (label_by_size (size_of ts) other cs)
selected f l (s.BySize cs) other v = Done (Ends BadOperand l)

-- the stack

abbrev pub allocated : Local → ℕ → Option (List Slot) → Stage Local Event
allocated l n None = goes_on (record l { ys = Some (replicate n Undefined) })
allocated l n (Some ys) = stuck l

-- the y registers go, where there are so many
abbrev pub freed : Local → ℕ → Option (List Slot) → (Local → Stage Local Event) → Stage Local Event
freed l n None more = stuck l
freed l n (Some ys) more = if nat_eq (length ys) n then more (record l { ys = None }) else stuck l

abbrev pub without_stack : Local → Option (List Slot) → (Local → Stage Local Event) → Stage Local Event
without_stack l None more = more l
without_stack l (Some ys) more = stuck l

-- the first n go, and so many are left
abbrev pub trimmed : Local → ℕ → ℕ → Option (List Slot) → Stage Local Event
trimmed l n rest None = stuck l
trimmed l n rest (Some ys) = if nat_eq (length ys) (n + rest) then goes_on (record l { ys = Some (drop n ys) }) else stuck l

abbrev pub stack_row : Limits → Local → s.StackOp → Stage Local Event
stack_row limits l (s.Allocates n None live) = allocated (cut (Some live) l) n l.ys
stack_row limits l (s.Allocates n (Some need) live) = asked limits l need (λ m. allocated (cut (Some live) m) n m.ys)
stack_row limits l (s.Asks need live) = asked limits l need (λ m. goes_on (cut (Some live) m))
stack_row limits l (s.Trims n rest) = trimmed l n rest l.ys
stack_row limits l (s.Frees n) = freed l n l.ys goes_on
stack_row limits l (s.Clears n) = y_set l l.ys n Undefined goes_on

-- marks of handlers

abbrev pub is_kind : TagKind → Option Slot → Bool
is_kind OfTry (Some (Tag OfTry label)) = true
is_kind OfCatch (Some (Tag OfCatch label)) = true
is_kind _ _ = false

-- a mark of this kind goes
abbrev pub untagged : Local → Option (List Slot) → TagKind → ℕ → Stage Local Event
untagged l None kind n = stuck l
untagged l (Some ys) kind n = if is_kind kind (slice_get ys n) then y_set l (Some ys) n Undefined goes_on else stuck l

abbrev pub tag_row : Local → s.TagOp → Stage Local Event
tag_row l (s.Tries n label) = y_set l l.ys n (Tag OfTry label) goes_on
tag_row l (s.Catches n label) = y_set l l.ys n (Tag OfCatch label) goes_on
tag_row l (s.TryEnds n) = untagged l l.ys OfTry n
tag_row l (s.TryHandles n) = untagged l l.ys OfTry n
tag_row l (s.CatchEnds n) = given l (read_of l (X 0)) (λ v. untagged l l.ys OfCatch n)

-- exceptions

abbrev pub raised : Local → RaiseClass → t.Tree → Stage Local Event
raised l class reason = Done (Raises class reason l)

abbrev pub error : Local → List ℕ → Stage Local Event
error l reason = raised l Error (t.Atom reason)

-- an error whose reason is a pair of a name and a term, which takes 3 words
abbrev pub pair_raised : Limits → Local → List ℕ → t.Tree → Stage Local Event
pair_raised limits l name v = asked limits l 3 (λ m. raised (using 3 m) Error (t.Tuple (t.More (t.Atom name) (t.More v t.No))))

-- the class that an atom names
abbrev pub class_named : List ℕ → Option RaiseClass
class_named a =
    if same_name a (codes "error") then Some Error
    else if same_name a (codes "exit") then Some Exit
    else if same_name a (codes "throw") then Some Throw
    else None

abbrev pub class_of : t.Tree → Option RaiseClass
class_of (t.Atom a) = class_named a
class_of _ = None

abbrev pub raised_as : Local → Option RaiseClass → t.Tree → Stage Local Event → Stage Local Event
raised_as l (Some class) reason else_so = raised l class reason
raised_as l None reason else_so = else_so

abbrev pub given_raised : Local → Option t.Tree → Option t.Tree → Stage Local Event
given_raised l (Some class) (Some reason) = raised_as l (class_of class) reason (Done (Ends BadOperand l))
given_raised l _ _ = stuck l

abbrev pub raw_raised : Local → Option (List t.Tree) → Stage Local Event
raw_raised l (Some (class ∷ reason ∷ trace ∷ [])) = raised_as l (class_of class) reason (put l (place.X 0) (t.Atom (codes "badarg")) goes_on)
raw_raised l _ = stuck l

abbrev pub raise_row : Limits → Local → s.Reason → Stage Local Event
raise_row limits l (s.Clause m f arity) = error l (codes "function_clause")
raise_row limits l (s.Match o) = given l (read_of l o) (pair_raised limits l (codes "badmatch"))
raise_row limits l (s.InCase o) = given l (read_of l o) (pair_raised limits l (codes "case_clause"))
raise_row limits l (s.InTry o) = given l (read_of l o) (pair_raised limits l (codes "try_clause"))
raise_row limits l s.InIf = error l (codes "if_clause")
raise_row limits l (s.Given class reason to) = given_raised l (read_of l class) (read_of l reason)
raise_row limits l s.Raw = raw_raised l (arguments 3 l.xs)

-- built-ins

-- a value is made in the heap, a failure comes before that
abbrev pub answered : Limits → Local → Answer → (t.Tree → Local → Stage Local Event) → (RaiseClass → t.Tree → Stage Local Event) → Stage Local Event
answered limits l (Gives v words) more fails = asked limits l words (λ m. more v (using words m))
answered limits l (Fails class reason) more fails = fails class reason
answered limits l answer.Bignum more fails = Done (Ends Bignum l)

-- a failure: to the fail label, or an exception where that is 0
abbrev pub failed : Function → Local → ℕ → RaiseClass → t.Tree → Stage Local Event
failed f l fail class reason = if nat_eq fail 0 then raised l class reason else jumped f l fail

abbrev pub computed : Limits → Function → Local → ℕ → Option ℕ → Place → Option ℕ → Option (List t.Tree) → Stage Local Event
computed limits f l fail live to (Some k) (Some vs) = answered limits l (builtin k vs) (λ v m. put (cut live m) to v goes_on) (failed f l fail)
computed limits f l fail live to _ _ = stuck l

-- calls

-- a value comes back to the function: in x0, the other x registers undefined
abbrev pub came_back : t.Tree → Local → Stage Local Event
came_back v l = goes_on (record l { xs = only (v ∷ []) })

-- how a call leaves its function: what is done with a value that is there, and with a callee
abbrev pub value_left : s.Leaving → t.Tree → Local → Stage Local Event
value_left s.Stays v l = came_back v l
value_left (s.Drops n) v l = freed l n l.ys (λ m. Done (Returns v m))
value_left s.HasNone v l = without_stack l l.ys (λ m. Done (Returns v m))

abbrev pub callee_left : s.Leaving → Local → List t.Tree → ℕ → Stage Local Event
callee_left s.Stays l vs callee = Done (Calls callee vs l)
callee_left (s.Drops n) l vs callee = freed l n l.ys (λ m. Done (TailCalls callee vs m))
callee_left s.HasNone l vs callee = without_stack l l.ys (λ m. Done (TailCalls callee vs m))

-- no built-in: an exported function; else an error in a module that is given; else the end
abbrev pub called_outside : List Module → s.Leaving → Local → List t.Tree → Callee → Option ℕ → Stage Local Event
called_outside ms leaving l vs c (Some callee) = callee_left leaving l vs callee
called_outside ms leaving l vs c None =
    if is_given ms c.owner then error l (codes "undef") else Done (Ends (NotProvided c.owner c.name c.arity) l)

-- a built-in of these names, or a function
abbrev pub resolved : List Module → Limits → s.Leaving → Local → List t.Tree → Callee → Option ℕ → Stage Local Event
resolved ms limits leaving l vs c (Some k) = answered limits l (builtin k vs) (value_left leaving) (raised l)
resolved ms limits leaving l vs c None = called_outside ms leaving l vs c (exported_number ms c.owner c.name c.arity)

abbrev pub called : List Module → Limits → Placed → s.Leaving → Local → ℕ → s.Target → List t.Tree → Stage Local Event
called ms limits p leaving l arity (s.Inside label) vs = given l (target_of ms p label arity) (callee_left leaving l vs)
called ms limits p leaving l arity (s.Outside c) vs =
    if nat_eq arity c.arity then resolved ms limits leaving l vs c (built_in_number c.owner c.name c.arity) else stuck l

-- a return: with no stack frame left
abbrev pub returned : Local → t.Tree → Stage Local Event
returned l v = without_stack l l.ys (λ m. Done (Returns v m))

-- a row, by shape
abbrev pub row : List Module → Limits → Placed → Local → s.Shape → Stage Local Event
row ms limits p l s.Passes = goes_on l
row ms limits p l (s.Moves from parts) = given l (read_of l from) (moved l parts)
row ms limits p l (s.Swaps a b) = swapped l a b (read_of l (place_operand a)) (read_of l (place_operand b))
row ms limits p l (s.Conses head tail to) = consed l to (read_of l head) (read_of l tail)
row ms limits p l (s.Tuples parts to) = given l (reads_of l parts) (λ vs. celled l to (length parts + 1) (t.Tuple (t.trees_of vs)))
row ms limits p l (s.Tests name operands label) = test_row p.function l label (test_number name (length operands)) (reads_of l operands)
row ms limits p l (s.Selects from branches other) = given l (read_of l from) (selected p.function l branches other)
row ms limits p l (s.Jumps label) = jumped p.function l label
row ms limits p l (s.Stacks op) = stack_row limits l op
row ms limits p l (s.Tags op) = tag_row l op
row ms limits p l (s.Computes name operands fail live to) =
    computed limits p.function l fail live to (inline_number name (length operands)) (reads_of l operands)
row ms limits p l (s.Calls target arity leaving) = given l (arguments arity l.xs) (called ms limits p leaving l arity target)
row ms limits p l s.Returns = given l (read_of l (X 0)) (returned l)
row ms limits p l (s.Raises reason) = raise_row limits l reason

-- the entry: a reduction, and room for the frame
abbrev pub enters : ℕ → Function → Local → Stage Local Event
enters room f l =
    if nat_eq l.left 0 then Done (Ends OutOfReductions l)
    else if nat_lt room (cost_of f) then Done (Ends StackFull l)
    else goes_on (record l { left = l.left - 1 })

abbrev pub item_row : List Module → Limits → Placed → Local → Option Item → Stage Local Event
item_row ms limits p l None = stuck l
item_row ms limits p l (Some i) = row ms limits p l (s.shape_of i.instr)

-- a row of a function for whose frame so many stack words are left
abbrev pub local_step : List Module → Limits → ℕ → Placed → Local → Stage Local Event
local_step ms limits room p l =
    if nat_eq l.item p.function.entry then enters room p.function l else item_row ms limits p l (slice_get p.function.items l.item)
