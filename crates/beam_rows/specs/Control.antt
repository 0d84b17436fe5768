-- Meanings of functions that move, test, select and keep a stack, worked by hand (docs/BEAM.md, Rows).
use Rattle.std.specs.Prelude.{ℕ, pos, List, [], ◌∷◌, ◌++◌, codes}
use Rattle.beam_code.specs.declared.call.RaiseClass.TheVariants.{Error}
use Rattle.beam_code.specs.declared.instr.ArityCase.{ArityCase}
use Rattle.beam_code.specs.declared.instr.Case.{Case}
use Rattle.beam_code.specs.declared.instr.Instr.{Instr}
use Rattle.beam_code.specs.declared.instr.Instr.TheVariants as i
use Rattle.beam_code.specs.declared.instr.Operand.{Operand}
use Rattle.beam_code.specs.declared.instr.Operand.TheVariants as o
use Rattle.beam_code.specs.State.{Returned, Raised, Ended, BadOperand, HeapFull, OutOfReductions, StackFull, Stuck}
use Rattle.term_tree.specs.declared.term.Term.TheVariants as term
use Rattle.term_tree.specs.Tree as t
use Rattle.beam_rows.specs.Hand.{atom, int, name}
use Rattle.beam_rows.specs.Small.{Gives, GivesIn, limited, list, named, nay, num, to_x, to_y, tuple, x, y, yes}

-- what a test says of its operands, as 1 or 2
abbrev pub tested : List ℕ → List Operand → List Instr
tested name operands = i.Test name 3 operands ∷ i.Move (num 1) (to_x 0) ∷ i.Return ∷ i.Label 3 ∷ i.Move (num 2) (to_x 0) ∷ i.Return ∷ []

abbrev pub Holds : List ℕ → List Operand → List t.Tree → Type 0
Holds name operands args = Gives (tested name operands) args (Returned (int 1))

abbrev pub HoldsNot : List ℕ → List Operand → List t.Tree → Type 0
HoldsNot name operands args = Gives (tested name operands) args (Returned (int 2))

abbrev pub ok : t.Tree
ok = atom (codes "ok")

abbrev pub Tests : Type 0
Tests =
    Holds (codes "is_integer") (x 0 ∷ []) (int 1 ∷ [])
    × Holds (codes "is_number") (x 0 ∷ []) (int 1 ∷ [])
    × HoldsNot (codes "is_atom") (x 0 ∷ []) (int 1 ∷ [])
    × Holds (codes "is_list") (x 0 ∷ []) (t.Nil ∷ [])
    × HoldsNot (codes "is_nonempty_list") (x 0 ∷ []) (t.Nil ∷ [])
    × Holds (codes "is_boolean") (x 0 ∷ []) (nay ∷ [])
    × HoldsNot (codes "is_boolean") (x 0 ∷ []) (ok ∷ [])
    × Holds (codes "is_lt") (x 0 ∷ num 2 ∷ []) (int 1 ∷ [])
    × HoldsNot (codes "is_ge") (x 0 ∷ num 2 ∷ []) (int 1 ∷ [])
    × HoldsNot (codes "is_ne_exact") (x 0 ∷ num 1 ∷ []) (int 1 ∷ [])
    × Holds (codes "test_arity") (x 0 ∷ num 2 ∷ []) (tuple (ok ∷ ok ∷ []) ∷ [])
    × HoldsNot (codes "test_arity") (x 0 ∷ num 1 ∷ []) (t.Nil ∷ [])
    × Holds (codes "is_tagged_tuple") (x 0 ∷ num 2 ∷ named (codes "ok") ∷ []) (tuple (ok ∷ int 1 ∷ []) ∷ [])
    × HoldsNot (codes "is_tagged_tuple") (x 0 ∷ num 3 ∷ named (codes "ok") ∷ []) (tuple (ok ∷ int 1 ∷ []) ∷ [])
    × HoldsNot (codes "is_tagged_tuple") (x 0 ∷ num 1 ∷ named (codes "ok") ∷ []) (tuple (int 1 ∷ []) ∷ [])
    × HoldsNot (codes "is_function2") (x 0 ∷ num 1 ∷ []) (ok ∷ [])

-- what one test holds of, and what it does not
abbrev pub Splits : List ℕ → t.Tree → t.Tree → Type 0
Splits name one other = Holds name (x 0 ∷ []) (one ∷ []) × HoldsNot name (x 0 ∷ []) (other ∷ [])

abbrev pub Compares : List ℕ → t.Tree × t.Tree → t.Tree × t.Tree → Type 0
Compares name one other =
    Holds name (x 0 ∷ x 1 ∷ []) (one.0 ∷ one.1 ∷ []) × HoldsNot name (x 0 ∷ x 1 ∷ []) (other.0 ∷ other.1 ∷ [])

abbrev pub BothWays : Type 0
BothWays =
    Splits (codes "is_integer") (int 1) ok
    × Splits (codes "is_number") (int 1) ok
    × Splits (codes "is_atom") ok t.Nil
    × Splits (codes "is_nil") t.Nil (list (int 1 ∷ []))
    × Splits (codes "is_list") (t.Cons (int 1) (int 2)) (tuple [])
    × Splits (codes "is_nonempty_list") (t.Cons (int 1) (int 2)) (tuple (int 1 ∷ []))
    × Splits (codes "is_tuple") (tuple []) t.Nil
    × Splits (codes "is_boolean") yes (int 1)
    × Compares (codes "is_lt") (int 1, ok) (int 1, int 1)
    × Compares (codes "is_ge") (int 1, int 1) (tuple [], t.Nil)
    × Compares (codes "is_eq") (list (ok ∷ []), list (ok ∷ [])) (tuple (ok ∷ []), list (ok ∷ []))
    × Compares (codes "is_ne") (ok, nay) (tuple (int 1 ∷ []), tuple (int 1 ∷ []))
    × Compares (codes "is_eq_exact") (tuple (ok ∷ []), tuple (ok ∷ [])) (int 1, int 2)
    × Compares (codes "is_ne_exact") (t.Nil, tuple []) (ok, ok)

-- there are no such terms
abbrev pub Never : List ℕ → Type 0
Never name = HoldsNot name (x 0 ∷ []) (tuple (int 1 ∷ []) ∷ []) × HoldsNot name (x 0 ∷ []) (int 1 ∷ [])

abbrev pub NeverHold : Type 0
NeverHold =
    Never (codes "is_float")
    × Never (codes "is_pid")
    × Never (codes "is_reference")
    × Never (codes "is_port")
    × Never (codes "is_binary")
    × Never (codes "is_bitstr")
    × Never (codes "is_map")
    × Never (codes "is_function")

-- selections: a branch, no branch, and a size of what is no tuple
abbrev pub case : Operand → ℕ → Case
case v label = record { value = v; label = label }

abbrev pub size_case : ℕ → ℕ → ArityCase
size_case n label = record { arity = n; label = label }

abbrev pub three_ends : List Instr
three_ends =
    i.Label 3 ∷ i.Move (num 3) (to_x 0) ∷ i.Return ∷ i.Label 4 ∷ i.Move (num 4) (to_x 0) ∷ i.Return ∷ i.Label 5 ∷ i.Move (num 5) (to_x 0) ∷ i.Return ∷ []

abbrev pub by_value : List Instr
by_value = i.SelectVal (x 0) 3 (case (num 7) 4 ∷ case (named (codes "ok")) 5 ∷ case (num 7) 5 ∷ []) ∷ three_ends

abbrev pub by_size : List Instr
by_size = i.SelectTupleArity (x 0) 3 (size_case 0 4 ∷ size_case 2 5 ∷ []) ∷ three_ends

abbrev pub Selections : Type 0
Selections =
    Gives by_value (int 7 ∷ []) (Returned (int 4))
    × Gives by_value (ok ∷ []) (Returned (int 5))
    × Gives by_value (t.Nil ∷ []) (Returned (int 3))
    × Gives by_size (tuple (ok ∷ ok ∷ []) ∷ []) (Returned (int 5))
    × Gives by_size (tuple (ok ∷ []) ∷ []) (Returned (int 3))
    × Gives by_size (ok ∷ []) (Ended BadOperand)

-- moves: two places in order, a place with itself, parts of terms
abbrev pub nil_operand : Operand
nil_operand = o.Nil

abbrev pub Moves : Type 0
Moves =
    Gives (i.Swap (to_x 0) (to_x 1) ∷ i.Return ∷ []) (int 1 ∷ int 2 ∷ []) (Returned (int 2))
    × Gives (i.Swap (to_x 0) (to_x 0) ∷ i.Return ∷ []) (int 1 ∷ []) (Returned (int 1))
    × Gives (i.GetList (x 0) (to_x 0) (to_x 0) ∷ i.Return ∷ []) (t.Cons (int 1) (int 2) ∷ []) (Returned (int 2))
    × Gives (i.GetHd (x 0) (to_x 0) ∷ i.Return ∷ []) (t.Cons (int 1) (int 2) ∷ []) (Returned (int 1))
    × Gives (i.GetTl (x 0) (to_x 0) ∷ i.Return ∷ []) (t.Nil ∷ []) (Ended BadOperand)
    × Gives (i.GetTupleElement (x 0) 1 (to_x 0) ∷ i.Return ∷ []) (tuple (int 1 ∷ int 2 ∷ []) ∷ []) (Returned (int 2))
    × Gives (i.GetTupleElement (x 0) 2 (to_x 0) ∷ i.Return ∷ []) (tuple (int 1 ∷ int 2 ∷ []) ∷ []) (Ended BadOperand)
    × Gives (i.Move (x 1) (to_x 0) ∷ i.Return ∷ []) (int 1 ∷ []) (Ended Stuck)
    × Gives (i.TestHeap 5 1 ∷ i.PutList (x 0) nil_operand (to_x 1) ∷ i.PutTuple2 (to_x 0) (x 0 ∷ x 1 ∷ []) ∷ i.Return ∷ [])
    (int 1 ∷ []) (Returned (tuple (int 1 ∷ list (int 1 ∷ []) ∷ [])))

-- the stack: y registers are undefined at first, and again once killed; a trim moves them down
abbrev pub Stacks : Type 0
Stacks =
    Gives (i.Allocate 2 1 ∷ i.Move (x 0) (to_y 1) ∷ i.Trim 1 1 ∷ i.Move (y 0) (to_x 0) ∷ i.Deallocate 1 ∷ i.Return ∷ [])
    (int 1 ∷ []) (Returned (int 1))
    × Gives (i.Allocate 1 1 ∷ i.Move (y 0) (to_x 0) ∷ i.Deallocate 1 ∷ i.Return ∷ []) (int 1 ∷ []) (Ended Stuck)
    × Gives (i.Allocate 1 1 ∷ i.Move (x 0) (to_y 0) ∷ i.Kill 0 ∷ i.Move (y 0) (to_x 0) ∷ i.Deallocate 1 ∷ i.Return ∷ []) (int 1 ∷ []) (Ended Stuck)
    × Gives (i.Allocate 1 0 ∷ i.Deallocate 1 ∷ i.Return ∷ []) (int 1 ∷ []) (Ended Stuck)
    × Gives (i.Allocate 1 1 ∷ i.Return ∷ []) (int 1 ∷ []) (Ended Stuck)
    × Gives (i.Allocate 1 1 ∷ i.Deallocate 2 ∷ i.Return ∷ []) (int 1 ∷ []) (Ended Stuck)
    × Gives (i.Allocate 1 1 ∷ i.Allocate 1 1 ∷ i.Deallocate 1 ∷ i.Return ∷ []) (int 1 ∷ []) (Ended Stuck)
    × Gives (i.Jump 3 ∷ i.Label 3 ∷ i.Return ∷ []) (int 1 ∷ []) (Returned (int 1))
    × Gives (i.Jump 9 ∷ i.Return ∷ []) (int 1 ∷ []) (Ended Stuck)

-- allocations that test the heap: 2 y registers, 4 words, and 1 register that stays; the heap's last word and one less; a frame
-- of 1 + 2 + 1 words, and one less; a register that stays, and one that does not
abbrev pub filled : Instr → List Instr
filled first =
    first ∷ i.PutList (x 0) nil_operand (to_y 1) ∷ i.PutList (x 0) (y 1) (to_x 0) ∷ i.Deallocate 2 ∷ i.Return ∷ []

abbrev pub second_of : Instr → List Instr
second_of first = first ∷ i.Move (x 1) (to_x 0) ∷ i.Deallocate 2 ∷ i.Return ∷ []

abbrev pub Allocates : (ℕ → ℕ → ℕ → Instr) → Type 0
Allocates allocate =
    GivesIn (limited 1 4 4) (filled (allocate 2 4 1)) (int 7 ∷ []) (Returned (list (int 7 ∷ int 7 ∷ [])))
    × GivesIn (limited 1 3 4) (filled (allocate 2 4 1)) (int 7 ∷ []) (Ended HeapFull)
    × GivesIn (limited 1 4 3) (filled (allocate 2 4 1)) (int 7 ∷ []) (Ended StackFull)
    × Gives (second_of (allocate 2 4 1)) (int 7 ∷ int 8 ∷ []) (Ended Stuck)
    × Gives (second_of (allocate 2 1 2)) (int 7 ∷ int 8 ∷ []) (Returned (int 8))

abbrev pub HeapAllocations : Type 0
HeapAllocations = Allocates (λ n need live. i.AllocateHeap n need live) × Allocates (λ n need live. i.AllocateHeapZero n need live)

-- y registers that are new are undefined, and those that are cleared, those of the zero forms too; only one is cleared
abbrev pub first_y_after : List Instr → List Instr
first_y_after begin = begin ++ (i.Move (y 0) (to_x 0) ∷ i.Deallocate 2 ∷ i.Return ∷ [])

abbrev pub NewYs : Type 0
NewYs =
    Gives (first_y_after (i.AllocateZero 2 1 ∷ [])) (int 7 ∷ []) (Ended Stuck)
    × Gives (first_y_after (i.AllocateHeap 2 0 1 ∷ [])) (int 7 ∷ []) (Ended Stuck)
    × Gives (first_y_after (i.AllocateHeapZero 2 0 1 ∷ [])) (int 7 ∷ []) (Ended Stuck)
    × Gives (first_y_after (i.AllocateZero 2 1 ∷ i.Move (x 0) (to_y 0) ∷ [])) (int 7 ∷ []) (Returned (int 7))
    × Gives (first_y_after (i.AllocateZero 2 1 ∷ i.Move (x 0) (to_y 0) ∷ i.Init 0 ∷ [])) (int 7 ∷ []) (Ended Stuck)
    × Gives (first_y_after (i.AllocateZero 2 1 ∷ i.Move (x 0) (to_y 0) ∷ i.Init 1 ∷ [])) (int 7 ∷ []) (Returned (int 7))
    × Gives (first_y_after (i.AllocateZero 2 1 ∷ i.Init 0 ∷ i.Move (x 0) (to_y 0) ∷ [])) (int 7 ∷ []) (Returned (int 7))
    × Gives (first_y_after (i.AllocateZero 2 1 ∷ i.Move (x 0) (to_y 0) ∷ i.Init 2 ∷ [])) (int 7 ∷ []) (Ended Stuck)
    × Gives (i.AllocateZero 2 1 ∷ i.Move (x 1) (to_x 0) ∷ i.Deallocate 2 ∷ i.Return ∷ []) (int 7 ∷ int 8 ∷ []) (Ended Stuck)
    × GivesIn (limited 1 0 4) (first_y_after (i.AllocateZero 2 1 ∷ i.Move (x 0) (to_y 0) ∷ [])) (int 7 ∷ []) (Returned (int 7))
    × GivesIn (limited 1 0 3) (first_y_after (i.AllocateZero 2 1 ∷ i.Move (x 0) (to_y 0) ∷ [])) (int 7 ∷ []) (Ended StackFull)

-- lines and comments leave the registers and take no words
abbrev pub remarked : List Instr
remarked =
    i.Line (term.Int (pos 7)) ∷ i.Allocate 1 2 ∷ i.Move (x 0) (to_y 0) ∷ i.Comment (term.Int (pos 7)) ∷ i.Line (term.Int (pos 8))
    ∷ i.GcBif (codes "-") 0 2 (x 1 ∷ y 0 ∷ []) (to_x 0) ∷ i.Comment (term.Int (pos 8)) ∷ i.Deallocate 1 ∷ i.Return ∷ []

abbrev pub Remarks : Type 0
Remarks =
    GivesIn (limited 1 0 4) remarked (int 3 ∷ int 5 ∷ []) (Returned (int 2))
    × Gives (i.Line (term.Int (pos 7)) ∷ []) (int 3 ∷ []) (Ended Stuck)

-- limits: no reduction; a frame of 1 + 2 + 1 words, and one word less; a heap test
abbrev pub framed : List Instr
framed = i.Allocate 2 1 ∷ i.Deallocate 2 ∷ i.Return ∷ []

abbrev pub heaped : List Instr
heaped = i.TestHeap 2 1 ∷ i.PutList (x 0) (x 0) (to_x 0) ∷ i.Return ∷ []

abbrev pub Limited : Type 0
Limited =
    GivesIn (limited 0 1000 1000) framed (int 1 ∷ []) (Ended OutOfReductions)
    × GivesIn (limited 1 0 4) framed (int 1 ∷ []) (Returned (int 1))
    × GivesIn (limited 1 0 3) framed (int 1 ∷ []) (Ended StackFull)
    × GivesIn (limited 1 2 4) heaped (int 1 ∷ []) (Returned (t.Cons (int 1) (int 1)))
    × GivesIn (limited 1 1 4) heaped (int 1 ∷ []) (Ended HeapFull)

-- functions that call: a factorial; a loop with 3 reductions for 2 rounds and its end, and one less; a list of two lists
abbrev pub factorial : List Instr
factorial =
    i.Test (codes "is_eq_exact") 3 (x 0 ∷ num 0 ∷ []) ∷ i.Move (num 1) (to_x 0) ∷ i.Return ∷ i.Label 3
    ∷ i.Allocate 1 1 ∷ i.Move (x 0) (to_y 0) ∷ i.GcBif (codes "-") 0 1 (y 0 ∷ num 1 ∷ []) (to_x 0) ∷ i.Call 1 2
    ∷ i.GcBif (codes "*") 0 1 (y 0 ∷ x 0 ∷ []) (to_x 0) ∷ i.Deallocate 1 ∷ i.Return ∷ []

abbrev pub sum : List Instr
sum =
    i.Test (codes "is_ne_exact") 3 (x 0 ∷ num 0 ∷ []) ∷ i.GcBif (codes "+") 0 2 (x 1 ∷ x 0 ∷ []) (to_x 1)
    ∷ i.GcBif (codes "-") 0 2 (x 0 ∷ num 1 ∷ []) (to_x 0) ∷ i.CallOnly 2 2 ∷ i.Label 3 ∷ i.Move (x 1) (to_x 0) ∷ i.Return ∷ []

abbrev pub append : List Instr
append =
    i.Test (codes "is_nonempty_list") 3 (x 0 ∷ []) ∷ i.Allocate 1 2 ∷ i.GetList (x 0) (to_y 0) (to_x 0) ∷ i.Call 2 2
    ∷ i.TestHeap 2 1 ∷ i.PutList (y 0) (x 0) (to_x 0) ∷ i.Deallocate 1 ∷ i.Return ∷ i.Label 3
    ∷ i.Test (codes "is_nil") 1 (x 0 ∷ []) ∷ i.Move (x 1) (to_x 0) ∷ i.Return ∷ []

abbrev pub Recursions : Type 0
Recursions =
    Gives factorial (int 5 ∷ []) (Returned (int 120))
    × GivesIn (limited 6 0 18) factorial (int 5 ∷ []) (Returned (int 120))
    × GivesIn (limited 6 0 17) factorial (int 5 ∷ []) (Ended StackFull)
    × GivesIn (limited 3 0 3) sum (int 2 ∷ int 0 ∷ []) (Returned (int 3))
    × GivesIn (limited 2 0 3) sum (int 2 ∷ int 0 ∷ []) (Ended OutOfReductions)
    × Gives append (list (int 1 ∷ int 2 ∷ []) ∷ list (int 3 ∷ []) ∷ []) (Returned (list (int 1 ∷ int 2 ∷ int 3 ∷ [])))
    × Gives append (ok ∷ ok ∷ []) (Raised Error (atom (codes "function_clause")))
