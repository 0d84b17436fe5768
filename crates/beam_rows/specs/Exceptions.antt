-- Meanings of functions that call outside and that raise, worked by hand (docs/BEAM.md, Rows and Exceptions).
use Rattle.std.specs.Prelude.{ℕ, List, [], ◌∷◌, codes, map}
use Rattle.beam_code.specs.declared.call.RaiseClass.TheVariants.{Error, Exit, Throw}
use Rattle.beam_code.specs.declared.instr.Callee.{Callee}
use Rattle.beam_code.specs.declared.instr.Instr.{Instr}
use Rattle.beam_code.specs.declared.instr.Instr.TheVariants as i
use Rattle.beam_code.specs.declared.instr.Operand.{Operand}
use Rattle.beam_code.specs.declared.instr.Operand.TheVariants as o
use Rattle.beam_code.specs.declared.instr.Place.{Place}
use Rattle.beam_code.specs.declared.module.Function.{Function}
use Rattle.beam_code.specs.State.{Outcome, Returned, Raised, Ended, BadOperand, Bignum, HeapFull, NotProvided, Stuck}
use Rattle.term_tree.specs.Tree as t
use Rattle.beam_rows.specs.Hand.{atom, callee, function, int, item, name}
use Rattle.beam_rows.specs.Small.{Gives, GivesIn, Means, limited, main, named, num, plenty, program, to_x, to_y, tuple, x, y}

-- another function of m, with two labels of its own
abbrev pub helper : List ℕ → ℕ → ℕ → ℕ → List Instr → Function
helper f arity a b instrs = function name f arity a b (map item instrs)

-- a call of m:g/1, which returns its argument, or reads a register that is none
abbrev pub with_g : List Instr → List Instr → List Function
with_g instrs behind = main 1 instrs ∷ helper (codes "g") 1 4 5 behind ∷ []

abbrev pub Pair : List Instr → List Instr → List t.Tree → Outcome → Type 0
Pair instrs behind args outcome = Means (program 1 (with_g instrs behind)) plenty args outcome

-- calls: a value comes back to x0; a callee has its arguments alone, and a caller x0 alone; m:g/1 is not exported
abbrev pub Calls : Type 0
Calls =
    Pair (i.Allocate 0 1 ∷ i.Call 1 5 ∷ i.Deallocate 0 ∷ i.Return ∷ []) (i.Return ∷ []) (int 3 ∷ []) (Returned (int 3))
    × Pair (i.Move (num 9) (to_x 1) ∷ i.CallOnly 1 5 ∷ []) (i.Move (x 1) (to_x 0) ∷ i.Return ∷ []) (int 3 ∷ []) (Ended Stuck)
    × Pair (i.Move (num 9) (to_x 1) ∷ i.Allocate 0 2 ∷ i.Call 1 5 ∷ i.Move (x 1) (to_x 0) ∷ i.Deallocate 0 ∷ i.Return ∷ [])
    (i.Return ∷ []) (int 3 ∷ []) (Ended Stuck)
    × Pair (i.Allocate 1 1 ∷ i.CallLast 1 5 1 ∷ []) (i.Return ∷ []) (int 3 ∷ []) (Returned (int 3))
    × Pair (i.CallExtOnly 1 (callee name (codes "g") 1) ∷ []) (i.Return ∷ []) (int 3 ∷ []) (Raised Error (atom (codes "undef")))
    × Pair (i.CallExtOnly 1 (callee name (codes "h") 1) ∷ []) (i.Return ∷ []) (int 3 ∷ []) (Raised Error (atom (codes "undef")))
    × Pair (i.CallExtOnly 1 (callee (codes "n") (codes "g") 1) ∷ []) (i.Return ∷ []) (int 3 ∷ []) (Ended (NotProvided (codes "n") (codes "g") 1))
    × Pair (i.CallOnly 1 4 ∷ []) (i.Return ∷ []) (int 3 ∷ []) (Ended Stuck)
    × Gives (i.Test (codes "is_nil") 3 (x 0 ∷ []) ∷ i.Move (num 7) (to_x 0) ∷ i.Return ∷ i.Label 3 ∷ i.Move o.Nil (to_x 0) ∷ i.CallExtOnly 1 (callee name (codes "f") 1) ∷ [])
    (int 3 ∷ []) (Returned (int 7))

-- a built-in by each kind of call
abbrev pub plus : Callee
plus = callee (codes "erlang") (codes "+") 2

abbrev pub BuiltIns : Type 0
BuiltIns =
    Gives (i.Bif (codes "+") 0 (x 0 ∷ x 1 ∷ []) (to_x 0) ∷ i.Return ∷ []) (int 1 ∷ int 2 ∷ []) (Returned (int 3))
    × Gives (i.Allocate 0 2 ∷ i.CallExt 2 plus ∷ i.Deallocate 0 ∷ i.Return ∷ []) (int 1 ∷ int 2 ∷ []) (Returned (int 3))
    × Gives (i.Allocate 0 2 ∷ i.CallExtLast 2 plus 0 ∷ []) (int 1 ∷ int 2 ∷ []) (Returned (int 3))
    × Gives (i.CallExtOnly 2 plus ∷ []) (int 1 ∷ int 2 ∷ []) (Returned (int 3))
    × Gives (i.CallExtOnly 2 plus ∷ []) (int 1 ∷ t.Nil ∷ []) (Raised Error (atom (codes "badarith")))
    × Gives (i.GcBif (codes "+") 3 2 (x 0 ∷ x 1 ∷ []) (to_x 0) ∷ i.Return ∷ i.Label 3 ∷ i.Move (x 1) (to_x 0) ∷ i.Return ∷ [])
    (int 1 ∷ t.Nil ∷ []) (Returned t.Nil)
    × Gives (i.GcBif (codes "+") 3 2 (x 0 ∷ x 1 ∷ []) (to_x 0) ∷ i.Return ∷ i.Label 3 ∷ i.Return ∷ []) (int 134217727 ∷ int 1 ∷ []) (Ended Bignum)
    × Gives (i.GcBif (codes "+") 0 1 (x 0 ∷ x 1 ∷ []) (to_x 0) ∷ i.Move (x 1) (to_x 0) ∷ i.Return ∷ []) (int 1 ∷ int 2 ∷ []) (Ended Stuck)
    × Gives (i.Bif (codes "++") 0 (x 0 ∷ x 1 ∷ []) (to_x 0) ∷ i.Return ∷ []) (t.Nil ∷ t.Nil ∷ []) (Ended Stuck)

-- on the way to a fail label nothing changes, x registers past Live and the place among it; a value is written after Live
abbrev pub failing : Place → Operand → List Instr
failing to shown =
    i.Allocate 1 2 ∷ i.Move (num 9) (to_y 0) ∷ i.GcBif (codes "+") 3 1 (x 0 ∷ x 1 ∷ []) to ∷ i.Move (num 8) (to_x 0) ∷ i.Deallocate 1 ∷ i.Return
    ∷ i.Label 3 ∷ i.Move shown (to_x 0) ∷ i.Deallocate 1 ∷ i.Return ∷ []

abbrev pub FailLabels : Type 0
FailLabels =
    Gives (failing (to_x 0) (x 1)) (int 1 ∷ t.Nil ∷ []) (Returned t.Nil)
    × Gives (failing (to_x 0) (x 0)) (int 1 ∷ t.Nil ∷ []) (Returned (int 1))
    × Gives (failing (to_x 1) (x 1)) (int 1 ∷ t.Nil ∷ []) (Returned t.Nil)
    × Gives (failing (to_y 0) (y 0)) (int 1 ∷ t.Nil ∷ []) (Returned (int 9))
    × Gives (failing (to_x 2) (x 2)) (int 1 ∷ t.Nil ∷ []) (Ended Stuck)
    × Gives (failing (to_y 0) (x 0)) (int 1 ∷ int 2 ∷ []) (Returned (int 8))
    × Gives (i.GcBif (codes "+") 3 1 (x 0 ∷ x 1 ∷ []) (to_x 0) ∷ i.Return ∷ i.Label 3 ∷ i.TestHeap 3 2 ∷ i.PutTuple2 (to_x 0) (x 0 ∷ x 1 ∷ []) ∷ i.Return ∷ [])
    (int 1 ∷ t.Nil ∷ []) (Returned (tuple (int 1 ∷ t.Nil ∷ [])))
    × Gives (i.GcBif (codes "+") 3 1 (x 0 ∷ x 1 ∷ []) (to_x 1) ∷ i.Move (x 1) (to_x 0) ∷ i.Return ∷ i.Label 3 ∷ i.Return ∷ [])
    (int 1 ∷ int 2 ∷ []) (Returned (int 3))
    × Gives (i.Bif (codes "hd") 3 (x 0 ∷ []) (to_x 0) ∷ i.Return ∷ i.Label 3 ∷ i.Return ∷ []) (int 1 ∷ []) (Returned (int 1))
    × Gives (i.Bif (codes "hd") 9 (x 0 ∷ []) (to_x 0) ∷ i.Return ∷ []) (int 1 ∷ []) (Ended Stuck)

-- reasons: a pair with the heap's last word and with one less; classes that are none
abbrev pub Reasons : Type 0
Reasons =
    GivesIn (limited 1 3 9) (i.Badmatch (x 0) ∷ []) (int 1 ∷ []) (Raised Error (tuple (atom (codes "badmatch") ∷ int 1 ∷ [])))
    × GivesIn (limited 1 2 9) (i.Badmatch (x 0) ∷ []) (int 1 ∷ []) (Ended HeapFull)
    × Gives (i.CaseEnd (x 0) ∷ []) (int 1 ∷ []) (Raised Error (tuple (atom (codes "case_clause") ∷ int 1 ∷ [])))
    × Gives (i.TryCaseEnd (x 0) ∷ []) (int 1 ∷ []) (Raised Error (tuple (atom (codes "try_clause") ∷ int 1 ∷ [])))
    × Gives (i.IfEnd ∷ []) (int 1 ∷ []) (Raised Error (atom (codes "if_clause")))
    × Gives (i.Raise (x 0) (x 1) (to_x 0) ∷ []) (atom (codes "throw") ∷ int 1 ∷ []) (Raised Throw (int 1))
    × Gives (i.BifRaise (x 0) (x 1) (to_x 0) ∷ []) (atom (codes "thrown") ∷ int 1 ∷ []) (Ended BadOperand)
    × Gives (i.RawRaise ∷ i.Return ∷ []) (atom (codes "exit") ∷ int 1 ∷ int 2 ∷ []) (Raised Exit (int 1))
    × Gives (i.RawRaise ∷ i.Return ∷ []) (int 0 ∷ int 1 ∷ int 2 ∷ []) (Returned (atom (codes "badarg")))
    × Gives (i.RawRaise ∷ i.Return ∷ []) (atom (codes "exit") ∷ int 1 ∷ []) (Ended Stuck)

-- a `try` around a call, and a raise through the two frames behind it; no raise; what is caught is class and reason
abbrev pub trying : List Instr
trying =
    i.Allocate 1 1 ∷ i.Try 0 3 ∷ i.Call 1 5 ∷ i.TryEnd 0 ∷ i.Deallocate 1 ∷ i.Return ∷ i.Label 3 ∷ i.TryCase 0
    ∷ i.TestHeap 3 2 ∷ i.PutTuple2 (to_x 0) (x 0 ∷ x 1 ∷ []) ∷ i.Deallocate 1 ∷ i.Return ∷ []

abbrev pub tried : List Function
tried =
    main 1 trying
    ∷ helper (codes "g") 1 4 5 (i.Allocate 0 1 ∷ i.Call 1 7 ∷ i.Deallocate 0 ∷ i.Return ∷ [])
    ∷ helper (codes "h") 1 6 7 (i.Test (codes "is_eq_exact") 8 (x 0 ∷ num 1 ∷ []) ∷ i.Return ∷ i.Label 8 ∷ i.Badmatch (x 0) ∷ [])
    ∷ []

abbrev pub Tries : Type 0
Tries =
    Means (program 1 tried) plenty (int 2 ∷ []) (Returned (tuple (atom (codes "error") ∷ tuple (atom (codes "badmatch") ∷ int 2 ∷ []) ∷ [])))
    × Means (program 1 tried) plenty (int 1 ∷ []) (Returned (int 1))

-- a `try` in a `try`: a throw is handled inside, and another class is raised again and handled outside
abbrev pub nested : List Instr
nested =
    i.Allocate 2 2 ∷ i.Try 1 5 ∷ i.Try 0 3 ∷ i.Raise (x 0) (x 1) (to_x 0) ∷ i.Label 3 ∷ i.TryCase 0
    ∷ i.Test (codes "is_eq_exact") 4 (x 0 ∷ named (codes "throw") ∷ []) ∷ i.Move (x 1) (to_x 0) ∷ i.TryEnd 1 ∷ i.Deallocate 2 ∷ i.Return
    ∷ i.Label 4 ∷ i.BifRaise (x 2) (x 1) (to_x 0) ∷ i.Label 5 ∷ i.TryCase 1 ∷ i.TestHeap 3 2 ∷ i.PutTuple2 (to_x 0) (x 0 ∷ x 1 ∷ [])
    ∷ i.Deallocate 2 ∷ i.Return ∷ []

abbrev pub Nests : Type 0
Nests =
    Gives nested (atom (codes "throw") ∷ int 1 ∷ []) (Returned (int 1))
    × Gives nested (atom (codes "exit") ∷ int 1 ∷ []) (Returned (tuple (atom (codes "exit") ∷ int 1 ∷ [])))

-- a `catch` of each class, with its words; a mark of the other kind; a `catch` that nothing comes to
abbrev pub catching : List Instr
catching = i.Allocate 1 2 ∷ i.Catch 0 3 ∷ i.Raise (x 0) (x 1) (to_x 0) ∷ i.Label 3 ∷ i.CatchEnd 0 ∷ i.Deallocate 1 ∷ i.Return ∷ []

abbrev pub exited : t.Tree → t.Tree
exited v = tuple (atom (codes "EXIT") ∷ v ∷ [])

abbrev pub Catches : Type 0
Catches =
    GivesIn (limited 1 0 9) catching (atom (codes "throw") ∷ int 1 ∷ []) (Returned (int 1))
    × GivesIn (limited 1 3 9) catching (atom (codes "exit") ∷ int 1 ∷ []) (Returned (exited (int 1)))
    × GivesIn (limited 1 2 9) catching (atom (codes "exit") ∷ int 1 ∷ []) (Ended HeapFull)
    × GivesIn (limited 1 6 9) catching (atom (codes "error") ∷ int 1 ∷ []) (Returned (exited (tuple (int 1 ∷ t.Nil ∷ []))))
    × GivesIn (limited 1 5 9) catching (atom (codes "error") ∷ int 1 ∷ []) (Ended HeapFull)
    × Gives (i.Allocate 1 1 ∷ i.Catch 0 3 ∷ i.GcBif (codes "div") 0 1 (num 1 ∷ x 0 ∷ []) (to_x 0) ∷ i.Label 3 ∷ i.CatchEnd 0 ∷ i.Deallocate 1 ∷ i.Return ∷ [])
    (int 0 ∷ []) (Returned (exited (tuple (atom (codes "badarith") ∷ t.Nil ∷ []))))
    × Gives (i.Allocate 1 1 ∷ i.Catch 0 3 ∷ i.Label 3 ∷ i.CatchEnd 0 ∷ i.Deallocate 1 ∷ i.Return ∷ []) (int 0 ∷ []) (Returned (int 0))
    × Gives (i.Allocate 1 1 ∷ i.Try 0 3 ∷ i.Label 3 ∷ i.CatchEnd 0 ∷ i.Deallocate 1 ∷ i.Return ∷ []) (int 0 ∷ []) (Ended Stuck)
    × Gives (i.Allocate 1 1 ∷ i.TryEnd 0 ∷ i.Deallocate 1 ∷ i.Return ∷ []) (int 0 ∷ []) (Ended Stuck)
