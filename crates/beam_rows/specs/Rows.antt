-- Rows worked by hand, one for each kind of event (docs/BEAM.md, Rows and Frames).
use Rattle.std.specs.Prelude.{ℕ, ◌≡◌, pos, Option, Some, List, [], ◌∷◌, codes}
use Rattle.small_step.specs.Stage.{Stage, Still, Done}
use Rattle.beam_code.specs.declared.call.RaiseClass.TheVariants.{Error, Exit, Throw}
use Rattle.beam_code.specs.declared.instr.Operand.TheVariants.{X, Int}
use Rattle.beam_code.specs.declared.instr.Place.TheVariants as place
use Rattle.beam_code.specs.Frame.{happens, state_of}
use Rattle.beam_code.specs.Row.{local_step, row}
use Rattle.beam_code.specs.Shape as s
use Rattle.beam_code.specs.State.{Local, Frame, Slot, Undefined, Tag, OfTry, OfCatch, Event, Calls, TailCalls, Returns, Raises, Ends, Bignum, HeapFull, StackFull, OutOfReductions, BadOperand, NotProvided, Stuck, Returned, Raised, Ended, only}
use Rattle.term_tree.specs.Tree as t
use Rattle.beam_rows.specs.Hand.{callee, modules, placed, limits, int, atom, at, past, no_stack, name}

abbrev pub does : Local → s.Shape → Stage Local Event
does l shape = row modules limits placed l shape

abbrev pub outside : List ℕ → List ℕ → ℕ → s.Target
outside m f arity = s.Outside (callee m f arity)

abbrev pub erlang : List ℕ → ℕ → s.Target
erlang f arity = outside (codes "erlang") f arity

-- calls inside the module: the callee by its entry label and arity, with its arguments alone; the stack goes before a tail call
abbrev pub CallsInside : Type 0
CallsInside =
    (does (at (int 1 ∷ int 2 ∷ []) no_stack 0) (s.Calls (s.Inside 2) 1 s.Stays) ≡ Done (Calls 0 (int 1 ∷ []) (at (int 1 ∷ int 2 ∷ []) no_stack 0)))
    × (does (at (int 1 ∷ []) (Some (Undefined ∷ [])) 0) (s.Calls (s.Inside 2) 1 (s.Drops 1)) ≡ Done (TailCalls 0 (int 1 ∷ []) (at (int 1 ∷ []) no_stack 0)))
    × (does (at (int 1 ∷ []) no_stack 0) (s.Calls (s.Inside 4) 0 s.HasNone) ≡ Done (TailCalls 1 [] (at (int 1 ∷ []) no_stack 0)))
    × (does (at (int 1 ∷ []) no_stack 0) (s.Calls (s.Inside 2) 0 s.Stays) ≡ Done (Ends Stuck (at (int 1 ∷ []) no_stack 0)))
    × (does (at [] no_stack 0) (s.Calls (s.Inside 2) 1 s.Stays) ≡ Done (Ends Stuck (at [] no_stack 0)))

-- calls outside: a built-in, an exported function, one that is not exported, one of no module that is given
abbrev pub CallsOutside : Type 0
CallsOutside =
    (does (at (int 1 ∷ int 2 ∷ []) no_stack 0) (s.Calls (erlang (codes "+") 2) 2 s.Stays) ≡ Still (past (int 3 ∷ []) no_stack 0))
    × (does (at (int 1 ∷ int 2 ∷ []) no_stack 0) (s.Calls (erlang (codes "+") 2) 2 s.HasNone) ≡ Done (Returns (int 3) (at (int 1 ∷ int 2 ∷ []) no_stack 0)))
    × (does (at (int 1 ∷ []) no_stack 0) (s.Calls (outside name (codes "f") 1) 1 s.Stays) ≡ Done (Calls 0 (int 1 ∷ []) (at (int 1 ∷ []) no_stack 0)))
    × (does (at [] no_stack 0) (s.Calls (outside name (codes "g") 0) 0 s.Stays) ≡ Done (Raises Error (atom (codes "undef")) (at [] no_stack 0)))
    × (does (at [] no_stack 0) (s.Calls (outside (codes "n") (codes "g") 0) 0 s.Stays) ≡ Done (Ends (NotProvided (codes "n") (codes "g") 0) (at [] no_stack 0)))
    × (does (at (int 1 ∷ []) no_stack 0) (s.Calls (erlang (codes "throw") 1) 1 s.HasNone) ≡ Done (Raises Throw (int 1) (at (int 1 ∷ []) no_stack 0)))

-- the heap: a test with its last word and with one less; a built-in's words; the words of a reason
abbrev pub two : t.Tree
two = t.Cons (int 1) (t.Cons (int 2) t.Nil)

abbrev pub AsksTheHeap : Type 0
AsksTheHeap =
    (does (at (int 1 ∷ int 2 ∷ []) no_stack 60) (s.Stacks (s.Asks 40 1)) ≡ Still (past (int 1 ∷ []) no_stack 60))
    × (does (at (int 1 ∷ []) no_stack 60) (s.Stacks (s.Asks 41 1)) ≡ Done (Ends HeapFull (at (int 1 ∷ []) no_stack 60)))
    × (does (at (two ∷ t.Nil ∷ []) no_stack 96) (s.Calls (outside (codes "lists") (codes "reverse") 2) 2 s.Stays)
    ≡ Still (past (t.Cons (int 2) (t.Cons (int 1) t.Nil) ∷ []) no_stack 100))
    × (does (at (two ∷ t.Nil ∷ []) no_stack 97) (s.Calls (outside (codes "lists") (codes "reverse") 2) 2 s.Stays)
    ≡ Done (Ends HeapFull (at (two ∷ t.Nil ∷ []) no_stack 97)))
    × (does (at (int 9 ∷ []) no_stack 97) (s.Raises (s.Match (X 0)))
    ≡ Done (Raises Error (t.Tuple (t.More (atom (codes "badmatch")) (t.More (int 9) t.No))) (at (int 9 ∷ []) no_stack 100)))
    × (does (at (int 9 ∷ []) no_stack 98) (s.Raises (s.Match (X 0))) ≡ Done (Ends HeapFull (at (int 9 ∷ []) no_stack 98)))

-- a return and a raise; the ends, each where it comes from
abbrev pub ReturnsRaisesAndEnds : Type 0
ReturnsRaisesAndEnds =
    (does (at (int 1 ∷ []) no_stack 0) s.Returns ≡ Done (Returns (int 1) (at (int 1 ∷ []) no_stack 0)))
    × (does (at [] no_stack 0) (s.Raises s.InIf) ≡ Done (Raises Error (atom (codes "if_clause")) (at [] no_stack 0)))
    × (does (at (atom (codes "exit") ∷ int 5 ∷ []) no_stack 0) (s.Raises (s.Given (X 0) (X 1) (place.X 0)))
    ≡ Done (Raises Exit (int 5) (at (atom (codes "exit") ∷ int 5 ∷ []) no_stack 0)))
    × (does (at (int 134217727 ∷ []) no_stack 0) (s.Computes (codes "+") (X 0 ∷ Int (pos 1) ∷ []) 9 (Some 1) (place.X 0))
    ≡ Done (Ends Bignum (at (int 134217727 ∷ []) no_stack 0)))
    × (does (at (int 1 ∷ []) no_stack 0) (s.Moves (X 0) ((s.Head, place.X 0) ∷ [])) ≡ Done (Ends BadOperand (at (int 1 ∷ []) no_stack 0)))
    × (does (at [] no_stack 0) (s.Moves (X 0) ((s.Whole, place.X 1) ∷ [])) ≡ Done (Ends Stuck (at [] no_stack 0)))

-- at the entry: no reduction, the frame's three words and one less, and a reduction taken
abbrev pub begin : ℕ → Local
begin left = record { item = 2; xs = only (int 1 ∷ []); ys = no_stack; used = 0; left = left }

abbrev pub Enters : Type 0
Enters =
    (local_step modules limits 50 placed (begin 0) ≡ Done (Ends OutOfReductions (begin 0)))
    × (local_step modules limits 1 placed (begin 5) ≡ Done (Ends StackFull (begin 5)))
    × (local_step modules limits 2 placed (begin 5) ≡ Still (at (int 1 ∷ []) no_stack 0))
    × (local_step modules limits 2 placed (at (int 1 ∷ []) no_stack 0) ≡ Done (Returns (int 1) (at (int 1 ∷ []) no_stack 0)))

-- what events do: a call waits, and its callee has its arguments alone; a return goes on behind it
abbrev pub waiting : Option (List Slot) → Frame
waiting ys = record { function = 1; item = 7; ys = ys }

abbrev pub EventsMoveFrames : Type 0
EventsMoveFrames =
    (happens modules limits 1 [] (Calls 0 (int 1 ∷ []) (at (int 1 ∷ int 2 ∷ []) no_stack 9))
    ≡ Still (state_of 0 (record { function = 1; item = 3; ys = no_stack } ∷ []) (record { item = 2; xs = only (int 1 ∷ []); ys = no_stack; used = 9; left = 4 })))
    × (happens modules limits 1 [] (TailCalls 0 (int 1 ∷ []) (at (int 1 ∷ int 2 ∷ []) no_stack 9))
    ≡ Still (state_of 0 [] (record { item = 2; xs = only (int 1 ∷ []); ys = no_stack; used = 9; left = 4 })))
    × (happens modules limits 0 (waiting (Some []) ∷ []) (Returns (int 3) (at [] no_stack 9))
    ≡ Still (state_of 1 [] (record { item = 8; xs = only (int 3 ∷ []); ys = Some []; used = 9; left = 4 })))
    × (happens modules limits 0 [] (Returns (int 3) (at [] no_stack 9)) ≡ Done (record { outcome = Returned (int 3); state = state_of 0 [] (at [] no_stack 9) }))
    × (happens modules limits 0 [] (Ends Bignum (at [] no_stack 9)) ≡ Done (record { outcome = Ended Bignum; state = state_of 0 [] (at [] no_stack 9) }))

-- what a raise does: a frame without a mark is dropped; a `try`; a `catch` of each class, with its last word and one less
abbrev pub tried : Option (List Slot)
tried = Some (Undefined ∷ Tag OfTry 4 ∷ [])

abbrev pub caught : Option (List Slot)
caught = Some (Tag OfCatch 4 ∷ Tag OfTry 3 ∷ [])

abbrev pub back : List t.Tree → Option (List Slot) → ℕ → Local
back xs ys used = record { item = 2; xs = only xs; ys = ys; used = used; left = 4 }

abbrev pub pair : t.Tree → t.Tree → t.Tree
pair a b = t.Tuple (t.More a (t.More b t.No))

abbrev pub RaisesFindHandlers : Type 0
RaisesFindHandlers =
    (happens modules limits 0 (waiting no_stack ∷ waiting tried ∷ waiting no_stack ∷ []) (Raises Exit (int 3) (at [] no_stack 9))
    ≡ Still (state_of 1 (waiting no_stack ∷ []) (back (atom (codes "exit") ∷ int 3 ∷ atom (codes "exit") ∷ []) tried 9)))
    × (happens modules limits 0 (waiting caught ∷ []) (Raises Throw (int 3) (at [] no_stack 100)) ≡ Still (state_of 1 [] (back (int 3 ∷ []) caught 100)))
    × (happens modules limits 0 (waiting caught ∷ []) (Raises Exit (int 3) (at [] no_stack 97))
    ≡ Still (state_of 1 [] (back (pair (atom (codes "EXIT")) (int 3) ∷ []) caught 100)))
    × (happens modules limits 0 (waiting caught ∷ []) (Raises Error (int 3) (at [] no_stack 94))
    ≡ Still (state_of 1 [] (back (pair (atom (codes "EXIT")) (pair (int 3) t.Nil) ∷ []) caught 100)))
    × (happens modules limits 0 (waiting caught ∷ []) (Raises Error (int 3) (at [] no_stack 95))
    ≡ Done (record { outcome = Ended HeapFull; state = state_of 1 [] (record { item = 7; xs = only []; ys = caught; used = 95; left = 4 }) }))
    × (happens modules limits 0 (waiting no_stack ∷ []) (Raises Throw (int 3) (at [] no_stack 9))
    ≡ Done (record { outcome = Raised Throw (int 3); state = state_of 0 (waiting no_stack ∷ []) (at [] no_stack 9) }))
