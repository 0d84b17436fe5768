-- What items read and write, whether they go on, what they count: worked by hand (docs/BEAM.md, Instructions).
use Rattle.std.specs.Prelude.{ℕ, ◌+◌, ◌≡◌, max, pos, Bool, true, false, List, [], ◌∷◌, ◌++◌, filter, codes}
use Rattle.beam_code.specs.declared.instr.Callee.{Callee}
use Rattle.beam_code.specs.declared.instr.Instr.{Instr}
use Rattle.beam_code.specs.declared.instr.Instr.TheVariants as i
use Rattle.beam_code.specs.declared.instr.Place.{Place}
use Rattle.beam_code.specs.declared.instr.Place.TheVariants as place
use Rattle.beam_code.specs.Registers.{instr_xs, instr_ys}
use Rattle.beam_code.specs.Uses.{goes_on, reads, units, writes}
use Rattle.term_tree.specs.declared.term.Term.{Term}
use Rattle.term_tree.specs.declared.term.Term.TheVariants as term
use Rattle.beam_rows.specs.Control.{case, size_case}
use Rattle.beam_rows.specs.Exceptions.{plus}
use Rattle.beam_rows.specs.Hand.{callee, name}
use Rattle.beam_rows.specs.Small.{num, to_x, to_y, x, y}

-- the places that are looked at
abbrev pub places : List Place
places = to_x 0 ∷ to_x 1 ∷ to_x 2 ∷ to_x 3 ∷ to_y 0 ∷ to_y 1 ∷ to_y 2 ∷ to_y 3 ∷ []

-- one more than the greatest index of an x register among places, or 0
abbrev pub xs_among : List Place → ℕ
xs_among [] = 0
xs_among (place.X n ∷ ps) = max (n + 1) (xs_among ps)
xs_among (place.Y n ∷ ps) = xs_among ps

-- of the places, an item reads these and writes those, and so many x registers have homes; whether it goes on; its units
abbrev pub Uses : Instr → List Place → List Place → Bool → ℕ → Type 0
Uses instr read written on count =
    (filter (reads instr) places ≡ read)
    × (filter (writes instr) places ≡ written)
    × (goes_on instr ≡ on)
    × (units instr ≡ count)
    × (instr_xs instr ≡ xs_among (read ++ written))

abbrev pub about : Term
about = term.Int (pos 7)

abbrev pub raiser : List ℕ → ℕ → Callee
raiser f arity = callee (codes "erlang") f arity

-- nothing
abbrev pub Nothing : Type 0
Nothing =
    Uses (i.Label 3) [] [] true 1
    × Uses (i.Line about) [] [] true 1
    × Uses (i.Comment about) [] [] true 1

-- moves, swaps, cells
abbrev pub Moves : Type 0
Moves =
    Uses (i.Move (x 1) (to_y 2)) (to_x 1 ∷ []) (to_y 2 ∷ []) true 1
    × Uses (i.Move (num 1) (to_x 3)) [] (to_x 3 ∷ []) true 1
    × Uses (i.GetList (y 1) (to_x 2) (to_x 0)) (to_y 1 ∷ []) (to_x 0 ∷ to_x 2 ∷ []) true 1
    × Uses (i.GetHd (x 2) (to_y 0)) (to_x 2 ∷ []) (to_y 0 ∷ []) true 1
    × Uses (i.GetTl (x 2) (to_x 2)) (to_x 2 ∷ []) (to_x 2 ∷ []) true 1
    × Uses (i.GetTupleElement (x 0) 3 (to_x 1)) (to_x 0 ∷ []) (to_x 1 ∷ []) true 1
    × Uses (i.Swap (to_x 1) (to_y 0)) (to_x 1 ∷ to_y 0 ∷ []) (to_x 1 ∷ to_y 0 ∷ []) true 1
    × Uses (i.PutList (x 3) (y 1) (to_x 2)) (to_x 3 ∷ to_y 1 ∷ []) (to_x 2 ∷ []) true 1
    × Uses (i.PutTuple2 (to_x 1) (x 0 ∷ num 5 ∷ y 3 ∷ [])) (to_x 0 ∷ to_y 3 ∷ []) (to_x 1 ∷ []) true 4

-- tests, selections and jumps
abbrev pub Choices : Type 0
Choices =
    Uses (i.Test (codes "is_lt") 3 (x 2 ∷ y 1 ∷ [])) (to_x 2 ∷ to_y 1 ∷ []) [] true 1
    × Uses (i.SelectVal (x 2) 3 (case (num 7) 4 ∷ case (num 8) 5 ∷ [])) (to_x 2 ∷ []) [] false 5
    × Uses (i.SelectTupleArity (y 2) 3 (size_case 0 4 ∷ [])) (to_y 2 ∷ []) [] false 3
    × Uses (i.Jump 3) [] [] false 1

-- the stack
abbrev pub Stacks : Type 0
Stacks =
    Uses (i.Allocate 2 1) [] (to_y 0 ∷ to_y 1 ∷ []) true 1
    × Uses (i.AllocateZero 3 1) [] (to_y 0 ∷ to_y 1 ∷ to_y 2 ∷ []) true 1
    × Uses (i.AllocateHeap 1 3 2) [] (to_y 0 ∷ []) true 1
    × Uses (i.AllocateHeapZero 2 1 3) [] (to_y 0 ∷ to_y 1 ∷ []) true 1
    × Uses (i.TestHeap 3 2) [] [] true 1
    × Uses (i.Init 1) [] (to_y 1 ∷ []) true 1
    × Uses (i.Kill 2) [] (to_y 2 ∷ []) true 1
    × Uses (i.Trim 1 2) [] [] true 1
    × Uses (i.Deallocate 3) [] (to_y 0 ∷ to_y 1 ∷ to_y 2 ∷ []) true 1

-- marks
abbrev pub Marks : Type 0
Marks =
    Uses (i.Try 1 3) [] (to_y 1 ∷ []) true 1
    × Uses (i.Catch 2 3) [] (to_y 2 ∷ []) true 1
    × Uses (i.TryEnd 1) [] (to_y 1 ∷ []) true 1
    × Uses (i.TryCase 2) [] (to_y 2 ∷ []) true 1
    × Uses (i.CatchEnd 2) (to_x 0 ∷ []) (to_x 0 ∷ to_y 2 ∷ []) true 1

-- built-ins, calls and returns: those that only raise do not come back
abbrev pub Calls : Type 0
Calls =
    Uses (i.Bif (codes "hd") 0 (x 2 ∷ []) (to_y 1)) (to_x 2 ∷ []) (to_y 1 ∷ []) true 1
    × Uses (i.GcBif (codes "+") 3 2 (x 1 ∷ y 0 ∷ []) (to_x 3)) (to_x 1 ∷ to_y 0 ∷ []) (to_x 3 ∷ []) true 1
    × Uses (i.Call 2 5) (to_x 0 ∷ to_x 1 ∷ []) (to_x 0 ∷ []) true 3
    × Uses (i.CallLast 3 5 1) (to_x 0 ∷ to_x 1 ∷ to_x 2 ∷ []) (to_x 0 ∷ []) false 4
    × Uses (i.CallOnly 0 5) [] (to_x 0 ∷ []) false 1
    × Uses (i.CallExt 1 (callee name (codes "f") 1)) (to_x 0 ∷ []) (to_x 0 ∷ []) true 2
    × Uses (i.CallExtLast 2 plus 1) (to_x 0 ∷ to_x 1 ∷ []) (to_x 0 ∷ []) false 3
    × Uses (i.CallExtOnly 2 plus) (to_x 0 ∷ to_x 1 ∷ []) (to_x 0 ∷ []) false 3
    × Uses (i.CallExt 2 plus) (to_x 0 ∷ to_x 1 ∷ []) (to_x 0 ∷ []) true 3
    × Uses (i.CallExt 1 (raiser (codes "throw") 1)) (to_x 0 ∷ []) (to_x 0 ∷ []) false 2
    × Uses (i.CallExt 1 (raiser (codes "exit") 1)) (to_x 0 ∷ []) (to_x 0 ∷ []) false 2
    × Uses (i.CallExt 1 (raiser (codes "error") 1)) (to_x 0 ∷ []) (to_x 0 ∷ []) false 2
    × Uses (i.CallExt 2 (raiser (codes "error") 2)) (to_x 0 ∷ to_x 1 ∷ []) (to_x 0 ∷ []) false 3
    × Uses (i.CallExt 2 (raiser (codes "exit") 2)) (to_x 0 ∷ to_x 1 ∷ []) (to_x 0 ∷ []) true 3
    × Uses (i.CallExt 3 (raiser (codes "error") 3)) (to_x 0 ∷ to_x 1 ∷ to_x 2 ∷ []) (to_x 0 ∷ []) true 4
    × Uses (i.CallExt 1 (callee name (codes "throw") 1)) (to_x 0 ∷ []) (to_x 0 ∷ []) true 2
    × Uses i.Return (to_x 0 ∷ []) [] false 1

-- exceptions: the place of a `raise` is not written
abbrev pub Exceptions : Type 0
Exceptions =
    Uses (i.FuncInfo name (codes "f") 2) [] [] false 3
    × Uses (i.Badmatch (x 1)) (to_x 1 ∷ []) [] false 1
    × Uses (i.CaseEnd (y 0)) (to_y 0 ∷ []) [] false 1
    × Uses (i.TryCaseEnd (x 3)) (to_x 3 ∷ []) [] false 1
    × Uses i.IfEnd [] [] false 1
    × Uses (i.Raise (x 2) (y 1) (to_x 3)) (to_x 2 ∷ to_y 1 ∷ []) [] false 1
    × Uses (i.BifRaise (y 0) (x 1) (to_x 3)) (to_x 1 ∷ to_y 0 ∷ []) [] false 1
    × Uses i.RawRaise (to_x 0 ∷ to_x 1 ∷ to_x 2 ∷ []) (to_x 0 ∷ []) true 1

-- the y registers of a frame are those that are allocated
abbrev pub Allocated : Type 0
Allocated =
    (instr_ys (i.Allocate 2 1) ≡ 2)
    × (instr_ys (i.AllocateZero 3 1) ≡ 3)
    × (instr_ys (i.AllocateHeap 4 9 2) ≡ 4)
    × (instr_ys (i.AllocateHeapZero 5 1 9) ≡ 5)
    × (instr_ys (i.TestHeap 3 2) ≡ 0)
    × (instr_ys (i.Trim 1 2) ≡ 0)
    × (instr_ys (i.Move (x 1) (to_y 9)) ≡ 0)
