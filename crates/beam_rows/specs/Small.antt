-- Small modules whose meaning is worked by hand (docs/BEAM.md, Meaning).
use Rattle.std.specs.Prelude.{ℕ, zero, suc, ◌+◌, ◌≡◌, pos, negsuc, Option, Some, None, List, [], ◌∷◌, length, map, codes}
use Rattle.small_step.specs.Stage.{Stage, Still, Done}
use Rattle.beam_code.specs.declared.call.Limits.{Limits}
use Rattle.beam_code.specs.declared.call.RaiseClass.TheVariants.{Error}
use Rattle.beam_code.specs.declared.instr.Instr.{Instr}
use Rattle.beam_code.specs.declared.instr.Instr.TheVariants as i
use Rattle.beam_code.specs.declared.instr.Operand.{Operand}
use Rattle.beam_code.specs.declared.instr.Operand.TheVariants as o
use Rattle.beam_code.specs.declared.instr.Place.{Place}
use Rattle.beam_code.specs.declared.instr.Place.TheVariants as place
use Rattle.beam_code.specs.declared.module.Function.{Function}
use Rattle.beam_code.specs.declared.module.Module.{Module}
use Rattle.beam_code.specs.Meaning.{meaning}
use Rattle.beam_code.specs.State.{BeamState, Finish, Outcome, Returned, Raised, Ended, Bignum, HeapFull}
use Rattle.term_tree.specs.Tree as t
use Rattle.beam_rows.specs.Hand.{atom, callee, function, item, name}

abbrev pub outcome_in : Stage BeamState Finish → Option Outcome
outcome_in (Still s) = None
outcome_in (Done f) = Some f.outcome

-- the meaning of a call of the first function
abbrev pub Means : List Module → Limits → List t.Tree → Outcome → Type 0
Means ms limits args outcome = outcome_in (meaning ms limits 0 args) ≡ Some outcome

abbrev pub limited : ℕ → ℕ → ℕ → Limits
limited reductions heap stack = record { reductions = reductions; heap = heap; stack = stack }

abbrev pub plenty : Limits
plenty = limited 50 1000 1000

-- a module m that exports its first function f
abbrev pub program : ℕ → List Function → List Module
program arity functions = record { name = name; exports = (codes "f", arity) ∷ []; functions = functions; text = [] } ∷ []

-- m:f/n with the labels 1 and 2, and these items behind its entry
abbrev pub main : ℕ → List Instr → Function
main arity instrs = function name (codes "f") arity 1 2 (map item instrs)

-- what that function alone gives
abbrev pub GivesIn : Limits → List Instr → List t.Tree → Outcome → Type 0
GivesIn limits instrs args outcome = Means (program (length args) (main (length args) instrs ∷ [])) limits args outcome

abbrev pub Gives : List Instr → List t.Tree → Outcome → Type 0
Gives instrs args outcome = GivesIn plenty instrs args outcome

-- operands and places

abbrev pub x : ℕ → Operand
x n = o.X n

abbrev pub y : ℕ → Operand
y n = o.Y n

abbrev pub num : ℕ → Operand
num n = o.Int (pos n)

abbrev pub named : List ℕ → Operand
named a = o.Atom a

abbrev pub to_x : ℕ → Place
to_x n = place.X n

abbrev pub to_y : ℕ → Place
to_y n = place.Y n

-- the first so many x registers
abbrev pub xs_from : ℕ → ℕ → List Operand
xs_from at zero = []
xs_from at (suc n) = o.X at ∷ xs_from (at + 1) n

-- terms

abbrev pub minus : ℕ → t.Tree
minus n = t.Int (negsuc n)

abbrev pub list : List t.Tree → t.Tree
list ts = t.conses ts t.Nil

abbrev pub tuple : List t.Tree → t.Tree
tuple ts = t.Tuple (t.trees_of ts)

abbrev pub yes : t.Tree
yes = atom (codes "true")

abbrev pub nay : t.Tree
nay = atom (codes "false")

-- a built-in of all arguments, by `gc_bif` and then `return`; and by a tail call of its names
abbrev pub ComputesTo : List ℕ → List t.Tree → Outcome → Type 0
ComputesTo f args outcome = Gives (i.GcBif f 0 (length args) (xs_from 0 (length args)) (to_x 0) ∷ i.Return ∷ []) args outcome

abbrev pub Computes : List ℕ → List t.Tree → t.Tree → Type 0
Computes f args v = ComputesTo f args (Returned v)

abbrev pub Refuses : List ℕ → List t.Tree → List ℕ → Type 0
Refuses f args reason = ComputesTo f args (Raised Error (atom reason))

abbrev pub IsTooWide : List ℕ → List t.Tree → Type 0
IsTooWide f args = ComputesTo f args (Ended Bignum)

abbrev pub CallsIn : Limits → List ℕ → List ℕ → List t.Tree → Outcome → Type 0
CallsIn limits m f args outcome = GivesIn limits (i.CallExtOnly (length args) (callee m f (length args)) ∷ []) args outcome

abbrev pub CallsTo : List ℕ → List ℕ → List t.Tree → Outcome → Type 0
CallsTo m f args outcome = CallsIn plenty m f args outcome

abbrev pub Answers : List ℕ → List t.Tree → t.Tree → Type 0
Answers f args v = CallsTo (codes "erlang") f args (Returned v)

abbrev pub Fails : List ℕ → List t.Tree → List ℕ → Type 0
Fails f args reason = CallsTo (codes "erlang") f args (Raised Error (atom reason))

-- a value that takes the heap's last word, and with so many words, one less, is not made
abbrev pub Fills : List ℕ → List t.Tree → ℕ → t.Tree → Type 0
Fills f args less v =
    CallsIn (limited 1 (less + 1) 9) (codes "erlang") f args (Returned v) × CallsIn (limited 1 less 9) (codes "erlang") f args (Ended HeapFull)
