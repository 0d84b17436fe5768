-- Which items may raise, and through which gates of the machine (docs/BEAM.md, Instructions).
use Rattle.std.specs.Prelude.{ℕ, ◌+◌, ◌||◌, Bool, true, false, Option, Some, None, List, [], ◌∷◌, length, slice_get, nat_eq, if◌then◌else◌}
use Rattle.std.specs.List.{list_any}
use Rattle.beam_code.specs.declared.gates.TheConstants.{GATE_UNDEF, GATE_FUNCTION_CLAUSE, GATE_BADMATCH, GATE_CASE_CLAUSE, GATE_TRY_CLAUSE, GATE_IF_CLAUSE, GATE_RAISE, GATE_RAW_RAISE, GATE_BADARITH, GATE_BADARG, GATE_BUILT_INS}
use Rattle.beam_code.specs.declared.instr.Callee.{Callee}
use Rattle.beam_code.specs.declared.module.Module.{Module}
use Rattle.beam_code.specs.BuiltIns.{BuiltIn, Failure, NoFailure, Badarith, Badarg, First, built_ins, built_in_number, inline_number}
use Rattle.beam_code.specs.Function.{exported_number, is_given}
use Rattle.beam_code.specs.Shape.{Shape, Computes, Calls, Raises, Target, Inside, Outside, Leaving, Stays, Reason, Clause, Match, InCase, InTry, InIf, Given, Raw}

-- the gate of a built-in by its number
abbrev pub built_in_gate : ℕ → ℕ
built_in_gate k = GATE_BUILT_INS + k

-- the gates through which a failure of built-in k may raise: its own, and that of its error
abbrev pub failure_gates : ℕ → Failure → List ℕ
failure_gates k NoFailure = []
failure_gates k Badarith = GATE_BADARITH ∷ built_in_gate k ∷ []
failure_gates k Badarg = GATE_BADARG ∷ built_in_gate k ∷ []
failure_gates k (First class) = built_in_gate k ∷ []

abbrev pub gates_of_row : ℕ → Option BuiltIn → List ℕ
gates_of_row k None = []
gates_of_row k (Some b) = failure_gates k b.failure

abbrev pub gates_of_built_in : ℕ → List ℕ
gates_of_built_in k = gates_of_row k (slice_get built_ins k)

abbrev pub reason_gate : Reason → ℕ
reason_gate (Clause m f arity) = GATE_FUNCTION_CLAUSE
reason_gate (Match o) = GATE_BADMATCH
reason_gate (InCase o) = GATE_CASE_CLAUSE
reason_gate (InTry o) = GATE_TRY_CLAUSE
reason_gate InIf = GATE_IF_CLAUSE
reason_gate (Given class reason to) = GATE_RAISE
reason_gate Raw = GATE_RAW_RAISE

-- a function of a given module that is not exported is undefined
abbrev pub gates_of_function : List Module → Callee → Option ℕ → List ℕ
gates_of_function ms c (Some callee) = []
gates_of_function ms c None = if is_given ms c.owner then GATE_UNDEF ∷ [] else []

abbrev pub gates_of_callee : List Module → Callee → Option ℕ → List ℕ
gates_of_callee ms c (Some k) = gates_of_built_in k
gates_of_callee ms c None = gates_of_function ms c (exported_number ms c.owner c.name c.arity)

abbrev pub gates_of_target : List Module → Target → List ℕ
gates_of_target ms (Inside label) = []
gates_of_target ms (Outside c) = gates_of_callee ms c (built_in_number c.owner c.name c.arity)

-- a built-in with a fail label does not raise
abbrev pub gates_of_inline : ℕ → Option ℕ → List ℕ
gates_of_inline fail None = []
gates_of_inline fail (Some k) = if nat_eq fail 0 then gates_of_built_in k else []

-- the gates through which the row of an item may raise, in these modules
abbrev pub raise_gates : List Module → Shape → List ℕ
raise_gates ms (Computes name operands fail live to) = gates_of_inline fail (inline_number name (length operands))
raise_gates ms (Calls target arity leaving) = gates_of_target ms target
raise_gates ms (Raises reason) = reason_gate reason ∷ []
raise_gates ms other = []

abbrev pub raises_through : List Module → Shape → ℕ → Bool
raises_through ms shape gate = list_any (nat_eq gate) (raise_gates ms shape)

-- what a function raises comes back to the item that called it and waits
abbrev pub waits : Leaving → Bool
waits Stays = true
waits other = false

abbrev pub is_call_that_waits : Shape → Bool
is_call_that_waits (Calls target arity leaving) = waits leaving
is_call_that_waits other = false

abbrev pub has_some : List ℕ → Bool
has_some [] = false
has_some (n ∷ ns) = true

-- whether an item may raise
abbrev pub may_raise : List Module → Shape → Bool
may_raise ms shape = is_call_that_waits shape || has_some (raise_gates ms shape)
