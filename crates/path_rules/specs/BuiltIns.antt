-- Which built-ins there are, and which may fail (docs/BEAM.md, Built-ins).
use Rattle.std.specs.Prelude.{ℕ, Bool, true, false, ◌&&◌, ◌||◌, Option, Some, None, is_none, unwrap_or, List, [], ◌∷◌, length, nat_eq, if◌then◌else◌}
use Rattle.beam_code.specs.declared.instr.Callee.{Callee}
use Rattle.beam_code.specs.declared.module.Module.{Module}
use Rattle.beam_code.specs.Function.{exported_number, is_given}
use Rattle.beam_code.specs.Gates.{waits}
use Rattle.beam_code.specs.Shape.{Shape, Computes, Calls, Raises, Target, Inside, Outside}
use Rattle.beam_code.specs.BuiltIns.{BuiltIn, Failure, NoFailure, built_ins, is_built_in, is_inline}

abbrev pub may_fail : Failure → Bool
may_fail NoFailure = false
may_fail _ = true

-- what is said of the first row that passes a test, if one passes
abbrev pub first_row : {R : Type 0} → (R → Bool) → (R → Bool) → List R → Option Bool
first_row test says [] = None
first_row test says (r ∷ rs) = if test r then Some (says r) else first_row test says rs

-- whether the first built-in that passes may fail
abbrev pub first_fails : (BuiltIn → Bool) → List BuiltIn → Option Bool
first_fails test bs = first_row test (λ b. may_fail b.failure) bs

-- of the built-in of these names and this arity; and of that which `bif` and `gc_bif` may name
unfoldable pub built_in_fails : List ℕ → List ℕ → ℕ → Option Bool
built_in_fails m f arity = first_fails (is_built_in m f arity) built_ins

unfoldable pub inline_fails : List ℕ → ℕ → Option Bool
inline_fails f arity = first_fails (is_inline f arity) built_ins

-- whether a call outside raises by itself, where it is said whether its callee is undefined
abbrev pub target_raises : Bool → Target → Bool
target_raises undefined (Inside label) = false
target_raises undefined (Outside c) = unwrap_or (built_in_fails c.owner c.name c.arity) undefined

-- the same of any item
abbrev pub raises_where : Bool → Shape → Bool
raises_where undefined (Computes name operands fail live to) = nat_eq fail 0 && unwrap_or (inline_fails name (length operands)) false
raises_where undefined (Calls target arity leaving) = waits leaving || target_raises undefined target
raises_where undefined (Raises reason) = true
raises_where undefined _ = false

-- whether a callee is no built-in's, but one of a module that is given and does not export it
abbrev pub is_undefined : List Module → Callee → Bool
is_undefined ms c = is_none (exported_number ms c.owner c.name c.arity) && is_given ms c.owner

abbrev pub target_callee : Target → Option Callee
target_callee (Inside label) = None
target_callee (Outside callee) = Some callee

-- the function of any module that an item calls
abbrev pub callee_of : Shape → Option Callee
callee_of (Calls target arity leaving) = target_callee target
callee_of _ = None
