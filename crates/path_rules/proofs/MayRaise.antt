-- Which built-ins may raise.
use Rattle.std.proofs.Common.{◌≡◌, ℕ, ◌+◌, Bool, true, false, ◌&&◌, ◌||◌, Option, Some, None, List, [], refl, ap, sym, ◌∙◌, length, ◌∷◌, is_none, nat_eq, if◌then◌else◌, arith}
use Rattle.beam_code.specs.declared.gates.TheConstants.{GATE_UNDEF}
use Rattle.std.specs.Prelude.{option_map, slice_get, unwrap_or}
use Rattle.beam_code.specs.declared.instr.Callee.{Callee}
use Rattle.beam_code.specs.declared.module.Module.{Module}
use Rattle.beam_code.specs.BuiltIns.{BuiltIn, built_ins, built_in_number, inline_number, is_built_in, is_inline}
use Rattle.beam_code.specs.Function.{exported_number, is_given}
use Rattle.beam_code.specs.declared.instr.Operand.{Operand}
use Rattle.beam_code.specs.Gates.{gates_of_built_in, gates_of_callee, gates_of_function, gates_of_inline, gates_of_target, has_some, may_raise, waits}
use Rattle.beam_code.specs.Shape.{Shape, Passes, Moves, Swaps, Conses, Tuples, Tests, Selects, Jumps, Stacks, Tags, Computes, Calls, Returns, Raises, Target, Inside, Outside}
use Rattle.path_rules.specs.BuiltIns.{built_in_fails, callee_of, inline_fails, is_undefined, raises_where, target_callee, target_raises}
use Rattle.path_rules.proofs.Failing.{FromRow, gates_first, row_has_gate}

from_start : (bs : List BuiltIn) → FromRow bs 0 bs
unfolding FromRow
from_start bs k = (let e : 0 + k ≡ k = omega arith in ap (λ n. slice_get bs n) e)

gates_inline : (fail : ℕ) (o : Option ℕ) → has_some (gates_of_inline fail o) ≡ (nat_eq fail 0 && unwrap_or (option_map (row_has_gate built_ins) o) false)
gates_inline fail None = by (nat_eq fail 0)
  where
    by : (b : Bool) → false ≡ (b && false)
    by true = refl
    by false = refl
gates_inline fail (Some k) = by (nat_eq fail 0)
  where
    by : (b : Bool) → has_some (if b then gates_of_built_in k else []) ≡ (b && row_has_gate built_ins k)
    by true = refl
    by false = refl

pub inline_raises : (fail : ℕ) (f : List ℕ) (n : ℕ) → has_some (gates_of_inline fail (inline_number f n)) ≡ (nat_eq fail 0 && unwrap_or (inline_fails f n) false)
unfolding inline_fails
inline_raises fail f n =
    gates_inline fail (inline_number f n)
    ∙ ap (λ (o : Option Bool). nat_eq fail 0 && unwrap_or o false) (gates_first built_ins built_ins 0 (is_inline f n) (from_start built_ins))

-- a callee that is no built-in raises where its module is given and it is not exported
function_raises : (ms : List Module) (c : Callee) (o : Option ℕ) → has_some (gates_of_function ms c o) ≡ (is_none o && is_given ms c.owner)
function_raises ms c (Some callee) = refl
function_raises ms c None = by (is_given ms c.owner)
  where
    by : (b : Bool) → has_some (if b then GATE_UNDEF ∷ [] else []) ≡ b
    by true = refl
    by false = refl

gates_called : (ms : List Module) (c : Callee) (o : Option ℕ) →
    has_some (gates_of_callee ms c o) ≡ unwrap_or (option_map (row_has_gate built_ins) o) (is_none (exported_number ms c.owner c.name c.arity) && is_given ms c.owner)
gates_called ms c (Some k) = refl
gates_called ms c None = function_raises ms c (exported_number ms c.owner c.name c.arity)

pub callee_raises : (ms : List Module) (c : Callee) →
    has_some (gates_of_callee ms c (built_in_number c.owner c.name c.arity))
    ≡ unwrap_or (built_in_fails c.owner c.name c.arity) (is_none (exported_number ms c.owner c.name c.arity) && is_given ms c.owner)
unfolding built_in_fails
callee_raises ms c =
    gates_called ms c (built_in_number c.owner c.name c.arity)
    ∙ ap (λ (o : Option Bool). unwrap_or o (is_none (exported_number ms c.owner c.name c.arity) && is_given ms c.owner)) (gates_first built_ins built_ins 0 (is_built_in c.owner c.name c.arity) (from_start built_ins))

inline_same : (ms : List Module) (name : List ℕ) (operands : List Operand) (fail : ℕ) →
    (nat_eq fail 0 && unwrap_or (inline_fails name (length operands)) false) ≡ has_some (gates_of_inline fail (inline_number name (length operands)))
inline_same ms name operands fail = sym (inline_raises fail name (length operands))

target_same : (ms : List Module) (undefined : Bool) (target : Target) → ((c : Callee) → target_callee target ≡ Some c → undefined ≡ is_undefined ms c) →
    target_raises undefined target ≡ has_some (gates_of_target ms target)
target_same ms undefined (Inside label) is = refl
target_same ms undefined (Outside c) is = ap (λ u. unwrap_or (built_in_fails c.owner c.name c.arity) u) (is c refl) ∙ sym (callee_raises ms c)

pub raises_same : (ms : List Module) (undefined : Bool) (shape : Shape) → ((c : Callee) → callee_of shape ≡ Some c → undefined ≡ is_undefined ms c) →
    raises_where undefined shape ≡ may_raise ms shape
raises_same ms undefined (Computes name operands fail live to) is = inline_same ms name operands fail
raises_same ms undefined (Calls target arity leaving) is = ap (λ b. waits leaving || b) (target_same ms undefined target is)
raises_same ms undefined (Raises reason) is = refl
raises_same ms undefined Passes is = refl
raises_same ms undefined (Moves from parts) is = refl
raises_same ms undefined (Swaps a b) is = refl
raises_same ms undefined (Conses head tail to) is = refl
raises_same ms undefined (Tuples parts to) is = refl
raises_same ms undefined (Tests name operands label) is = refl
raises_same ms undefined (Selects from branches other) is = refl
raises_same ms undefined (Jumps label) is = refl
raises_same ms undefined (Stacks op) is = refl
raises_same ms undefined (Tags op) is = refl
raises_same ms undefined Returns is = refl
