-- The gates that items raise through, worked by hand (docs/BEAM.md, Instructions and Built-ins; docs/MACHINE.md, Gates).
use Rattle.std.specs.Prelude.{ℕ, ◌≡◌, Bool, true, false, ◌&&◌, List, [], ◌∷◌, length, nat_eq, codes}
use Rattle.std.specs.List.{list_all}
use Rattle.beam_code.specs.declared.gates.TheConstants as gate
use Rattle.beam_code.specs.declared.instr.Instr.{Instr}
use Rattle.beam_code.specs.declared.instr.Instr.TheVariants as i
use Rattle.beam_code.specs.Gates.{may_raise, raise_gates, raises_through}
use Rattle.beam_code.specs.Shape.{shape_of}
use Rattle.beam_rows.specs.Exceptions.{plus}
use Rattle.beam_rows.specs.Hand.{callee, modules, name}
use Rattle.beam_rows.specs.Small.{num, to_x, x}

-- the gates that the pages number
abbrev pub GatesHaveTheirNumbers : Type 0
GatesHaveTheirNumbers =
    (gate.GATE_STOP ≡ 0)
    × (gate.GATE_OUT_OF_REDUCTIONS ≡ 1)
    × (gate.GATE_STACK_FULL ≡ 2)
    × (gate.GATE_UNDEF ≡ 7)
    × (gate.GATE_FUNCTION_CLAUSE ≡ 8)
    × (gate.GATE_BADMATCH ≡ 9)
    × (gate.GATE_CASE_CLAUSE ≡ 10)
    × (gate.GATE_TRY_CLAUSE ≡ 11)
    × (gate.GATE_IF_CLAUSE ≡ 12)
    × (gate.GATE_RAISE ≡ 13)
    × (gate.GATE_RAW_RAISE ≡ 14)
    × (gate.GATE_BADARITH ≡ 15)
    × (gate.GATE_BADARG ≡ 16)
    × (gate.GATE_BUILT_INS ≡ 64)
    × (gate.GATE_GUARDS ≡ 128)

-- an item raises through each of these gates, no two of which are the same, and has as many
abbrev pub Through : Instr → List ℕ → Type 0
Through instr gates =
    (list_all (raises_through modules (shape_of instr)) gates && nat_eq (length (raise_gates modules (shape_of instr))) (length gates)) ≡ true

abbrev pub NotThrough : Instr → ℕ → Type 0
NotThrough instr gate = raises_through modules (shape_of instr) gate ≡ false

-- errors and raises; built-ins with a fail label and without; one that a `bif` cannot name; functions of m, of which f/1 alone
-- is exported, and of a module that is not given
abbrev pub ItemsRaiseThrough : Type 0
ItemsRaiseThrough =
    Through (i.FuncInfo name (codes "f") 1) (8 ∷ [])
    × Through (i.Badmatch (x 0)) (9 ∷ [])
    × Through (i.CaseEnd (x 0)) (10 ∷ [])
    × Through (i.TryCaseEnd (x 0)) (11 ∷ [])
    × Through i.IfEnd (12 ∷ [])
    × Through (i.Raise (x 0) (x 1) (to_x 0)) (13 ∷ [])
    × Through (i.BifRaise (x 0) (x 1) (to_x 0)) (13 ∷ [])
    × Through i.RawRaise (14 ∷ [])
    × Through (i.Bif (codes "hd") 0 (x 0 ∷ []) (to_x 0)) (16 ∷ 96 ∷ [])
    × Through (i.Bif (codes "hd") 3 (x 0 ∷ []) (to_x 0)) []
    × Through (i.GcBif (codes "-") 0 1 (x 0 ∷ []) (to_x 0)) (15 ∷ 75 ∷ [])
    × Through (i.GcBif (codes "-") 0 1 (x 0 ∷ num 1 ∷ []) (to_x 0)) (15 ∷ 65 ∷ [])
    × Through (i.GcBif (codes "-") 3 1 (x 0 ∷ []) (to_x 0)) []
    × Through (i.Bif (codes "=:=") 0 (x 0 ∷ x 1 ∷ []) (to_x 0)) []
    × Through (i.Bif (codes "++") 0 (x 0 ∷ x 1 ∷ []) (to_x 0)) []
    × Through (i.CallExtLast 2 plus 1) (15 ∷ 64 ∷ [])
    × Through (i.CallExtOnly 2 plus) (15 ∷ 64 ∷ [])
    × Through (i.CallExt 1 (callee name (codes "f") 1)) []
    × Through (i.CallExt 0 (callee name (codes "g") 0)) (7 ∷ [])
    × Through (i.CallExtOnly 0 (callee name (codes "h") 0)) (7 ∷ [])
    × Through (i.CallExt 0 (callee (codes "n") (codes "g") 0)) []
    × Through (i.Call 1 2) []
    × Through (i.Move (x 0) (to_x 0)) []
    × Through i.Return []
    × NotThrough i.IfEnd 11
    × NotThrough (i.CallExt 2 plus) 16
    × NotThrough (i.CallExt 2 plus) 65

-- calls of built-ins
abbrev pub Erlang : List ℕ → ℕ → List ℕ → Type 0
Erlang f arity gates = Through (i.CallExt arity (callee (codes "erlang") f arity)) gates

abbrev pub Lists : List ℕ → ℕ → List ℕ → Type 0
Lists f arity gates = Through (i.CallExt arity (callee (codes "lists") f arity)) gates

abbrev pub BuiltInsRaiseThrough : Type 0
BuiltInsRaiseThrough =
    Erlang (codes "+") 2 (15 ∷ 64 ∷ [])
    × Erlang (codes "-") 2 (15 ∷ 65 ∷ [])
    × Erlang (codes "*") 2 (15 ∷ 66 ∷ [])
    × Erlang (codes "div") 2 (15 ∷ 67 ∷ [])
    × Erlang (codes "rem") 2 (15 ∷ 68 ∷ [])
    × Erlang (codes "band") 2 (15 ∷ 69 ∷ [])
    × Erlang (codes "bor") 2 (15 ∷ 70 ∷ [])
    × Erlang (codes "bxor") 2 (15 ∷ 71 ∷ [])
    × Erlang (codes "bsl") 2 (15 ∷ 72 ∷ [])
    × Erlang (codes "bsr") 2 (15 ∷ 73 ∷ [])
    × Erlang (codes "bnot") 1 (15 ∷ 74 ∷ [])
    × Erlang (codes "-") 1 (15 ∷ 75 ∷ [])
    × Erlang (codes "+") 1 (15 ∷ 76 ∷ [])
    × Erlang (codes "abs") 1 (16 ∷ 77 ∷ [])
    × Erlang (codes "=:=") 2 []
    × Erlang (codes "=/=") 2 []
    × Erlang (codes "==") 2 []
    × Erlang (codes "/=") 2 []
    × Erlang (codes "<") 2 []
    × Erlang (codes ">") 2 []
    × Erlang (codes "=<") 2 []
    × Erlang (codes ">=") 2 []
    × Erlang (codes "and") 2 (16 ∷ 86 ∷ [])
    × Erlang (codes "or") 2 (16 ∷ 87 ∷ [])
    × Erlang (codes "xor") 2 (16 ∷ 88 ∷ [])
    × Erlang (codes "not") 1 (16 ∷ 89 ∷ [])
    × Erlang (codes "is_integer") 1 []
    × Erlang (codes "is_atom") 1 []
    × Erlang (codes "is_list") 1 []
    × Erlang (codes "is_tuple") 1 []
    × Erlang (codes "is_boolean") 1 []
    × Erlang (codes "is_number") 1 []
    × Erlang (codes "hd") 1 (16 ∷ 96 ∷ [])
    × Erlang (codes "tl") 1 (16 ∷ 97 ∷ [])
    × Erlang (codes "element") 2 (16 ∷ 98 ∷ [])
    × Erlang (codes "tuple_size") 1 (16 ∷ 99 ∷ [])
    × Erlang (codes "length") 1 (16 ∷ 100 ∷ [])
    × Erlang (codes "min") 2 []
    × Erlang (codes "max") 2 []
    × Erlang (codes "setelement") 3 (16 ∷ 103 ∷ [])
    × Erlang (codes "++") 2 (16 ∷ 104 ∷ [])
    × Erlang (codes "list_to_tuple") 1 (16 ∷ 105 ∷ [])
    × Erlang (codes "tuple_to_list") 1 (16 ∷ 106 ∷ [])
    × Lists (codes "reverse") 2 (16 ∷ 107 ∷ [])
    × Lists (codes "member") 2 (16 ∷ 108 ∷ [])
    × Erlang (codes "throw") 1 (109 ∷ [])
    × Erlang (codes "exit") 1 (110 ∷ [])
    × Erlang (codes "error") 1 (111 ∷ [])
    × Erlang (codes "error") 2 (112 ∷ [])
    × Erlang (codes "is_float") 1 []
    × Erlang (codes "is_pid") 1 []
    × Erlang (codes "is_reference") 1 []
    × Erlang (codes "is_port") 1 []
    × Erlang (codes "is_binary") 1 []
    × Erlang (codes "is_bitstring") 1 []
    × Erlang (codes "is_map") 1 []
    × Erlang (codes "is_function") 1 []

-- what a function raises comes back to a call that waits
abbrev pub May : Instr → Bool → Type 0
May instr may = may_raise modules (shape_of instr) ≡ may

abbrev pub ItemsMayRaise : Type 0
ItemsMayRaise =
    May (i.Call 1 2) true
    × May (i.CallLast 1 2 1) false
    × May (i.CallOnly 1 2) false
    × May (i.CallExt 1 (callee name (codes "f") 1)) true
    × May (i.CallExtLast 1 (callee name (codes "f") 1) 1) false
    × May (i.CallExtOnly 1 (callee name (codes "f") 1)) false
    × May (i.CallExtOnly 0 (callee name (codes "g") 0)) true
    × May (i.CallExtOnly 2 plus) true
    × May (i.Bif (codes "hd") 0 (x 0 ∷ []) (to_x 0)) true
    × May (i.Bif (codes "hd") 3 (x 0 ∷ []) (to_x 0)) false
    × May (i.Bif (codes "=:=") 0 (x 0 ∷ x 1 ∷ []) (to_x 0)) false
    × May i.IfEnd true
    × May i.Return false
