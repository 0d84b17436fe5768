-- What each part of a form is, or `None` where it is out of its shape (docs/BEAM.md, Instructions). An index past
-- `last`, or a stack number past one more, is read too, and marked as too wide.
use Rattle.std.specs.Prelude.{◌≡◌, IsTrue, ℕ, ◌+◌, ℤ, pos, Bool, true, false, ◌||◌, ◌&&◌, nat_lt, nat_eq, if◌then◌else◌, List, [], ◌∷◌, ◌++◌, length, Option, Some, None, option_and_then, Result, Ok, Err, codes}
use Rattle.std.specs.Option.{option_map}
use Rattle.std.specs.List.{list_any}
use Rattle.std.specs.Str.{bytes_eq}
use Rattle.term_tree.specs.declared.term.Term.{Term, out-Term}
use Rattle.term_tree.specs.declared.term.Term.TheOpen.{Term-F}
use Rattle.beam_code.specs.BuiltIns.{BuiltIn, built_ins, is_inline}
use Rattle.beam_code.specs.declared.instr.Operand.{Operand}
use Rattle.beam_code.specs.declared.instr.Operand.TheVariants as o
use Rattle.beam_code.specs.declared.instr.Place.{Place}
use Rattle.beam_code.specs.declared.instr.Place.TheVariants as p
use Rattle.beam_code.specs.declared.instr.Case.{Case}
use Rattle.beam_code.specs.declared.instr.ArityCase.{ArityCase}
use Rattle.beam_code.specs.declared.instr.Callee.{Callee}
use Rattle.module_forms.specs.declared.part.Got.{Got}
use Rattle.module_forms.specs.declared.part.Look.{Look}
use Rattle.module_forms.specs.declared.part.Look.TheVariants as look
use Rattle.module_forms.specs.declared.part.Fault.{Fault}
use Rattle.module_forms.specs.declared.part.Fault.TheVariants as fault
use Rattle.module_forms.specs.Kind.{Spelled, Full, Bare}

abbrev pub number_in : Term-F Term → Option ℕ
number_in (Term-F.Int (pos n)) = Some n
number_in other = None

abbrev pub number_of : Term → Option ℕ
number_of t = number_in (out-Term t)

abbrev pub integer_in : Term-F Term → Option ℤ
integer_in (Term-F.Int i) = Some i
integer_in other = None

abbrev pub integer_of : Term → Option ℤ
integer_of t = integer_in (out-Term t)

abbrev pub atom_in : Term-F Term → Option (List ℕ)
atom_in (Term-F.Atom a) = Some a
atom_in other = None

abbrev pub atom_of : Term → Option (List ℕ)
atom_of t = atom_in (out-Term t)

-- the elements of a list without a tail
abbrev pub list_with : List Term → Option Term → Option (List Term)
list_with items None = Some items
list_with items (Some tail) = None

abbrev pub list_in : Term-F Term → Option (List Term)
list_in (Term-F.List items tail) = list_with items tail
list_in other = None

abbrev pub list_of : Term → Option (List Term)
list_of t = list_in (out-Term t)

-- the elements of a tuple
abbrev pub tuple_in : Term-F Term → Option (List Term)
tuple_in (Term-F.Tuple items) = Some items
tuple_in other = None

abbrev pub tuple_of : Term → Option (List Term)
tuple_of t = tuple_in (out-Term t)

-- `{word,t}`
abbrev pub with_word : Option (List ℕ) → Term → Option (List ℕ × Term)
with_word None t = None
with_word (Some word) t = Some (word, t)

abbrev pub pair_with : List Term → Option (List ℕ × Term)
pair_with (h ∷ t ∷ []) = with_word (atom_of h) t
pair_with other = None

abbrev pub pair_in : Term-F Term → Option (List ℕ × Term)
pair_in (Term-F.Tuple parts) = pair_with parts
pair_in other = None

abbrev pub pair_of : Term → Option (List ℕ × Term)
pair_of t = pair_in (out-Term t)

-- `t`, where it stands in `{word,t}`
abbrev pub behind_in : List ℕ → Option (List ℕ × Term) → Option Term
behind_in word None = None
behind_in word (Some q) = if bytes_eq q.0 word then Some q.1 else None

abbrev pub behind : List ℕ → Term → Option Term
behind word t = behind_in word (pair_of t)

abbrev pub label_of : Term → Option ℕ
label_of t = option_and_then number_of (behind (codes "f") t)

abbrev pub named_of : Term → Option (List ℕ)
named_of t = option_and_then atom_of (behind (codes "atom") t)

-- a value from another, as wide as that; and one that is not too wide
abbrev pub got : {A B : Type 0} → (A → B) → Got A → Got B
got f g = record { value = f g.value; wide = g.wide }

abbrev pub plain : {A : Type 0} → A → Got A
plain x = record { value = x; wide = false }

-- what is kept of an index, and whether it is too wide
abbrev pub index : ℕ → ℕ → Got ℕ
index last n = if nat_lt last n then record { value = 0; wide = true } else record { value = n; wide = false }

abbrev pub x_place : ℕ → Term → Option (Got Place)
x_place last t = option_map (λ n. got p.X (index last n)) (number_of t)

abbrev pub y_place : ℕ → Term → Option (Got Place)
y_place last t = option_map (λ n. got p.Y (index last n)) (number_of t)

abbrev pub place_with : ℕ → Option (List ℕ × Term) → Option (Got Place)
place_with last None = None
place_with last (Some q) =
    if bytes_eq q.0 (codes "x") then x_place last q.1
    else if bytes_eq q.0 (codes "y") then y_place last q.1
    else None

abbrev pub place_of : ℕ → Term → Option (Got Place)
place_of last t = place_with last (pair_of t)

abbrev pub register : Place → Operand
register (p.X n) = o.X n
register (p.Y n) = o.Y n

abbrev pub integer_operand : Term → Option (Got Operand)
integer_operand t = option_map (λ i. plain (o.Int i)) (integer_of t)

abbrev pub atom_operand : Term → Option (Got Operand)
atom_operand t = option_map (λ a. plain (o.Atom a)) (atom_of t)

abbrev pub tagged_operand : ℕ → List ℕ → Term → Option (Got Operand)
tagged_operand last word t =
    if bytes_eq word (codes "x") then option_map (got register) (x_place last t)
    else if bytes_eq word (codes "y") then option_map (got register) (y_place last t)
    else if bytes_eq word (codes "integer") then integer_operand t
    else if bytes_eq word (codes "atom") then atom_operand t
    else if bytes_eq word (codes "literal") then Some (plain (o.Literal t))
    else None

abbrev pub operand_with : ℕ → Option (List ℕ × Term) → Option (Got Operand)
operand_with last None = None
operand_with last (Some q) = tagged_operand last q.0 q.1

abbrev pub bare_operand : List ℕ → Option (Got Operand)
bare_operand a = if bytes_eq a (codes "nil") then Some (plain o.Nil) else None

abbrev pub operand_in : ℕ → Term-F Term → Option (Got Operand)
operand_in last (Term-F.Atom a) = bare_operand a
operand_in last (Term-F.Tuple parts) = operand_with last (pair_with parts)
operand_in last other = None

abbrev pub operand_of : ℕ → Term → Option (Got Operand)
operand_of last t = operand_in last (out-Term t)

-- ---- rows of parts

abbrev pub one_more : {A : Type 0} → Got A → Got (List A) → Got (List A)
one_more g gs = record { value = g.value ∷ gs.value; wide = g.wide || gs.wide }

abbrev pub each_of : {A : Type 0} → (Term → Option (Got A)) → List Term → Option (Got (List A))
each_of read [] = Some (plain [])
each_of read (t ∷ ts) = option_and_then (λ g. option_map (one_more g) (each_of read ts)) (read t)

-- these in front
abbrev pub in_front : {A : Type 0} → Got (List A) → Got (List A) → Got (List A)
in_front g gs = record { value = g.value ++ gs.value; wide = g.wide || gs.wide }

abbrev pub onto : {A : Type 0} → Got (List A) → Option (Got (List A)) → Option (Got (List A))
onto g gs = option_map (in_front g) gs

-- two by two
abbrev pub pairs_of : {A : Type 0} → (Term → Term → Option (Got A)) → List Term → Option (Got (List A))
pairs_of read [] = Some (plain [])
pairs_of read (a ∷ []) = None
pairs_of read (a ∷ b ∷ ts) = option_and_then (λ g. option_map (one_more g) (pairs_of read ts)) (read a b)

-- what a selection tells apart: an integer or an atom
abbrev pub constant_with : Option (List ℕ × Term) → Option (Got Operand)
constant_with None = None
constant_with (Some q) =
    if bytes_eq q.0 (codes "integer") then integer_operand q.1
    else if bytes_eq q.0 (codes "atom") then atom_operand q.1
    else None

abbrev pub constant_of : Term → Option (Got Operand)
constant_of t = constant_with (pair_of t)

abbrev pub case_of : Term → Term → Option (Got Case)
case_of v l = option_and_then (λ g. option_map (λ n. got (λ x. record { value = x; label = n }) g) (label_of l)) (constant_of v)

abbrev pub arity_case_of : Term → Term → Option (Got ArityCase)
arity_case_of v l = option_and_then (λ n. option_map (λ to. plain (record { arity = n; label = to })) (label_of l)) (number_of v)

-- `{list,[..]}`
abbrev pub items_of : Term → Option (List Term)
items_of t = option_and_then list_of (behind (codes "list") t)

abbrev pub elements_of : ℕ → Term → Option (Got (List Operand))
elements_of last t = option_and_then (each_of (operand_of last)) (items_of t)

abbrev pub cases_of : Term → Option (Got (List Case))
cases_of t = option_and_then (pairs_of case_of) (items_of t)

abbrev pub arity_cases_of : Term → Option (Got (List ArityCase))
arity_cases_of t = option_and_then (pairs_of arity_case_of) (items_of t)

abbrev pub two_with : ℕ → List Term → Option (Got (Operand × Operand))
two_with last (a ∷ b ∷ []) =
    option_and_then (λ g. option_map (λ h. record { value = (g.value, h.value); wide = g.wide || h.wide }) (operand_of last b)) (operand_of last a)
two_with last other = None

abbrev pub two_of : ℕ → Term → Option (Got (Operand × Operand))
two_of last t = option_and_then (two_with last) (list_of t)

-- ---- what tests look at

abbrev pub bare : ℕ → Got Spelled
bare n = plain (Bare n)

abbrev pub number_or : Option ℕ → Option (Got Operand) → Option (Got Spelled)
number_or (Some n) other = Some (bare n)
number_or None other = option_map (got Full) other

abbrev pub look_of : ℕ → Look → Term → Option (Got Spelled)
look_of last look.Source t = option_map (got Full) (operand_of last t)
look_of last look.Number t = option_map bare (number_of t)
look_of last look.Atom t = option_map (λ a. plain (Full (o.Atom a))) (named_of t)
look_of last look.Either t = number_or (number_of t) (operand_of last t)

abbrev pub looks_with : ℕ → List Look → List Term → Option (Got (List Spelled))
looks_with last [] [] = Some (plain [])
looks_with last [] (t ∷ ts) = None
looks_with last (l ∷ ls) [] = None
looks_with last (l ∷ ls) (t ∷ ts) = option_and_then (λ g. option_map (one_more g) (looks_with last ls ts)) (look_of last l t)

abbrev pub looks_of : ℕ → List Look → Term → Option (Got (List Spelled))
looks_of last ls t = option_and_then (looks_with last ls) (list_of t)

-- the operand, however it was spelled
abbrev pub operand_from : Spelled → Operand
operand_from (Full operand) = operand
operand_from (Bare n) = o.Int (pos n)

abbrev pub operands_from : List Spelled → List Operand
operands_from [] = []
operands_from (s ∷ ss) = operand_from s ∷ operands_from ss

-- ---- the arguments of built-ins

-- whether a built-in with this name may stand in a form, and whether it takes so many arguments there
abbrev pub named_inline : List ℕ → BuiltIn → Bool
named_inline name b = b.inline && bytes_eq name b.name

unfoldable pub is_built_in_name : List ℕ → Bool
is_built_in_name name = list_any (named_inline name) built_ins

unfoldable pub takes : List ℕ → ℕ → Bool
takes name count = list_any (is_inline name count) built_ins

abbrev pub arguments_with : ℕ → List ℕ → List Term → Option (Got (List Operand))
arguments_with last name ts = if takes name (length ts) then each_of (operand_of last) ts else None

abbrev pub arguments_of : ℕ → List ℕ → Term → Option (Got (List Operand))
arguments_of last name t = option_and_then (arguments_with last name) (list_of t)

-- ---- numbers and functions

abbrev pub arity_of : Term → Option ℕ
arity_of t = option_and_then (λ n. if nat_lt 255 n then None else Some n) (number_of t)

abbrev pub callee_with : List Term → Option Callee
callee_with (h ∷ m ∷ f ∷ a ∷ []) =
    option_and_then (λ word. if bytes_eq word (codes "extfunc")
    then option_and_then (λ owner. option_and_then (λ name. option_map (λ arity. record { owner = owner; name = name; arity = arity }) (arity_of a)) (atom_of f)) (atom_of m)
    else None) (atom_of h)
callee_with other = None

abbrev pub callee_in : Term-F Term → Option Callee
callee_in (Term-F.Tuple parts) = callee_with parts
callee_in other = None

abbrev pub callee_of : Term → Option Callee
callee_of t = callee_in (out-Term t)

abbrev pub slot_of : ℕ → Term → Option (Got ℕ)
slot_of last t = option_map (index last) (option_and_then number_of (behind (codes "y") t))

abbrev pub stack_of : ℕ → Term → Option (Got ℕ)
stack_of last t = option_map (λ n. record { value = n; wide = nat_lt (last + 1) n }) (number_of t)

abbrev pub no_fail_of : Term → Option (Got (Unit {0}))
no_fail_of t = option_and_then (λ n. if nat_eq n 0 then Some (plain tt) else None) (label_of t)

-- ---- what a reader answers, but for want of memory

abbrev pub is_shape : Fault → Bool
is_shape fault.Shape = true
is_shape (fault.Memory e) = false

abbrev pub Gave : {X : Type 0} → Result X Fault → Option X → Type 0
Gave (Ok x) gives = gives ≡ Some x
Gave (Err e) gives = IsTrue (is_shape e) → gives ≡ None
