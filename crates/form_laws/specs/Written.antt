-- How the values of a form's parts are written, which values a form allows, and which are past their limits
-- (docs/BEAM.md, Instructions).
use Rattle.std.specs.Prelude.{ℕ, ◌+◌, pos, Bool, true, false, ◌||◌, ◌&&◌, nat_lt, not, List, [], ◌∷◌, length, None, codes, map}
use Rattle.term_tree.specs.declared.term.Term.{Term}
use Rattle.term_tree.specs.declared.term.Term as t
use Rattle.beam_code.specs.declared.instr.Operand.{Operand}
use Rattle.beam_code.specs.declared.instr.Operand.TheVariants as o
use Rattle.beam_code.specs.declared.instr.Place.{Place}
use Rattle.beam_code.specs.declared.instr.Place.TheVariants as p
use Rattle.beam_code.specs.declared.instr.Case.{Case}
use Rattle.beam_code.specs.declared.instr.ArityCase.{ArityCase}
use Rattle.beam_code.specs.declared.instr.Callee.{Callee}
use Rattle.module_forms.specs.Kind.{Kind, Val, Vals, Number, Stack, Arity, Any, Named, Source, Dest, Slot, Jump, Entry, Fail, NoFail, TwoSources, Elements, Cases, ArityCases, Function, Looks, Arguments}
use Rattle.module_forms.specs.declared.part.Look.{Look}
use Rattle.module_forms.specs.declared.part.Look.TheVariants as look
use Rattle.module_forms.specs.Kind.{Spelled, Full, Bare}
use Rattle.module_forms.specs.Part.{takes}

abbrev pub number : ℕ → Term
number n = t.Int (pos n)

abbrev pub tagged : List ℕ → Term → Term
tagged word u = t.Tuple (t.Atom word ∷ u ∷ [])

abbrev pub proper : List Term → Term
proper ts = t.List ts None

abbrev pub place : Place → Term
place (p.X n) = tagged (codes "x") (number n)
place (p.Y n) = tagged (codes "y") (number n)

abbrev pub source : Operand → Term
source (o.X n) = tagged (codes "x") (number n)
source (o.Y n) = tagged (codes "y") (number n)
source (o.Int i) = tagged (codes "integer") (t.Int i)
source (o.Atom a) = tagged (codes "atom") (t.Atom a)
source o.Nil = t.Atom (codes "nil")
source (o.Literal u) = tagged (codes "literal") u

abbrev pub label : ℕ → Term
label n = tagged (codes "f") (number n)

abbrev pub function : Callee → Term
function c = t.Tuple (t.Atom (codes "extfunc") ∷ t.Atom c.owner ∷ t.Atom c.name ∷ number c.arity ∷ [])

abbrev pub pair_parts : {A : Type 0} → (A → Term) → (A → Term) → List A → List Term
pair_parts first second [] = []
pair_parts first second (c ∷ cs) = first c ∷ second c ∷ pair_parts first second cs

abbrev pub case_value : Case → Term
case_value c = source c.value

abbrev pub case_label : Case → Term
case_label c = label c.label

abbrev pub arity_value : ArityCase → Term
arity_value c = number c.arity

abbrev pub arity_label : ArityCase → Term
arity_label c = label c.label

-- what a test looks at: an operand, or a bare number
abbrev pub spelling : Spelled → Term
spelling (Full operand) = source operand
spelling (Bare n) = number n

-- a part of a form
abbrev pub written : (k : Kind) → Val k → Term
written Number n = number n
written Stack n = number n
written Arity n = number n
written Any u = u
written Named a = tagged (codes "atom") (t.Atom a)
written Source s = source s
written Dest d = place d
written Slot n = tagged (codes "y") (number n)
written Jump n = label n
written Entry n = label n
written Fail n = label n
written NoFail v = label 0
written TwoSources v = proper (source v.0 ∷ source v.1 ∷ [])
written Elements ss = tagged (codes "list") (proper (map source ss))
written Cases cs = tagged (codes "list") (proper (pair_parts case_value case_label cs))
written ArityCases cs = tagged (codes "list") (proper (pair_parts arity_value arity_label cs))
written Function c = function c
written (Looks ls) ss = proper (map spelling ss)
written (Arguments name) ss = proper (map source ss)

-- whether a number in it is past its limit, where `last` is the greatest index
abbrev pub past : ℕ → ℕ → Bool
past last n = nat_lt last n

abbrev pub place_wide : ℕ → Place → Bool
place_wide last (p.X n) = past last n
place_wide last (p.Y n) = past last n

abbrev pub source_wide : ℕ → Operand → Bool
source_wide last (o.X n) = past last n
source_wide last (o.Y n) = past last n
source_wide last (o.Int i) = false
source_wide last (o.Atom a) = false
source_wide last o.Nil = false
source_wide last (o.Literal u) = false

abbrev pub spelled_wide : ℕ → Spelled → Bool
spelled_wide last (Full operand) = source_wide last operand
spelled_wide last (Bare n) = false

abbrev pub any_wide : {A : Type 0} → (A → Bool) → List A → Bool
any_wide wide [] = false
any_wide wide (s ∷ ss) = wide s || any_wide wide ss

abbrev pub is_wide : ℕ → (k : Kind) → Val k → Bool
is_wide last Stack n = nat_lt (last + 1) n
is_wide last Source s = source_wide last s
is_wide last Dest d = place_wide last d
is_wide last Slot n = past last n
is_wide last TwoSources v = source_wide last v.0 || source_wide last v.1
is_wide last Elements ss = any_wide (source_wide last) ss
is_wide last (Looks ls) ss = any_wide (spelled_wide last) ss
is_wide last (Arguments name) ss = any_wide (source_wide last) ss
is_wide last other v = false

-- what values the form allows
abbrev pub is_constant : Operand → Bool
is_constant (o.Int i) = true
is_constant (o.Atom a) = true
is_constant other = false

abbrev pub is_constant_case : Case → Bool
is_constant_case c = is_constant c.value

abbrev pub is_any : {A : Type 0} → A → Bool
is_any x = true

abbrev pub all_fine : {A : Type 0} → (A → Bool) → List A → Bool
all_fine fine [] = true
all_fine fine (c ∷ cs) = fine c && all_fine fine cs

abbrev pub is_arity : ℕ → Bool
is_arity n = not (nat_lt 255 n)

abbrev pub is_atom : Operand → Bool
is_atom (o.Atom a) = true
is_atom other = false

abbrev pub is_full : Spelled → Bool
is_full (Full operand) = true
is_full (Bare n) = false

abbrev pub is_full_atom : Spelled → Bool
is_full_atom (Full operand) = is_atom operand
is_full_atom (Bare n) = false

abbrev pub fits : Look → Spelled → Bool
fits look.Source s = is_full s
fits look.Number s = not (is_full s)
fits look.Atom s = is_full_atom s
fits look.Either s = true

-- each thing that a test looks at, in order
abbrev pub all_fit : List Look → List Spelled → Bool
all_fit [] [] = true
all_fit (l ∷ ls) [] = false
all_fit [] (s ∷ ss) = false
all_fit (l ∷ ls) (s ∷ ss) = fits l s && all_fit ls ss

abbrev pub is_fine : (k : Kind) → Val k → Bool
is_fine Arity n = is_arity n
is_fine Cases cs = all_fine is_constant_case cs
is_fine Function c = is_arity c.arity
is_fine (Looks ls) ss = all_fit ls ss
is_fine (Arguments name) ss = takes name (length ss)
is_fine other v = true

-- the parts of these kinds
abbrev pub written_all : (ks : List Kind) → Vals ks → List Term
written_all [] vs = []
written_all (k ∷ ks) vs = written k vs.0 ∷ written_all ks vs.1

abbrev pub fine_all : (ks : List Kind) → Vals ks → Bool
fine_all [] vs = true
fine_all (k ∷ ks) vs = is_fine k vs.0 && fine_all ks vs.1

abbrev pub wide_all : ℕ → (ks : List Kind) → Vals ks → Bool
wide_all last [] vs = false
wide_all last (k ∷ ks) vs = is_wide last k vs.0 || wide_all last ks vs.1
