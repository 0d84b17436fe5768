-- Paths of small functions, worked by hand.
use Rattle.std.proofs.Common.{◌≡◌, ℕ, Bool, true, false, Option, Some, None, List, [], ◌∷◌, refl, map}
use Rattle.std.specs.Prelude.{codes, slice_get}
use Rattle.beam_code.specs.declared.instr.Instr.{Instr}
use Rattle.beam_code.specs.declared.instr.Instr.TheVariants as i
use Rattle.beam_code.specs.declared.instr.Operand.TheVariants as o
use Rattle.beam_code.specs.declared.instr.Place.TheVariants as place
use Rattle.beam_code.specs.declared.module.Function.{Function}
use Rattle.beam_code.specs.declared.module.Module.{Module}
use Rattle.beam_code.specs.Function.{Placed}
use Rattle.beam_code.specs.State.{x_registers}
use Rattle.path_rules.specs.declared.rule.Rule.{Rule}
use Rattle.path_rules.specs.declared.rule.Rule.TheVariants.{FallsOff, BadHandler, StackSize, TagState, Undefined, HeapUncovered}
use Rattle.path_rules.specs.Points.{Point, moves_at, start_of, first_defined, none_defined, y_registers}
use Rattle.path_rules.specs.Rules.{breaks_at}
use Rattle.path_rules.specs.declared.tag.Tag.{Tag}
use Rattle.path_rules.specs.declared.tag.TagKind.TheVariants.{Try}

abbrev name : List ℕ
name = codes "m"

-- m:f/1 with its calls at item 2, and these items behind that
abbrev function : List Instr → Function
function instrs = record {
  name = codes "f";
  arity = 1;
  entry = 2;
  items = map (λ (instr : Instr). record { line = 1; instr = instr }) (i.Label 1 ∷ i.FuncInfo name (codes "f") 1 ∷ i.Label 2 ∷ instrs);
}

abbrev placed : Function → Placed
placed f = record { owner = record { name = name; exports = []; functions = f ∷ []; text = [] }; function = f }

abbrev modules : Function → List Module
modules f = (placed f).owner ∷ []

-- the point that a path comes to: at each item the move by this number
abbrev follow : Function → List ℕ → Point → Option Point
follow f [] p = Some p
follow f (k ∷ ks) p = elim (slice_get (moves_at (modules f) f p (slice_get f.items p.item)) k) [ None ↦ None | Some q ↦ follow f ks q ]

abbrev comes : Function → List ℕ → Option Point
comes f choices = follow f choices (start_of f)

-- whether the rule is broken there
abbrev breaks : Rule → Function → Option Point → Option Bool
breaks rule f None = None
breaks rule f (Some p) = Some (breaks_at (modules f) (placed f) rule p (slice_get f.items p.item))

-- a `try` around a built-in that may fail
abbrev tries : Function
tries = function (
    i.Allocate 1 1  -- item 3
    ∷ i.Try 0 3
    ∷ i.Bif (codes "hd") 0 (o.X 0 ∷ []) (place.X 1)
    ∷ i.TryEnd 0  -- item 6
    ∷ i.Deallocate 1
    ∷ i.Return
    ∷ i.Label 3  -- item 9
    ∷ i.TryCase 0
    ∷ i.Deallocate 1
    ∷ i.Return
    ∷ []
    )

abbrev tag : Tag
tag = record { y = 0; kind = Try; label = 3 }

abbrev point : ℕ → Option ℕ → List Tag → ℕ → Bool → Point
point item stack tags defined raised = record {
  item = item;
  stack = stack;
  tags = tags;
  xs = first_defined defined x_registers;
  ys = none_defined y_registers;
  covered = 0;
  raised = raised;
}

guarded : comes tries (0 ∷ 0 ∷ 0 ∷ []) ≡ Some (point 5 (Some 1) (tag ∷ []) 1 false)
guarded = refl

unguarded : comes tries (0 ∷ 0 ∷ 0 ∷ 0 ∷ 0 ∷ 0 ∷ []) ≡ Some (point 8 None [] 2 false)
unguarded = refl

caught : comes tries (0 ∷ 0 ∷ 0 ∷ 1 ∷ []) ≡ Some (point 9 (Some 1) (tag ∷ []) 3 true)
caught = refl

handled : comes tries (0 ∷ 0 ∷ 0 ∷ 1 ∷ 0 ∷ []) ≡ Some (point 10 (Some 1) (tag ∷ []) 3 true)
handled = refl

behind : comes tries (0 ∷ 0 ∷ 0 ∷ 1 ∷ 0 ∷ 0 ∷ []) ≡ Some (point 11 (Some 1) [] 3 false)
behind = refl

well_handled : breaks BadHandler tries (comes tries (0 ∷ 0 ∷ [])) ≡ Some false
well_handled = refl

well_ended : breaks TagState tries (comes tries (0 ∷ 0 ∷ 0 ∷ 1 ∷ 0 ∷ [])) ≡ Some false
well_ended = refl

no_more : comes tries (0 ∷ 0 ∷ 0 ∷ 0 ∷ 0 ∷ 0 ∷ 0 ∷ []) ≡ None
no_more = refl

-- y registers that move down, and a tag that would be trimmed away
abbrev trims : Function
trims = function (
    i.Allocate 3 1  -- item 3
    ∷ i.Move (o.X 0) (place.Y 1)
    ∷ i.Trim 1 2
    ∷ i.Move (o.Y 0) (place.X 1)  -- item 6
    ∷ i.Catch 1 2
    ∷ i.Trim 2 0
    ∷ []
    )

moved_down : comes trims (0 ∷ 0 ∷ 0 ∷ 0 ∷ 0 ∷ []) ≡ Some (record (point 7 (Some 2) [] 2 false) { ys = first_defined 1 y_registers })
moved_down = refl

trimmed_away : breaks TagState trims (comes trims (0 ∷ 0 ∷ 0 ∷ 0 ∷ 0 ∷ 0 ∷ [])) ≡ Some true
trimmed_away = refl

fits : breaks StackSize trims (comes trims (0 ∷ 0 ∷ 0 ∷ 0 ∷ 0 ∷ 0 ∷ [])) ≡ Some false
fits = refl

falls_off : breaks FallsOff trims (comes trims (0 ∷ 0 ∷ 0 ∷ 0 ∷ 0 ∷ 0 ∷ [])) ≡ Some true
falls_off = refl

-- a cell behind a heap test of its words, and another
abbrev puts : Function
puts = function (
    i.TestHeap 3 1  -- item 3
    ∷ i.PutList (o.X 0) o.Nil (place.X 1)
    ∷ i.PutList (o.X 1) (o.X 2) (place.X 2)
    ∷ i.Return
    ∷ []
    )

asked : comes puts (0 ∷ 0 ∷ []) ≡ Some (record (point 4 None [] 1 false) { covered = 3 })
asked = refl

put : comes puts (0 ∷ 0 ∷ 0 ∷ []) ≡ Some (record (point 5 None [] 2 false) { covered = 1 })
put = refl

covered : breaks HeapUncovered puts (comes puts (0 ∷ 0 ∷ [])) ≡ Some false
covered = refl

uncovered : breaks HeapUncovered puts (comes puts (0 ∷ 0 ∷ 0 ∷ [])) ≡ Some true
uncovered = refl

undefined : breaks Undefined puts (comes puts (0 ∷ 0 ∷ 0 ∷ [])) ≡ Some true
undefined = refl
