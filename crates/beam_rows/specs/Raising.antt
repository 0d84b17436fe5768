-- Where rows raise (docs/BEAM.md, Instructions).
use Rattle.std.specs.Prelude.{◌≡◌, true, List}
use Rattle.small_step.specs.Stage.{Done}
use Rattle.beam_code.specs.declared.call.Limits.{Limits}
use Rattle.beam_code.specs.declared.call.RaiseClass.{RaiseClass}
use Rattle.beam_code.specs.declared.module.Module.{Module}
use Rattle.beam_code.specs.Function.{Placed}
use Rattle.beam_code.specs.Gates.{has_some, raise_gates}
use Rattle.beam_code.specs.Row.{row}
use Rattle.beam_code.specs.Shape.{Shape}
use Rattle.beam_code.specs.State.{Local, Raises}
use Rattle.term_tree.specs.Tree.{Tree}

-- a row that raises is that of an item which may raise through a gate
abbrev pub RowsRaiseThroughGates : Type 0
RowsRaiseThroughGates =
    (ms : List Module) (limits : Limits) (p : Placed) (l : Local) (shape : Shape) (class : RaiseClass) (reason : Tree) (m : Local)
    → row ms limits p l shape ≡ Done (Raises class reason m) → has_some (raise_gates ms shape) ≡ true
