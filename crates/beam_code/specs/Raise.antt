-- Exceptions: which handler takes one, and what it finds (docs/BEAM.md, Exceptions).
use Rattle.std.specs.Prelude.{ℕ, ◌+◌, Option, Some, None, List, [], ◌∷◌, nat_lt, if◌then◌else◌, codes}
use Rattle.std.specs.Option.{option_and_then}
use Rattle.small_step.specs.Stage.{Stage, Still, Done}
use Rattle.term_tree.specs.Tree as t
use Rattle.beam_code.specs.declared.call.Limits.{Limits}
use Rattle.beam_code.specs.declared.call.RaiseClass.{RaiseClass}
use Rattle.beam_code.specs.declared.call.RaiseClass.TheVariants.{Error, Exit, Throw}
use Rattle.beam_code.specs.declared.module.Module.{Module}
use Rattle.beam_code.specs.Function.{Placed, function_at, label_in}
use Rattle.beam_code.specs.State.{Slot, Tag, TagKind, OfTry, OfCatch, Frame, BeamState, Finish, Raised, Ended, HeapFull, Stuck, only}

-- the mark of a handler
pub record Handler : Type 0 where
  pub kind : TagKind
  pub label : ℕ

-- the lowest y register that is marked
abbrev pub lowest : List Slot → Option Handler
lowest [] = None
lowest (Tag kind label ∷ slots) = Some (record { kind = kind; label = label })
lowest (_ ∷ slots) = lowest slots

abbrev pub lowest_tag : Option (List Slot) → Option Handler
lowest_tag None = None
lowest_tag (Some ys) = lowest ys

-- the item of a label of a function
abbrev pub label_at : ℕ → Placed → Option ℕ
label_at n p = label_in p.function n

-- the atom of a class
abbrev pub class_name : RaiseClass → List ℕ
class_name Error = codes "error"
class_name Exit = codes "exit"
class_name Throw = codes "throw"

-- what a `catch` gives, and the heap words that it takes
abbrev pub exit_pair : t.Tree → t.Tree
exit_pair reason = t.Tuple (t.More (t.Atom (codes "EXIT")) (t.More reason t.No))

abbrev pub caught : RaiseClass → t.Tree → t.Tree
caught Throw reason = reason
caught Exit reason = exit_pair reason
caught Error reason = exit_pair (t.Tuple (t.More reason (t.More t.Nil t.No)))

abbrev pub caught_words : RaiseClass → ℕ
caught_words Throw = 0
caught_words Exit = 3
caught_words Error = 6

-- what stays of a run where an exception looks for its handler
pub record Search : Type 0 where
  pub class : RaiseClass
  pub reason : t.Tree
  pub used : ℕ
  pub left : ℕ

-- a frame goes on at an item with these terms in its x registers, and so many more heap words used
abbrev pub resumed : Search → Frame → List Frame → ℕ → List t.Tree → ℕ → BeamState
resumed s frame frames item vs words =
    record {
      function = frame.function;
      here = record { item = item; xs = only vs; ys = frame.ys; used = s.used + words; left = s.left };
      frames = frames;
    }

-- the state in which the search came to a frame
abbrev pub searching : Search → Frame → List Frame → BeamState
searching s frame frames = resumed s frame frames frame.item [] 0

abbrev pub class_atom : RaiseClass → t.Tree
class_atom class = t.Atom (class_name class)

abbrev pub handled : Limits → Search → Frame → List Frame → TagKind → Option ℕ → Stage BeamState Finish
handled limits s frame frames kind None = Done (record { outcome = Ended Stuck; state = searching s frame frames })
handled limits s frame frames OfTry (Some item) =
    Still (resumed s frame frames item (class_atom s.class ∷ s.reason ∷ class_atom s.class ∷ []) 0)
handled limits s frame frames OfCatch (Some item) =
    if nat_lt limits.heap (s.used + caught_words s.class) then Done (record { outcome = Ended HeapFull; state = searching s frame frames })
    else Still (resumed s frame frames item (caught s.class s.reason ∷ []) (caught_words s.class))

-- the frames are looked at from inside out; the first with a mark takes the exception, and those inside it are dropped
abbrev pub raise_in : List Module → Limits → Search → BeamState → List Frame → Stage BeamState Finish
raise_in ms limits s from [] = Done (record { outcome = Raised s.class s.reason; state = from })
raise_in ms limits s from (frame ∷ frames) =
    elim (lowest_tag frame.ys) [
      | None ↦ raise_in ms limits s from frames
      | Some h ↦ handled limits s frame frames h.kind (option_and_then (label_at h.label) (function_at ms frame.function))
    ]
