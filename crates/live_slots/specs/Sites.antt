-- Frames wait at sites, and rows raise at sites (README.md).
use Rattle.std.specs.Prelude.{◌≡◌, ℕ, ◌≤◌, false, List}
use Rattle.small_step.specs.Stage.{Done}
use Rattle.beam_code.specs.declared.call.Limits.{Limits}
use Rattle.beam_code.specs.declared.call.RaiseClass.{RaiseClass}
use Rattle.beam_code.specs.declared.module.Module.{Module}
use Rattle.beam_code.specs.Function.{Placed}
use Rattle.beam_code.specs.Row.{local_step}
use Rattle.beam_code.specs.Shape.{shape_of}
use Rattle.beam_code.specs.State.{Frame, Local, Raises}
use Rattle.live_slots.specs.Live.{IsLive, IsLiveAtSite, IsSite, Slot, stores}
use Rattle.run_laws.specs.Formed.{AreChecked}
use Rattle.run_laws.specs.Shown.{IsShown, Waits}
use Rattle.term_tree.specs.Tree.{Tree}

-- each frame that waits in a run
abbrev pub FramesWaitAtSites : Type 0
FramesWaitAtSites = (ms : List Module) (frame : Frame) (waits : Waits ms frame) → IsSite ms waits.placed.function frame.item

-- each row of a run that raises
abbrev pub RowsRaiseAtSites : Type 0
RowsRaiseAtSites =
    (ms : List Module) (limits : Limits) (heap room function : ℕ) (l m : Local) (shown : IsShown ms heap function l) (class : RaiseClass) (reason : Tree) → AreChecked ms → limits.heap ≤ heap
    → local_step ms limits room shown.placed l ≡ Done (Raises class reason m) → IsSite ms shown.placed.function l.item

-- a slot that is live at a site is live at its item, where the item does not store it: no call stores one
abbrev pub SitesKeepSlots : Type 0
SitesKeepSlots =
    (ms : List Module) (f : Placed) (slot item : ℕ) (live : IsLiveAtSite ms f.function (Slot slot) item) → stores (shape_of live.site.instr.instr) live.site.point.stack (Slot slot) ≡ false
    → IsLive ms f.function (Slot slot) item
