-- What an event of the running function does to the frames that wait (docs/BEAM.md, Frames).
use Rattle.std.specs.Prelude.{ℕ, ◌+◌, ◌-◌, Option, Some, None, List, [], ◌∷◌}
use Rattle.small_step.specs.Stage.{Stage, Still, Done}
use Rattle.term_tree.specs.Tree as t
use Rattle.beam_code.specs.declared.call.Limits.{Limits}
use Rattle.beam_code.specs.declared.module.Module.{Module}
use Rattle.beam_code.specs.Function.{Placed, function_at, cost_of}
use Rattle.beam_code.specs.Raise.{raise_in}
use Rattle.beam_code.specs.Row.{local_step}
use Rattle.beam_code.specs.State.{Local, Frame, BeamState, Finish, Returned, Ended, Stuck, Event, Calls, TailCalls, Returns, Raises, Ends, only}

abbrev pub cost_at : Option Placed → ℕ
cost_at None = 0
cost_at (Some p) = cost_of p.function

-- the stack words of frames that wait
abbrev pub costs_of : List Module → List Frame → ℕ
costs_of ms [] = 0
costs_of ms (frame ∷ frames) = cost_at (function_at ms frame.function) + costs_of ms frames

abbrev pub state_of : ℕ → List Frame → Local → BeamState
state_of fid frames l = record { function = fid; here = l; frames = frames }

abbrev pub frame_of : ℕ → Local → Frame
frame_of fid l = record { function = fid; item = l.item; ys = l.ys }

-- a function at its entry: its arguments in x0 and up, every other x register undefined, and no stack frame
abbrev pub begun : ℕ → List t.Tree → Local → Local
begun entry args l = record l { item = entry; xs = only args; ys = None }

abbrev pub entered : List Frame → ℕ → List t.Tree → Local → Option Placed → Stage BeamState Finish
entered frames fid args l None = Done (record { outcome = Ended Stuck; state = state_of fid frames l })
entered frames fid args l (Some p) = Still (state_of fid frames (begun p.function.entry args l))

-- a return to the innermost frame that waits: its value in x0, the other x registers undefined
abbrev pub back_in : List Frame → ℕ → t.Tree → Local → Stage BeamState Finish
back_in [] fid v l = Done (record { outcome = Returned v; state = state_of fid [] l })
back_in (frame ∷ frames) fid v l =
    Still (state_of frame.function frames (record l { item = frame.item + 1; xs = only (v ∷ []); ys = frame.ys }))

abbrev pub happens : List Module → Limits → ℕ → List Frame → Event → Stage BeamState Finish
happens ms limits fid frames (Calls callee args l) = entered (frame_of fid l ∷ frames) callee args l (function_at ms callee)
happens ms limits fid frames (TailCalls callee args l) = entered frames callee args l (function_at ms callee)
happens ms limits fid frames (Returns v l) = back_in frames fid v l
happens ms limits fid frames (Raises class reason l) =
    raise_in ms limits (record { class = class; reason = reason; used = l.used; left = l.left }) (state_of fid frames l) (frame_of fid l ∷ frames)
happens ms limits fid frames (Ends e l) = Done (record { outcome = Ended e; state = state_of fid frames l })

-- a row of the running function, and what it does to the frames
abbrev pub after : List Module → Limits → ℕ → List Frame → Stage Local Event → Stage BeamState Finish
after ms limits fid frames (Still l) = Still (state_of fid frames l)
after ms limits fid frames (Done e) = happens ms limits fid frames e

abbrev pub row_at : List Module → Limits → BeamState → Option Placed → Stage BeamState Finish
row_at ms limits s None = Done (record { outcome = Ended Stuck; state = s })
row_at ms limits s (Some p) =
    after ms limits s.function s.frames (local_step ms limits (limits.stack - costs_of ms s.frames) p s.here)

-- one row
abbrev pub beam_step : List Module → Limits → BeamState → Stage BeamState Finish
beam_step ms limits s = row_at ms limits s (function_at ms s.function)
