-- The meaning of a call (docs/BEAM.md, Meaning).
use Rattle.std.specs.Prelude.{ℕ, ◌+◌, ◌*◌, Option, Some, None, List, [], ◌∷◌}
use Rattle.small_step.specs.Stage.{Stage, run}
use Rattle.term_tree.specs.Tree as t
use Rattle.term_tree.specs.Size.{words_of}
use Rattle.beam_code.specs.declared.call.Limits.{Limits}
use Rattle.beam_code.specs.declared.module.Module.{Module}
use Rattle.beam_code.specs.Frame.{beam_step, state_of}
use Rattle.beam_code.specs.Function.{Placed, function_at, items_of}
use Rattle.beam_code.specs.State.{BeamState, Finish, only}

-- the heap words of several terms
abbrev pub words_in : List t.Tree → ℕ
words_in [] = 0
words_in (v ∷ vs) = words_of v + words_in vs

abbrev pub entry_of : Option Placed → ℕ
entry_of None = 0
entry_of (Some p) = p.function.entry

-- the start of a call: its function at the entry, and no frame that waits
abbrev pub first_state : List Module → Limits → ℕ → List t.Tree → BeamState
first_state ms limits fid args =
    state_of fid [] (record {
      item = entry_of (function_at ms fid);
      xs = only args;
      ys = None;
      used = words_in args;
      left = limits.reductions;
    })

-- within so many rows a call ends (one round of all items an activation, and some)
abbrev pub most_rows : List Module → Limits → ℕ
most_rows ms limits = (limits.reductions + 2) * (items_of ms + 2)

abbrev pub meaning : List Module → Limits → ℕ → List t.Tree → Stage BeamState Finish
meaning ms limits fid args = run (beam_step ms limits) (most_rows ms limits) (first_state ms limits fid args)
