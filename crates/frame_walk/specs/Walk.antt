-- The frames that wait, innermost first (docs/MACHINE.md, Walks over frames): each is found by the address to which its call returns.
use Rattle.std.specs.Prelude.{ℕ, zero, suc, ◌+◌, ◌-◌, ◌*◌, ◌/◌, ◌%◌, ◌^◌, ◌&&◌, Option, Some, None, Result, Ok, Err, List, [], ◌∷◌, length, take, drop, slice_index_or, nat_eq, nat_lt, nat_le, if◌then◌else◌}
use Rattle.beam_code.specs.declared.module.HandlerKind.{HandlerKind}
use Rattle.beam_code.specs.declared.module.HandlerKind.TheVariants as kinds
use Rattle.frame_walk.specs.declared.frame.Broken.{Broken}
use Rattle.frame_walk.specs.declared.frame.Frame.{Frame}
use Rattle.frame_walk.specs.declared.frame.TheConstants.{STOP_ADDRESS}
use Rattle.frame_walk.specs.declared.frame.Target.{Target}
use Rattle.frame_walk.specs.declared.frame.Target.TheVariants.{Handler, Uncaught}
use Rattle.frame_walk.specs.declared.frame.Target.TheVariants as target
use Rattle.image_format.specs.declared.parts.Descriptor.{Descriptor}
use Rattle.native_link.specs.Lookup.{descriptor_of}
use Rattle.tagged_words.specs.Region.{Region}

-- a frame: what is known of it, the address of its slot 0, and the words of its slots
pub record Shown : Type 0 where
  pub descriptor : Descriptor
  pub at : ℕ
  pub slots : List ℕ

-- what a walk gives: a frame, or the return address where it breaks
abbrev pub Found : Type 0
Found = Result Shown Broken

abbrev pub broken_at : ℕ → Found
broken_at ret = Err (record { ret = ret })

-- the words of a region from an address up; none where no word lies there
abbrev pub words_up : Region → ℕ → List ℕ
words_up r at = if nat_eq (at % 4) 0 && nat_le r.start at then drop ((at - r.start) / 4) r.words else []

-- the frame with a descriptor, of one word at least, where so many of the words from its slot 0 up are there
abbrev pub frame_in : ℕ → List ℕ → Option Descriptor → Option Shown
frame_in at ws None = None
frame_in at ws (Some d) =
    if nat_lt 0 d.frame && nat_le d.frame (length ws) then Some (record { descriptor = d; at = at; slots = take d.frame ws }) else None

-- the frame whose call returns to an address
abbrev pub frame_of : List Descriptor → ℕ → ℕ → List ℕ → Option Shown
frame_of ds ret at ws = frame_in at ws (descriptor_of ds ret)

-- where the function of a frame returns to: slot 0 has its link
abbrev pub return_of : List ℕ → ℕ
return_of slots = (slice_index_or slots 0 0 + 8) % 2 ^ 32

-- the address behind a frame, and the words from there up
abbrev pub behind : Shown → ℕ
behind f = (f.at + 4 * f.descriptor.frame) % 2 ^ 32

abbrev pub others_up : Shown → List ℕ → List ℕ
others_up f ws = drop f.descriptor.frame ws

-- a frame and those that wait for it, or the break
abbrev pub from_frame : (ℕ → ℕ → List ℕ → List Found) → ℕ → List ℕ → Option Shown → List Found
from_frame others ret ws None = broken_at ret ∷ []
from_frame others ret ws (Some f) = Ok f ∷ others (return_of f.slots) (behind f) (others_up f ws)

-- at most so many frames: from a return address and the words from an address up, to the stop address or to a break
abbrev pub walked : List Descriptor → ℕ → ℕ → ℕ → List ℕ → List Found
walked ds zero ret at ws = if nat_eq ret STOP_ADDRESS then [] else broken_at ret ∷ []
walked ds (suc most) ret at ws = if nat_eq ret STOP_ADDRESS then [] else from_frame (walked ds most) ret ws (frame_of ds ret at ws)

-- as each frame has a word, there are no more frames than words
abbrev pub walked_up : List Descriptor → ℕ → ℕ → List ℕ → List Found
walked_up ds ret at ws = walked ds (length ws) ret at ws

-- the walk over a stack from the call that returns to `ret`, whose frame is at `sp`
abbrev pub walk : List Descriptor → Region → ℕ → ℕ → List Found
walk ds stack ret sp = walked_up ds ret sp (words_up stack sp)

-- what the caller of a walk is given
abbrev pub shown_frame : Frame → Shown
shown_frame f = record { descriptor = f.descriptor.now; at = f.at; slots = f.slots.now }

abbrev pub shown : Result Frame Broken → Found
shown (Ok f) = Ok (shown_frame f)
shown (Err b) = Err b

-- where a raise goes on, given where it does if this frame has no handler
abbrev pub handled : Shown → HandlerKind → Target → Target
handled f kinds.None others = others
handled f kinds.Try others = Handler f.descriptor.handler f.at kinds.Try
handled f kinds.Catch others = Handler f.descriptor.handler f.at kinds.Catch

-- where a raise goes on: at the handler of the first frame that has one
abbrev pub target_of : List Found → Target
target_of [] = Uncaught
target_of (Err b ∷ rest) = target.Broken b.ret
target_of (Ok f ∷ rest) = handled f f.descriptor.kind (target_of rest)
