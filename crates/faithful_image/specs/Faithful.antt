-- An image that does what its texts say (docs/MACHINE.md, Faithful images). Later parts are further fields.
use Rattle.std.specs.Prelude.{ℕ, ◌≡◌, ◌≢◌, ◌+◌, ◌<◌, List, length, map, Some, Contains}
use Rattle.small_step.specs.Stage.{Stage, Still, Done, IfDone, IfStill}
use Rattle.beam_code.specs.declared.module.Module.{Module}
use Rattle.beam_code.specs.Function.{Placed, function_at}
use Rattle.beam_code.specs.State as b
use Rattle.mode_switch.specs.Call.{Call, IsCallOf, loaded, run_of}
use Rattle.mode_switch.specs.Destination.{item_address, first_item}
use Rattle.mode_switch.specs.Run.{bound}
use Rattle.mode_switch.specs.State.{Loaded, MixedState, Finish}
use Rattle.image_format.specs.declared.parts.Parts.{Parts}
use Rattle.faithful_image.specs.Agreement.{Agrees}
use Rattle.faithful_image.specs.Meaning.{meaning_of}

-- what the machine said agrees with what the call means
abbrev pub AgreesWith : Loaded → Stage b.BeamState b.Finish → Finish → Type 0
AgreesWith g (Still s) said = ⊥
AgreesWith g (Done meant) said = Agrees g meant said

-- PC is at no item of these functions
abbrev pub IsApart : List Module → List ℕ → ℕ → Type 0
IsApart ms chosen pc =
    (fid i : ℕ) (p : Placed) → Contains chosen fid → function_at ms fid ≡ Some p → i < length p.function.items → pc ≢ item_address (first_item ms fid + i)

-- the run is over
abbrev pub IsOver : Stage MixedState Finish → Type 0
IsOver (Still s) = ⊥
IsOver (Done said) = Unit {0}

-- the image of these modules in which these functions are native
pub record IsFaithful (ms : List Module) (chosen : List ℕ) (parts : Parts) : Type 0 where
  -- it carries the texts and the choice
  pub texts : parts.texts ≡ map (λ m. m.text) ms
  pub choice : map (λ n. n.fid) parts.natives ≡ chosen
  -- its runs agree with the meaning, end within the bound, and run chosen functions native
  pub agrees : (call : Call) → IsCallOf ms call → (n : ℕ) → IfDone (run_of (loaded ms parts call) call n) (AgreesWith (loaded ms parts call) (meaning_of ms call))
  pub ends : (call : Call) → IsCallOf ms call → IsOver (run_of (loaded ms parts call) call (bound (loaded ms parts call)))
  pub native : (call : Call) → IsCallOf ms call → (n : ℕ) → IfStill (run_of (loaded ms parts call) call n) (λ s. IsApart ms chosen s.regs.pc)
