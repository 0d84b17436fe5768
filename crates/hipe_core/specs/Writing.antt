-- What one step of a command writes, and how that ends it (docs/COMMANDS.md).
use Rattle.std.specs.Prelude.{ℕ, ◌≡◌, true, false, List, Some, slice_get}
use Rattle.beam_code.specs.declared.module.Module.{Module}
use Rattle.hipe_base.specs.Sink.{Seen}
use Rattle.hipe_core.specs.declared.ending.Ending.{Ending}
use Rattle.hipe_core.specs.declared.ending.Ending.TheVariants.{Said, CannotWrite, NoMemory, NotBuilt}
use Rattle.hipe_core.specs.Image.{IsImageOf}
use Rattle.hipe_core.specs.Saying.{Says}

-- a text: all of it, or a prefix where that failed, or nothing where there was no memory for it
abbrev pub WritesText : Ending → List ℕ → Seen → Seen → Type 0
WritesText (Said status) text before after = (status ≡ 0) × Says true text before after
WritesText CannotWrite text before after = Says false text before after
WritesText NoMemory text before after = after ≡ before
WritesText e text before after = ⊥

-- an image of these modules
abbrev pub WritesImageOf : Ending → List Module → Seen → Seen → Type 0
WritesImageOf (Said status) ms before after = (status ≡ 0) × ((image : List ℕ) × IsImageOf ms image × Says true image before after)
WritesImageOf CannotWrite ms before after = (image : List ℕ) × IsImageOf ms image × Says false image before after
WritesImageOf NoMemory ms before after = after ≡ before
WritesImageOf e ms before after = ⊥

-- the first file is named as what is not built
abbrev pub IsNotBuiltBy : Ending → List (List ℕ) → Type 0
IsNotBuiltBy (NotBuilt file) names = slice_get names 0 ≡ Some file.now
IsNotBuiltBy e names = ⊥
