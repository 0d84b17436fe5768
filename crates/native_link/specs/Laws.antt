-- What holds of every image that is read, and of which parts are those of one (docs/FORMAT.md).
use Rattle.std.specs.Prelude.{ℕ, ◌≡◌, ◌<◌, List, Ok, Some, None, length, slice_get}
use Rattle.beam_code.specs.declared.module.Module.{Module}
use Rattle.beam_code.specs.Function.{all_functions}
use Rattle.image_format.specs.declared.parts.Descriptor.{Descriptor}
use Rattle.image_format.specs.declared.parts.Native.{Native}
use Rattle.image_format.specs.declared.parts.Parts.{Parts}
use Rattle.image_format.specs.Fitting.{IsFitting, IsSized}
use Rattle.image_format.specs.Spelling.{spelling}
use Rattle.ir_code.specs.Constants.{ConstantsHold}
use Rattle.module_texts.specs.Texts.{AreProfiled}
use Rattle.std.specs.Prelude.{Result}
use Rattle.native_link.specs.Checking.{Linked, checking, constants_in, linked}
use Rattle.native_link.specs.Image.{Answers, IsLinked, IsReadAs}
use Rattle.native_link.specs.Places.{wrong_field}
use Rattle.native_link.specs.declared.refusal.ImageRefusal.{ImageRefusal}

-- what an image carries holds for its modules, its native functions are theirs, and no descriptor has a wrong field
pub record Keeps (l : Linked) : Type 0 where
  pub constants : ConstantsHold (constants_in l.parts) l.modules
  pub natives : (i : ℕ) (n : Native) → slice_get l.parts.natives i ≡ Some n → n.fid < length (all_functions l.modules)
  pub descriptors : (i : ℕ) (d : Descriptor) → slice_get l.parts.descriptors i ≡ Some d → wrong_field l.parts.natives l.modules d ≡ None

abbrev pub ImagesKeepTheirRules : Type 0
ImagesKeepTheirRules = (l : Linked) → IsLinked l → Keeps l

-- and where that is so, the modules ask for nothing in vain
abbrev pub NothingIsAskedInVain : Type 0
NothingIsAskedInVain = (p : Parts) (ms : List Module) → Keeps (linked p ms) → checking p ms ≡ Ok tt

-- the spelling of parts that keep all rules has one answer but for want of memory: these parts and their modules
abbrev pub ThePartsAreReadAgain : Type 0
ThePartsAreReadAgain =
    (p : Parts) (ms : List Module) → IsFitting p → IsSized p → AreProfiled p.texts ms → checking p ms ≡ Ok tt → (answer : Result Linked ImageRefusal)
    → Answers (spelling p) answer → IsReadAs (linked p ms) answer
