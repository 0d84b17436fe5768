-- Texts and their modules (README.md).
use Rattle.std.specs.Prelude.{◌≡◌, ℕ, List, [], ◌∷◌, Some, Err, Result, Ok, slice_get, take}
use Rattle.beam_code.specs.declared.module.Module.{Module}
use Rattle.beam_profile.specs.declared.module.TheConstants.{LAST_INDEX}
use Rattle.beam_profile.specs.declared.refusal.ModuleRefusal.{ModuleRefusal}
use Rattle.beam_profile.specs.declared.refusal.ModuleRefusal.TheVariants as unread
use Rattle.beam_profile.specs.Module.{module_of_text}
use Rattle.beam_profile.specs.Whole.{IsModuleOf}
use Rattle.module_check.specs.declared.refusal.CheckRefusal.{CheckRefusal}
use Rattle.module_check.specs.declared.refusal.CheckRefusal.TheVariants as check
use Rattle.module_check.specs.Refusals.{IsRefusedBy}
use Rattle.module_texts.specs.declared.refusal.TextsRefusal.{TextsRefusal}
use Rattle.module_texts.specs.declared.refusal.TextsRefusal.TheVariants as texts
use Rattle.path_rules.specs.Profile.{InProfile}

-- the modules are those of the texts, in their order
abbrev pub AreModulesOf : List (List ℕ) → List Module → Type 0
AreModulesOf [] [] = Unit {0}
AreModulesOf [] (m ∷ ms) = ⊥
AreModulesOf (t ∷ ts) [] = ⊥
AreModulesOf (t ∷ ts) (m ∷ ms) = IsModuleOf LAST_INDEX t m × AreModulesOf ts ms

-- why a text is none of a module; want of memory is told apart
abbrev pub IsCauseOf : List ℕ → ModuleRefusal → Type 0
IsCauseOf text (unread.Memory e) = ⊥
IsCauseOf text e = module_of_text LAST_INDEX text ≡ Err e

-- the texts before this one are those of modules, and it is that of none
pub record IsUnread (ts : List (List ℕ)) (index : ℕ) (e : ModuleRefusal) : Type 0 where
  pub before : List Module
  pub read : AreModulesOf (take index ts) before
  pub text : List ℕ
  pub is : slice_get ts index ≡ Some text
  pub refused : IsCauseOf text e

abbrev pub IsOutBy : List Module → CheckRefusal → Type 0
IsOutBy ms (check.Memory e) = ⊥
IsOutBy ms r = IsRefusedBy ms r

-- the texts are those of modules, which are refused
pub record AreOut (ts : List (List ℕ)) (r : CheckRefusal) : Type 0 where
  pub modules : List Module
  pub read : AreModulesOf ts modules
  pub out : IsOutBy modules r

-- why texts are refused: the first that is none of a module, or else why the modules are out of the profile; want of
-- memory may come at any time
abbrev pub AreRefusedBy : List (List ℕ) → TextsRefusal → Type 0
AreRefusedBy ts (texts.Module index e) = IsUnread ts index e
AreRefusedBy ts (texts.Check r) = AreOut ts r
AreRefusedBy ts (texts.Memory e) = Unit {0}

abbrev pub IsMemory : TextsRefusal → Type 0
IsMemory (texts.Memory e) = Unit {0}
IsMemory _ = ⊥

-- a refusal of the modules as one of the texts
abbrev pub as_texts : CheckRefusal → TextsRefusal
as_texts (check.Memory e) = texts.Memory e
as_texts r = texts.Check r

-- the texts are those of modules in the profile
pub record AreProfiled (ts : List (List ℕ)) (ms : List Module) : Type 0 where
  pub read : AreModulesOf ts ms
  pub profile : InProfile ms

-- what was read of the text at this place
abbrev pub IsReadAt : List ℕ → ℕ → Result Module TextsRefusal → Type 0
IsReadAt text index (Ok m) = IsModuleOf LAST_INDEX text m
IsReadAt text index (Err (texts.Module i e)) = (i ≡ index) × IsCauseOf text e
IsReadAt text index (Err (texts.Check r)) = ⊥
IsReadAt text index (Err (texts.Memory e)) = Unit {0}

-- what was read of them all, or why the reading stopped
abbrev pub AreRead : List (List ℕ) → Result (List Module) TextsRefusal → Type 0
AreRead ts (Ok ms) = AreModulesOf ts ms
AreRead ts (Err (texts.Module index e)) = IsUnread ts index e
AreRead ts (Err (texts.Check r)) = ⊥
AreRead ts (Err (texts.Memory e)) = Unit {0}
